-- The line of a table without a plan: a JSON object whose members ascend by name.
use Rattle.std.specs.Prelude.{ℕ, List, codes}
use Rattle.serde_json.specs.Data.{Data, Members, string, object, no_members, member}
use Rattle.serde_json.specs.Written.{compact_text}
use Rattle.line_fields.specs.Written.{list_data, number_data, number_or_null}
use Rattle.table_lines.specs.TableLine.{TableText}
use Rattle.table_lines.specs.SolvedText.{with_lacks}

-- the members behind `lacks`
abbrev pub unplanned_last : TableText → Members
unplanned_last t =
    member (codes "orders") (list_data string t.orders)
    (member (codes "penalties") (list_data number_data t.penalties)
    (member (codes "wagons") (list_data string t.wagons) no_members))

-- a table without its plan: a list of costs per wagon, a number or null per order
abbrev pub unplanned_data : TableText → Data
unplanned_data t = object (member (codes "cells") (list_data (list_data number_or_null) t.cells) (with_lacks t.lacks (unplanned_last t)))

-- its JSON with no space in it; the line feed is not part of it
abbrev pub unplanned_text : TableText → List ℕ
unplanned_text t = compact_text (unplanned_data t)
