-- The line of a table with a plan: a JSON object whose members ascend by name.
use Rattle.std.specs.Prelude.{ℕ, List, Option, Some, None, codes}
use Rattle.serde_json.specs.Data.{Data, Members, string, object, no_members, member}
use Rattle.serde_json.specs.Written.{compact_text}
use Rattle.line_fields.specs.Written.{list_data, number_data, number_or_null, pair_data}
use Rattle.price_checker.specs.declared.prices.Prices.{Prices}
use Rattle.table_lines.specs.TableLine.{TableText, table_text, with_plan}
use Rattle.table_lines.specs.declared.table_line.TableLine.{TableLine}

-- the table of a line with this plan and these prices
abbrev pub planned_table : TableLine → List (List ℕ × List ℕ) → Prices → TableText
planned_table line pairs prices = with_plan (table_text line) pairs prices.u.items prices.v.items

-- what the orders lack, where the table says it, before the other members
abbrev pub with_lacks : Option (List ℕ) → Members → Members
with_lacks None others = others
with_lacks (Some lacks) others = member (codes "lacks") (list_data number_data lacks) others

-- the members behind `lacks`
abbrev pub last_members : TableText → Members
last_members t =
    member (codes "orders") (list_data string t.orders)
    (member (codes "pairs") (list_data pair_data t.pairs)
    (member (codes "penalties") (list_data number_data t.penalties)
    (member (codes "u") (list_data number_data t.u)
    (member (codes "v") (list_data number_data t.v)
    (member (codes "wagons") (list_data string t.wagons) no_members)))))

-- a table with its plan, the plan's cost and its prices, in km: a list of costs per wagon, a number or null per order
abbrev pub solved_data : TableText → (cost : ℕ) → Data
solved_data t cost =
    object (member (codes "cells") (list_data (list_data number_or_null) t.cells)
    (member (codes "cost") (number_data cost) (with_lacks t.lacks (last_members t))))

-- its JSON with no space in it; the line feed is not part of it
abbrev pub solved_text : TableText → (cost : ℕ) → List ℕ
solved_text t cost = compact_text (solved_data t cost)
