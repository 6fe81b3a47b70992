-- Lines that are JSON.
use Rattle.std.specs.Prelude.{◌≡◌, ℕ, false, List, [], ◌∷◌, ◌++◌, codes, decimal, Ok}
use Rattle.serde_json.specs.Data.{Data, string, object, no_members, member}
use Rattle.line_engine.specs.Lines.{has_feed, line_feed}
use Rattle.line_fields.specs.Line.{object_of}
use Rattle.line_fields.specs.Written.{number_data}
use Rattle.table_lines.specs.TableDetails.{table_line_details}
use Rattle.table_lines.specs.TableRefusals.{table_refusal_number}
use Rattle.table_lines.specs.declared.table_refusal.TableRefusal.{TableRefusal}

-- The text is a line and its line feed. The line is the bytes of this JSON object, in UTF-8, and has no line feed in it.
pub record IsLineOf (d : Data) (text : List ℕ) : Type 0 where
  pub line : List ℕ
  pub whole : text ≡ line ++ line_feed ∷ []
  pub reads : object_of line ≡ Ok d
  pub one : has_feed line ≡ false

-- the object of a refusal: the number of the line that is refused, and the refusal's number with its details
abbrev pub refusal_data : (line : ℕ) → TableRefusal → Data
refusal_data line refusal =
    object (member (codes "line") (number_data line)
    (member (codes "refused") (string (decimal (table_refusal_number refusal) ++ table_line_details refusal)) no_members))
