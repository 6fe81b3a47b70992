-- What holds of everything that a run prints that solves tables.
use Rattle.std.specs.Prelude.{◌≡◌, ℕ, ◌+◌, ◌^◌, ◌<◌, ◌≤◌, Bool, true, false, not, List, length, Ok}
use Rattle.std.specs.List.{AllByRecursion, count_by}
use Rattle.serde_json.specs.Data.{Data}
use Rattle.line_engine.specs.Lines.{is_blank, is_unended, lines_of}
use Rattle.line_engine.specs.Replies.{ServesLines}
use Rattle.line_fields.specs.Line.{object_of}
use Rattle.table_lines.specs.JsonLines.{IsLineOf, refusal_data}
use Rattle.table_lines.specs.JsonReplies.{json_refused_text}
use Rattle.table_lines.specs.Solving.{SolvesLine, ToTables}
use Rattle.table_lines.specs.declared.table_refusal.TableRefusal.{TableRefusal}

-- each reply is one JSON object on a line of its own
abbrev pub RepliesAreObjects : Type 0
RepliesAreObjects =
    (n most after : ℕ) (line text : List ℕ) (refused : Bool) → n < 2 ^ 64 → SolvesLine n most line text refused after → (d : Data) × IsLineOf d text

-- a refusal reads as the object with the line's number and the refusal
abbrev pub RefusalsAreRead : Type 0
RefusalsAreRead =
    (n most after : ℕ) (line text : List ℕ) → n < 2 ^ 64 → SolvesLine n most line text true after
    → (refusal : TableRefusal) × (text ≡ json_refused_text n refusal) × IsLineOf (refusal_data n refusal) text

-- What is printed, cut into lines, is one JSON object for each line that isn't blank; the last has its line feed too.
pub record IsPrinted (lines : List (List ℕ)) (output : List ℕ) : Type 0 where
  pub objects : AllByRecursion (λ line. (d : Data) × (object_of line ≡ Ok d)) (lines_of output)
  pub count : length (lines_of output) ≡ count_by (λ line. not (is_blank line)) lines
  pub ended : is_unended output ≡ false

-- so it is of the replies to any lines, one after the other
abbrev pub OutputsAreObjects : Type 0
OutputsAreObjects =
    (n most after : ℕ) (lines : List (List ℕ)) (output : List ℕ) (refusals : ℕ)
    → n + length lines ≤ 2 ^ 64 → ServesLines ToTables n most lines output refusals after → IsPrinted lines output
