-- What `explain` prints.
use Rattle.std.specs.Prelude.{◌≡◌, ℕ, List, map}
use Rattle.std.specs.List.{join_with_byte}
use Rattle.command_line.specs.declared.explained.Explained.{Explained}
use Rattle.command_line.specs.declared.explained.Explained.TheVariants.{Manual, Entries}
use Rattle.faults.specs.Manual.{IsManual}
use Rattle.line_engine.specs.Lines.{line_feed}
use Rattle.wagons_program.specs.Streams.{Prints, Streams}

-- the whole manual; or these entries, each of which ends its last line, with an empty line between two
abbrev pub IsExplanation : Explained → (text : List ℕ) → Type 0
IsExplanation Manual text = IsManual text
IsExplanation (Entries entries) text = text ≡ join_with_byte line_feed (map (λ entry. entry.now) entries.items)

-- it was printed, and the status is 0
pub record IsExplained (explained : Explained) (given : Streams) (status : ℕ) : Type 0 where
  pub text : List ℕ
  pub is_text : IsExplanation explained text
  pub printed : Prints given text
  pub status_is : status ≡ 0
