-- Orders whose latest moment is passed as the newest moment moves on.
use Rattle.std.specs.Prelude.{◌≡◌, ℕ, Bool, ◌&&◌, not, nat_le, nat_lt, List, ◌++◌, MatchBool}
use Rattle.std.specs.List.{flat_map}
use Rattle.wagons_and_orders.specs.Lack.{is_open}
use Rattle.wagons_and_orders.specs.OrderRow.{OrderRowValue}
use Rattle.journal_notes.specs.NoteLists.{noted}
use Rattle.journal_notes.specs.OverdueNotes.{overdue_note}
use Rattle.journal_notes.specs.declared.note.Note.{Note}

-- whether an order is open, and its latest moment lies from one moment on and before another
abbrev pub is_passed : (from until : ℕ) → OrderRowValue → Bool
is_passed from until row = (is_open row && nat_lt row.text.latest until) && not (nat_lt row.text.latest from)

abbrev pub passed_notes_of : (from until : ℕ) → OrderRowValue → List Note
passed_notes_of from until row = noted (is_passed from until row) (overdue_note row)

-- behind these notes those of the orders that are passed; beyond the bound there may be some
abbrev pub IsWithPassed : (from bound until : ℕ) → List OrderRowValue → (said notes : List Note) → Type 0
IsWithPassed from bound until orders said notes = MatchBool (nat_le until bound) (notes ≡ said) (notes ≡ said ++ flat_map (passed_notes_of from until) orders)
