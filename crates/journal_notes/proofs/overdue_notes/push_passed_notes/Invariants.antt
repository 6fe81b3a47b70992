use Rattle.std.proofs.Common.{◌≡◌, ◌++◌, take}
use Rattle.std.specs.List.{flat_map}
use Rattle.journal_notes.specs.inner.Passed.{passed_notes_of}
use Rattle.journal_notes.proofs.overdue_notes.push_passed_notes.Given as goal

abbrev pub invariant-loop-row : goal.invariant-loop-row
invariant-loop-row l = l.notes.items ≡ l.initial.notes.items ++ flat_map (passed_notes_of l.from l.until) (take l.row-index l.rows)
