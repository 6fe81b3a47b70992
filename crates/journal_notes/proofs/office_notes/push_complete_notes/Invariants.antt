use Rattle.std.proofs.Common.{◌≡◌, ◌++◌, take}
use Rattle.std.specs.List.{flat_map}
use Rattle.journal_notes.specs.OfficeNotes.{complete_notes}
use Rattle.journal_notes.proofs.office_notes.push_complete_notes.Given as goal

abbrev pub invariant-loop-name : goal.invariant-loop-name
invariant-loop-name l = l.notes.items ≡ l.initial.notes.items ++ flat_map (complete_notes l.state.office) (take l.name-index l.names)
