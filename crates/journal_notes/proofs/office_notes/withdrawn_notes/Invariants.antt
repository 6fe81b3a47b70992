use Rattle.std.proofs.Common.{◌≡◌, map, take}
use Rattle.journal_notes.specs.OfficeNotes.{withdrawn_note}
use Rattle.journal_notes.proofs.office_notes.withdrawn_notes.Given as goal

abbrev pub invariant-loop-wagon : goal.invariant-loop-wagon
invariant-loop-wagon l = l.notes.items ≡ map (withdrawn_note l.order) (take l.wagon-index l.wagons)
