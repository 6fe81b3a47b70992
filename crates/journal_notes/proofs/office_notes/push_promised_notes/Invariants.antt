use Rattle.std.proofs.Common.{◌≡◌, ◌++◌, map, take}
use Rattle.journal_notes.specs.OfficeNotes.{promised_note}
use Rattle.journal_notes.proofs.office_notes.push_promised_notes.Given as goal

abbrev pub invariant-loop-wagon : goal.invariant-loop-wagon
invariant-loop-wagon l = l.notes.items ≡ l.initial.notes.items ++ map promised_note (take l.wagon-index l.pairs)
