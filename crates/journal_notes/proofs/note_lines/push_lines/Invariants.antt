use Rattle.std.proofs.Common.{take}
use Rattle.reply_texts.specs.Lines.{Adds, AreLines}
use Rattle.journal_notes.specs.NoteLines.{IsNoteLine}
use Rattle.journal_notes.proofs.note_lines.push_lines.Given as goal

abbrev pub invariant-loop-note : goal.invariant-loop-note
invariant-loop-note l = Adds (AreLines (IsNoteLine l.file l.line) (take l.note-index l.notes)) l.initial.reply l.reply
