use Rattle.std.proofs.Common.{take}
use Rattle.std.specs.Prelude.{Some, string_bytes}
use Rattle.reply_texts.specs.Lines.{Adds, AreLines}
use Rattle.journal_notes.specs.NoteLines.{IsNoteLine}
use Rattle.sessions.proofs.kept_notes.push_lines.Given as goal

abbrev pub invariant-loop-note : goal.invariant-loop-note
invariant-loop-note l = Adds (AreLines (IsNoteLine (Some l.from.file) l.from.line) (take l.note-index l.notes)) (string_bytes l.initial.text) (string_bytes l.text)
