use Rattle.std.proofs.Common.{◌+◌, take, sym, arith}
use Rattle.std.specs.Prelude.{Some, string_bytes}
use Rattle.reply_texts.proofs.Lines.{Adds-line, Adds-lines-along, taken_more}
use Rattle.journal_notes.specs.NoteLines.{IsNoteLine}
use Rattle.sessions.proofs.kept_notes.push_lines.Goals as goal

pub loop-note-preserved : goal.loop-note-preserved
loop-note-preserved c =
    let is_line = IsNoteLine (Some c.args.from.file) c.args.from.line in
    let notes = c.args.notes.now in
    let i = c.loop-note.note-index in
    let note = c.note-item.result in
    Adds-lines-along is_line _ (take (i + 1) notes) _ _ (sym (taken_more notes i note note (omega arith) c.note-item.is)) (Adds-line is_line (take i notes) note (string_bytes c.args.text.now) (string_bytes c.loop-note.text) _ c.loop-note.invariant (c.in_ok-push_line.ensures {u = tt}))
