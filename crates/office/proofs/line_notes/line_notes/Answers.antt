use Rattle.office.specs.inner.KnownValues.{known_values}
use Rattle.office.proofs.ReadNotes.{line_noted}
use Rattle.office.proofs.line_notes.line_notes.Goals as goal

pub returns-clause-notes : goal.returns-clause-notes
returns-clause-notes c =
    line_noted c.args.line (known_values c.args.known.now) c.args.bytes.now c.args.read.now _ _ _ _
    c.requires c.in_ok-push_read_notes.ensures.is_read c.new-text.ensures.bytes c.in_ok-push_read_notes.ensures.notes c.in_ok-push_mark_note.ensures c.in_ok-push_open_note.ensures
