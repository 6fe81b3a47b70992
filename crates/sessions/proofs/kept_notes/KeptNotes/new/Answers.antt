use Rattle.std.proofs.Common.{◌≡◌}
use Rattle.journal_notes.specs.EventNotes.{office_of}
use Rattle.journal_notes.proofs.Answered.{lent_office}
use Rattle.sessions.proofs.KeptLines.{kept_first}
use Rattle.sessions.proofs.kept_notes.KeptNotes.new.Goals as goal

pub returns : goal.returns
returns c =
    let first : c.state.result.now.office ≡ office_of c.args.book.now = lent_office c.state.result.now c.args.book.now c.state.ensures.state in
    kept_first c.args.book.now _ c.requires.networks c.requires.no_entry c.of.ensures.streaks c.new.ensures.bytes c.in_ok-nothing_heard.ensures (rw first at c.of.ensures.watch)
