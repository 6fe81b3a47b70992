use Rattle.std.proofs.Common.{◌≡◌, ◌∙◌, ap, inr, subst}
use Rattle.std.specs.Prelude.{Ok}
use Rattle.std.specs.declared.alloc.AllocFailed.{AllocFailed}
use Rattle.line_fields.specs.declared.command.Command.TheVariants as command
use Rattle.move_messages.specs.declared.event.Event.{Event}
use Rattle.move_messages.specs.declared.event.Event.TheVariants as event
use Rattle.sessions.specs.declared.feed_lines.Waiting.{Waiting}
use Rattle.sessions.specs.inner.FeedLines.{IsReadFed}
use Rattle.sessions.proofs.feed_lines.FeedLines.hold.Goals as goal

pub returns-in-Err : goal.returns-in-Err
returns-in-Err g c =
    let behind = c.feed_behind-in-Err.ensures in
    let same : event.Message c.refused.inside.0.0.message ≡ event.Message c.args.message = ap (λ (refused : AllocFailed Waiting). refused.value) c.refused.view_is ∙ c.in-Err.ensures.value_returned in
    inr (record {
      mid = behind.mid;
      before = rw c.in-Err.ensures.items at behind.before;
      fed = subst (λ (it : Event). IsReadFed behind.mid (Ok (command.Event it)) c.feed_behind-in-Err.new.lines.file) same behind.fed;
      pending = behind.pending;
    })
