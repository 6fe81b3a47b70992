use Rattle.std.proofs.Common.{IsOk, rules}
use Rattle.operating_db.specs.After.{after_call}
use Rattle.move_messages.specs.declared.event.Event.TheVariants.{Message}
use Rattle.commit_book.specs.History.{IsFresh}
use Rattle.commit_book.specs.inner.Ledger.{office_of}
use Rattle.commit_book.proofs.ledger.Ledger.enter_message.Goals as goal

pub returns : goal.returns
returns c =
    let noted = rw c.in-Ok-None.field-0-is at c.in-Ok-None.ensures.noted in
    let fresh : IsFresh c.args.message.now.id c.args.self.now.events = rw (← c.self.view_is) noted.fresh in
    let possible : IsOk (after_call c.args.self.now.networks (office_of c.args.self.now) (Message c.args.message.now)) = rw (← c.self.view_is) (rw c.self.invariant.replayed at c.in-Ok.ensures.possible) in
    (fresh, possible, search rules)
