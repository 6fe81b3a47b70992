use Rattle.std.proofs.Common.{◌∙◌, inl, refl, sym}
use Rattle.commit_book.proofs.Ids.{fresh_by, message_found}
use Rattle.commit_book.proofs.ledger.Ledger.known_or_refused.Goals as goal

pub returns-in-Some : goal.returns-in-Some
returns-in-Some c =
    rw (← c.self.view_is) (message_found c.args.message.now.id c.self.inside.events.items c.in-Some.known (sym (c.self.invariant.indexed c.args.message.now.id) ∙ sym c.in-Some.ensures), refl)

pub returns-in-None : goal.returns-in-None
returns-in-None c =
    (rw (← c.self.view_is) (fresh_by c.args.message.now.id c.self.inside.events.items (sym (c.self.invariant.indexed c.args.message.now.id) ∙ sym c.in-None.ensures)), inl c.requires, refl)
