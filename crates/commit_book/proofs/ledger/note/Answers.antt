use Rattle.std.proofs.Common.{rules, sym, ◌∙◌}
use Rattle.std.proofs.lemmas.Result.{err_from_is_err_and}
use Rattle.commit_book.specs.inner.MessageIds.{index_of}
use Rattle.commit_book.proofs.Ids.{fresh_by, message_found, noted_by}
use Rattle.commit_book.proofs.ledger.note.Goals as goal

pub returns-in_err-known-clause-noted : goal.returns-in_err-known-clause-noted
returns-in_err-known-clause-noted c =
    let fresh = fresh_by c.args.id.now c.args.events.now.items (sym (c.requires c.args.id.now) ∙ c.in_err-known.ensures.refused) in
    let refused = err_from_is_err_and c.from_residual.result c.from_residual.ensures.1 in
    rw refused.1 (fresh, c.requires)

pub returns-in-Some-clause-noted : goal.returns-in-Some-clause-noted
returns-in-Some-clause-noted c =
    (message_found c.args.id.now c.args.events.now.items c.in-Some.known (sym (c.requires c.args.id.now) ∙ rw c.in-Some.is at c.in_ok-known.ensures.known), c.requires)

pub returns-clause-noted : goal.returns-clause-noted
returns-clause-noted c =
    noted_by c.args.events.now.items c.args.id.now (index_of c.args.ids.now) (index_of c.note.new.self) c.len.result c.note.result c.requires (search rules) c.note.ensures.noted c.note.ensures.fresh c.note.ensures.refused
