use Rattle.std.proofs.Common.{rules}
use Rattle.commit_book.proofs.Replays.{possible_answered, possible_not_refused}
use Rattle.commit_book.proofs.ledger.make_room.Goals as goal

pub returns-in_err-reserve-clause-refused : goal.returns-in_err-reserve-clause-refused
returns-in_err-reserve-clause-refused c =
    let ok = possible_answered c.args.state.now.networks c.args.state.now.office c.args.event.now c.in_default.ensures.possible in
    search (ok, rules)

pub returns-in_err-reserve-clause-unasked : goal.returns-in_err-reserve-clause-unasked
returns-in_err-reserve-clause-unasked c = possible_not_refused _ c.args.state.now.networks c.args.state.now.office c.args.event.now c.in_default.ensures.possible

pub returns-clause-unasked : goal.returns-clause-unasked
returns-clause-unasked c = possible_not_refused _ c.args.state.now.networks c.args.state.now.office c.args.event.now c.in_default.ensures.possible

pub returns-clause-possible : goal.returns-clause-possible
returns-clause-possible c = possible_answered c.args.state.now.networks c.args.state.now.office c.args.event.now c.in_default.ensures.possible
