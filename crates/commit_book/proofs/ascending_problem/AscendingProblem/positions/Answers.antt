use Rattle.std.specs.Prelude.{None, Some}
use Rattle.commit_book.proofs.Searches.{pair_placed}
use Rattle.commit_book.proofs.ascending_problem.AscendingProblem.positions.Goals as goal

pub returns-in_err-j : goal.returns-in_err-j
returns-in_err-j c =
    let placed = pair_placed c.self.inside.problem c.wagons.result.now c.orders.result.now c.args.number c.args.id c.in_ok-i.i None c.wagons.ensures.wagons c.orders.ensures.orders c.in_ok-i.ensures c.in_err-j.ensures in
    rw c.from_residual-in_err-j.ensures (rw c.self.view_is at placed)

pub returns : goal.returns
returns c =
    let placed = pair_placed c.self.inside.problem c.wagons.result.now c.orders.result.now c.args.number c.args.id c.in_ok-i.i (Some c.in_ok-j.j) c.wagons.ensures.wagons c.orders.ensures.orders c.in_ok-i.ensures c.in_ok-j.ensures in
    rw c.self.view_is at placed
