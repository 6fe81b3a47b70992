use Rattle.std.proofs.Common.{◌≡◌, rules}
use Rattle.std.specs.Result.{result_err}
use Rattle.price_checker.specs.Faults.{first_fault}
use Rattle.price_checker.proofs.Verdict.{says_yes, yes_is_optimal}
use Rattle.price_checker.proofs.checker.check.Goals as goal

pub returns-clause-certificate : goal.returns-clause-certificate
returns-clause-certificate c =
    let fault : result_err c.check_in_order.result ≡ first_fault c.args.cells.now c.args.pairs.now c.args.prices.now.u.items c.args.prices.now.v.items = search rules in
    says_yes c.args.cells.now c.args.pairs.now c.args.prices.now.u.items c.args.prices.now.v.items _ c.check_in_order.ensures.table fault

pub returns-clause-optimal : goal.returns-clause-optimal
returns-clause-optimal c =
    let fault : result_err c.check_in_order.result ≡ first_fault c.args.cells.now c.args.pairs.now c.args.prices.now.u.items c.args.prices.now.v.items = search rules in
    yes_is_optimal c.args.cells.now c.args.pairs.now c.args.prices.now.u.items c.args.prices.now.v.items _ c.check_in_order.ensures.table fault
