use Rattle.std.proofs.Common.{◌≡◌, ◌<◌, Some, arith, sym}
use Rattle.std.proofs.lemmas.Bool.Decides.{nat_tests}
use Rattle.cost_table.specs.Table.{order_count}
use Rattle.faults.specs.declared.faults.CheckFault.TheVariants.{OverPenalty}
use Rattle.price_checker.specs.Faults.{penalty_gap}
use Rattle.price_checker.proofs.FirstBelow.{first_below_some}
use Rattle.price_checker.proofs.checker.check_penalties.Goals as goal

pub returns-then-price-penalty : goal.returns-then-price-penalty
returns-then-price-penalty c =
    let t = c.args.cells.now in
    let v = c.args.v.now in
    let j = c.loop-j.j in
    let below : j < order_count t = omega arith in
    let gap : penalty_gap t v j ≡ Some (OverPenalty j) = grind (arith, nat_tests) in
    sym (first_below_some (order_count t) j (penalty_gap t v) (OverPenalty j) below c.loop-j.invariant gap)
