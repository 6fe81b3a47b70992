use Rattle.std.proofs.Common.{arith}
use Rattle.std.proofs.lemmas.Result.{on_ok_weaker}
use Rattle.plan_reasons.specs.Numbers.{AreChanges}
use Rattle.plan_reasons.proofs.Arrivals.{order_count-table}
use Rattle.plan_reasons.proofs.Lines.{exact_fields}
use Rattle.plan_reasons.proofs.order_line.push_exact.Goals as goal

pub one_more-requires : goal.one_more-requires
one_more-requires c =
    let planned = c.args.planned.now in
    rw c.exact_costs-costs.ensures.value (omega (arith, c.requires.order, order_count-table planned.network planned.problem planned.priced.table c.exact_costs-costs.ensures.table))

pub one_less-requires : goal.one_less-requires
one_less-requires c =
    let planned = c.args.planned.now in
    rw c.exact_costs-costs.ensures.value (omega (arith, c.requires.order, order_count-table planned.network planned.problem planned.priced.table c.exact_costs-costs.ensures.table))

pub further_of-requires-clause-order : goal.further_of-requires-clause-order
further_of-requires-clause-order c =
    let planned = c.args.planned.now in
    omega (arith, c.requires.order, order_count-table planned.network planned.problem planned.priced.table c.exact_costs-costs.ensures.table)

pub returns : goal.returns
returns c =
    let j = c.args.j in
    let p = c.args.planned.now.priced in
    let more = c.in_ok-more.more in
    let less = c.in_ok-less.less in
    let same = c.exact_costs-costs.ensures.value in
    let found : AreChanges p j more less c.in_ok-further.further = record {
      may_be_more = rw (← same) c.in_ok-more.ensures.some;
      costs = rw (← same) c.in_ok-more.ensures.exact;
      saves = rw (← same) c.in_ok-less.ensures;
      misses = c.in_ok-further.ensures.misses;
      gives_more = c.in_ok-further.ensures.further;
    } in
    on_ok_weaker c.end_line.result (λ last. exact_fields c.args.style p j more less c.in_ok-further.further _ _ _ found c.in_ok-push_changes.ensures.numbers c.in_ok-push_changes.ensures.text last) c.end_line.ensures
