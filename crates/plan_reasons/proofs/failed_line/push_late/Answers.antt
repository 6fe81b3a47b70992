use Rattle.std.proofs.lemmas.Result.{on_ok_weaker}
use Rattle.plan_reasons.proofs.PairFields.{late_added}
use Rattle.plan_reasons.proofs.failed_line.push_late.Goals as goal

pub returns : goal.returns
returns c =
    on_ok_weaker c.end_line.result (late_added c.args.style c.args.tables.now c.args.at c.args.wagon.now c.args.order.now c.way_of-minutes.result c.arrival.result c.latest.result _ _ _ _ _ c.way_of-minutes.ensures c.arrival.ensures.value c.in_ok-push_pair.ensures (c.in_ok-push_arrival.ensures {u = tt}) c.latest.ensures (c.in_ok-moment_field.ensures {u = tt})) c.end_line.ensures
