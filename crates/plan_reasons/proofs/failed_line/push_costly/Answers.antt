use Rattle.std.proofs.lemmas.Result.{on_ok_weaker}
use Rattle.plan_reasons.proofs.PairFields.{costly_added}
use Rattle.plan_reasons.proofs.failed_line.push_costly.Goals as goal

pub returns : goal.returns
returns c =
    on_ok_weaker c.push_kilometres.result (λ is. costly_added c.args.style c.args.tables.now c.args.at c.args.wagon.now c.args.order.now c.way_of-km.result c.from.result _ _ c.way_of-km.ensures c.requires c.from.ensures c.push_kilometres.ensures.km c.push_kilometres.ensures.penalty is) c.push_kilometres.ensures.text
