use Rattle.std.proofs.lemmas.Result.{on_ok_weaker}
use Rattle.plan_reasons.proofs.PairTexts.{all_near, nothing_near}
use Rattle.plan_reasons.proofs.one_text.push_failed_of_order.Goals as goal

pub returns-in-Some : goal.returns-in-Some
returns-in-Some c = nothing_near c.args.near _ _ _ c.in-Some.is

pub returns-in-None : goal.returns-in-None
returns-in-None c = on_ok_weaker c.push_all_of_order.result (all_near c.args.near _ _ _ c.in-None.is) c.push_all_of_order.ensures
