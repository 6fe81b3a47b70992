use Rattle.std.proofs.Common.{sym}
use Rattle.std.proofs.lemmas.Result.{on_ok_weaker}
use Rattle.plan_reasons.proofs.Lines.{bound_fields}
use Rattle.plan_reasons.proofs.order_line.push_last.Goals as goal

pub returns-in-Bounds : goal.returns-in-Bounds
returns-in-Bounds c = on_ok_weaker c.push_prices.result (bound_fields c.args.style c.args.planned.now.priced c.args.j c.args.numbers _ _ (sym c.in-Bounds.is) c.push_prices.ensures.price) c.push_prices.ensures.text
