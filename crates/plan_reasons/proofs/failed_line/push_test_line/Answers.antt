use Rattle.std.proofs.Common.{sym}
use Rattle.std.proofs.lemmas.Result.{on_ok_weaker}
use Rattle.plan_reasons.specs.PlaceFields.{names_of}
use Rattle.plan_reasons.proofs.PairFields.{costly_line_of, late_line_of, load_line_of}
use Rattle.plan_reasons.proofs.failed_line.push_test_line.Goals as goal

pub returns-in-Load : goal.returns-in-Load
returns-in-Load c = on_ok_weaker c.push_load.result (load_line_of c.args.form.now.style (names_of c.args.form.now) c.args.tables.now c.args.at c.args.wagon.now c.args.order.now c.args.test _ _ (sym c.in-Load.is) c.push_load.ensures.limit c.push_load.ensures.load) c.push_load.ensures.text

pub returns-in-InTime : goal.returns-in-InTime
returns-in-InTime c = on_ok_weaker c.push_late.result (late_line_of c.args.form.now.style (names_of c.args.form.now) c.args.tables.now c.args.at c.args.wagon.now c.args.order.now c.args.test _ _ (sym c.in-InTime.is)) c.push_late.ensures

pub returns-in-Cheaper : goal.returns-in-Cheaper
returns-in-Cheaper c = on_ok_weaker c.push_costly.result (costly_line_of c.args.form.now.style (names_of c.args.form.now) c.args.tables.now c.args.at c.args.wagon.now c.args.order.now c.args.test _ _ (sym c.in-Cheaper.is)) c.push_costly.ensures
