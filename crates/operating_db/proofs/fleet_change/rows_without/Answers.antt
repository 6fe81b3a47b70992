use Rattle.std.proofs.Common.{◌≡◌, rules, subst, sym}
use Rattle.std.specs.BTreeMap.{get, values}
use Rattle.std.proofs.lemmas.Result.{IfOk-weaker}
use Rattle.fleet_rows.specs.Kept.{compare_numbers}
use Rattle.operating_db.specs.FleetChange.{AreRowsOf, row_without}
use Rattle.operating_db.proofs.FleetChange.{left_more, left_rows}
use Rattle.operating_db.proofs.fleet_change.rows_without.Goals as goal

pub loop-number-preserved : goal.loop-number-preserved
loop-number-preserved c =
    left_more c.args.leaving.now c.loop-number.number-index c.number-item.result (get compare_numbers c.args.fleet) (get compare_numbers c.loop-number.fleet) (get compare_numbers c.remove.new.self) c.loop-number-test.true c.number-item.is c.loop-number.invariant
    (λ number. c.remove.ensures.updates.0 number)

pub returns : goal.returns
returns c =
    let left = left_rows c.loop-number.fleet (get compare_numbers c.args.fleet) c.args.leaving.now c.loop-number.number-index c.loop-number-test.false c.values.ensures.ordered c.requires c.loop-number.invariant in
    IfOk-weaker c.collect.result (λ rows. rows.items ≡ values c.loop-number.fleet) _ (λ rows is. subst (AreRowsOf (row_without (get compare_numbers c.args.fleet) c.args.leaving.now)) (sym is) left) (search rules)
