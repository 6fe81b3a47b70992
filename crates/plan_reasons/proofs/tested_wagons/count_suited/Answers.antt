use Rattle.std.proofs.Common.{◌∙◌, ℕ, Bool, None, ap, cond, get_or, refl, arith}
use Rattle.plan_reasons.specs.declared.tested_wagons.TestedWagon.{TestedWagon}
use Rattle.plan_reasons.specs.inner.Tallied.{has_load, is_of_class}
use Rattle.plan_reasons.proofs.Counted.{bool_byte-cond}
use Rattle.plan_reasons.proofs.CellCounts.{counted_more}
use Rattle.plan_reasons.proofs.tested_wagons.count_suited.Goals as goal

pub loop-wagon-preserved : goal.loop-wagon-preserved
loop-wagon-preserved c =
    let wagons = c.args.wagons.now in
    let i = c.loop-wagon.wagon-index in
    let no_wagon : TestedWagon = record { class = 0; load_limit = 0; place = None } in
    let wagon : TestedWagon = get_or wagons i no_wagon in
    let as_number : Bool → ℕ = λ b. cond b 1 0 in
    let class = counted_more (is_of_class c.args.listed.now) wagons i wagon no_wagon c.loop-wagon-test.true refl in
    let load = counted_more (has_load c.args.listed.now c.args.load) wagons i wagon no_wagon c.loop-wagon-test.true refl in
    let one = c.from.ensures ∙ bool_byte-cond c.is_of_class.result ∙ ap as_number c.is_of_class.ensures in
    let other = c.from-in-loop-wagon.ensures ∙ bool_byte-cond c.has_load.result ∙ ap as_number c.has_load.ensures in
    (omega (arith, class, one, c.loop-wagon.invariant.0), omega (arith, load, other, c.loop-wagon.invariant.1))
