use Rattle.std.proofs.Common.{◌+◌, ◌≡◌, ◌∙◌, List, ℕ, None, ap, get_or, subst, sym, arith}
use Rattle.std.specs.Prelude.{◌↔◌, IsTrue}
use Rattle.std.proofs.lemmas.List.{take_all}
use Rattle.std.proofs.lemmas.Option.{get_or_from_slice_get, slice_get_within}
use Rattle.std.proofs.lemmas.Slice.Zip.{AllZip-long}
use Rattle.line_network.specs.Network.{NetworkValue, place_index}
use Rattle.line_network.specs.DistanceAnswers.{IsAnswered}
use Rattle.wagons_and_orders.specs.declared.free_wagon.FreeWagon.{FreeWagon}
use Rattle.plan_reasons.specs.declared.tested_wagons.TestedWagon.{TestedWagon}
use Rattle.plan_reasons.specs.Reasons.{HasWay, IsCount}
use Rattle.plan_reasons.specs.inner.Tallied.{IsTested, has_load}
use Rattle.plan_reasons.proofs.Counted.{bool_byte-cond, bool_byte-le, counted_few, counted_next}
use Rattle.plan_reasons.proofs.Tested.{beside, none_seen, place_within, way_seen}
use Rattle.plan_reasons.proofs.tested_wagons.with_way.Goals.{else-has_load, then-has_load}
use Rattle.plan_reasons.proofs.tested_wagons.with_way.Goals as goal

no_wagon : TestedWagon
no_wagon = record { class = 0; load_limit = 0; place = None }

pub way-requires-clause-from : goal.way-requires-clause-from
unfolding no_wagon
way-requires-clause-from c =
    let net = c.args.planned.now.network in
    let free = beside (IsTested net c.requires.classes) c.args.planned.now.problem.wagons c.args.wagons.now c.loop-wagon.wagon-index no_wagon c.requires.seen c.loop-wagon-test.true in
    rw c.tables-tables.ensures (place_within net.places free.0.place _ free.2.place)

pub overflow_add-count : goal.overflow_add-count
overflow_add-count c =
    let net = c.args.planned.now.network in
    let wagons = c.args.planned.now.problem.wagons in
    let long = AllZip-long (IsTested net c.requires.classes) wagons c.args.wagons.now c.requires.seen in
    let few = counted_few (λ (w : FreeWagon). HasWay net w c.args.order.now) wagons c.loop-wagon.wagon-index c.loop-wagon.count (omega (arith, long, c.loop-wagon-test.true)) c.loop-wagon.invariant in
    omega (arith, few, c.from-count.ensures, bool_byte-le c.if-has_load.has_way)

pub loop-wagon-preserved : goal.loop-wagon-preserved
unfolding no_wagon
loop-wagon-preserved c =
    let net = c.args.planned.now.network in
    let wagons = c.args.planned.now.problem.wagons in
    let order = c.args.order.now in
    let marks = c.args.listed.now in
    let i = c.loop-wagon.wagon-index in
    let one : TestedWagon = get_or c.args.wagons.now i no_wagon in
    let free = beside (IsTested net c.requires.classes) wagons c.args.wagons.now i no_wagon c.requires.seen c.loop-wagon-test.true in
    let wagon = free.0 in
    let to = c.index_of-to.ensures.index ∙ ap (λ (n : NetworkValue). place_index n.places c.place.result) (c.network.ensures ∙ c.tables-tables.ensures) ∙ ap (place_index net.places) c.place.ensures in
    let loads : c.has_load.result ≡ has_load marks order.load one = c.has_load.ensures ∙ ap (λ (load : ℕ). has_load marks load one) c.load-load.ensures.value in
    let mark : IsTrue c.if-has_load.has_way ↔ HasWay net wagon order = elim c.if-has_load.branch [
      | then-has_load w ↦ way_seen net c.requires.classes order marks c.requires.marks wagon one free.2 _ _ w.way.result loads w.if-has_load.true (subst (λ (n : NetworkValue). (a b : List ℕ) → place_index n.places a ≡ one.place → place_index n.places b ≡ c.index_of-to.result → IsAnswered n a b w.way.result) c.tables-tables.ensures w.way.ensures wagon.place order.place (sym free.2.place) (sym to)) (w.has_way-is ∙ w.is_some-has_way.ensures)
      | else-has_load w ↦ none_seen net c.requires.classes order marks c.requires.marks wagon one free.2 _ _ loads w.if-has_load.false (w.has_way-is ∙ w.if-has_load.false)
    ] in
    counted_next (λ (w : FreeWagon). HasWay net w order) wagons i _ _ wagon c.if-has_load.has_way (slice_get_within wagons i wagon free.1) (sym (get_or_from_slice_get wagons i wagon wagon free.1)) c.loop-wagon.invariant mark (ap (λ (m : ℕ). c.loop-wagon.count + m) (c.from-count.ensures ∙ bool_byte-cond c.if-has_load.has_way))

pub returns : goal.returns
returns c =
    let net = c.args.planned.now.network in
    let wagons = c.args.planned.now.problem.wagons in
    let long = AllZip-long (IsTested net c.requires.classes) wagons c.args.wagons.now c.requires.seen in
    subst (λ (xs : List FreeWagon). IsCount (λ (w : FreeWagon). HasWay net w c.args.order.now) xs c.loop-wagon.count) (take_all c.loop-wagon.wagon-index wagons (omega (arith, long, c.loop-wagon-test.false))) c.loop-wagon.invariant
