use Rattle.std.proofs.Common.{◌+◌, ◌++◌, ◌∷◌, [], List, take, refl, subst, sym}
use Rattle.wagons_and_orders.specs.declared.free_wagon.FreeWagon.{FreeWagon}
use Rattle.reply_texts.proofs.Lines.{taken_more}
use Rattle.plan_reasons.specs.declared.tested_wagons.TestedWagon.{TestedWagon}
use Rattle.plan_reasons.specs.inner.Tallied.{AreTested}
use Rattle.plan_reasons.proofs.Tested.{one_tested}
use Rattle.plan_reasons.proofs.tested_wagons.tested_wagons.Goals as goal

pub loop-wagon-preserved : goal.loop-wagon-preserved
loop-wagon-preserved c =
    let net = c.args.network.now in
    let wagons = c.wagons-wagon-items.result.now in
    let wagon = c.wagon-item.result in
    let i = c.loop-wagon.wagon-index in
    let one : TestedWagon = record { class = c.in_ok-class.class; load_limit = wagon.load_limit; place = c.index_of-place.result } in
    let new = c.class_position.new.classes.items in
    let was : AreTested net (take i wagons) c.loop-wagon.classes.items c.loop-wagon.wagons.items = subst (λ (xs : List FreeWagon). AreTested net (take i xs) c.loop-wagon.classes.items c.loop-wagon.wagons.items) (sym c.wagons-wagon-items.ensures.wagons) c.loop-wagon.invariant in
    let next = one_tested net (take i wagons) c.loop-wagon.classes.items new c.loop-wagon.wagons.items wagon one was c.in_ok-class.ensures.kept (record { class = c.in_ok-class.ensures.there; load = refl; place = c.index_of-place.ensures.index }) in
    let longer = taken_more wagons i wagon wagon c.loop-wagon-test.true c.wagon-item.is in
    let taken = subst (λ (xs : List FreeWagon). AreTested net xs new (c.loop-wagon.wagons.items ++ one ∷ [])) (sym longer) next in
    subst (λ (xs : List FreeWagon). AreTested net (take (i + 1) xs) new c.push.new.self.items) c.wagons-wagon-items.ensures.wagons (subst (AreTested net (take (i + 1) wagons) new) (sym (c.in_ok-push.ensures.items)) taken)
