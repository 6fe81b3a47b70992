use Rattle.std.proofs.Common.{ℕ, List, subst}
use Rattle.std.specs.Prelude.{IfNone}
use Rattle.line_network.specs.Distance.{IsDistance}
use Rattle.line_network.specs.DistanceAnswers.{HasNoWalk}
use Rattle.plan_reasons.proofs.Arrivals.{of_some, some_way}
use Rattle.plan_reasons.proofs.reasons.way_of.Goals as goal

pub unwrap-requires : goal.unwrap-requires
unwrap-requires c =
    let net = c.args.tables.now in
    let place = c.args.wagon.now.place in
    some_way net place c.args.order.now.place c.requires.way c.between.result c.requires.distance (subst (λ (b : List ℕ). IfNone c.between.result (HasNoWalk net place b)) c.place.ensures c.between.ensures.none)

pub returns : goal.returns
returns c =
    let net = c.args.tables.now in
    let place = c.args.wagon.now.place in
    subst (λ (b : List ℕ). IsDistance net place b c.unwrap.result) c.place.ensures (of_some (IsDistance net place c.place.result) c.between.result c.unwrap.result c.unwrap.ensures c.between.ensures.distance)
