use Rattle.std.proofs.Common.{◌+◌, ◌*◌, ◌<◌, ◌≤◌, ℕ, List, subst, arith, leb}
use Rattle.std.specs.Prelude.{◌↔◌, IsTrue, max, nat_lt}
use Rattle.std.proofs.lemmas.Bool.Decides.{nat_tests}
use Rattle.line_network.specs.Distance.{IsDistance}
use Rattle.plan_reasons.proofs.Passed.{passed_with_way}
use Rattle.plan_reasons.proofs.reasons.passed_by.Goals as goal

pub returns-then-passed : goal.returns-then-passed
returns-then-passed c =
    let loaded : IsTrue c.suits.result = grind arith in
    let distance : IsDistance c.args.tables.now c.args.wagon.now.place c.args.order.now.place (c.in-Some.km, c.in-Some.minutes) = subst (λ (b : List ℕ). IsDistance c.args.tables.now c.args.wagon.now.place b (c.in-Some.km, c.in-Some.minutes)) c.place.ensures c.in-Some.ensures.distance in
    let in_time : IsTrue (leb c.arrival.result c.seconds.result) ↔ (max c.args.wagon.now.ready c.args.at + 60 * c.in-Some.minutes ≤ c.args.order.now.latest) = grind (arith, nat_tests) in
    let cheaper : IsTrue (nat_lt c.from.result c.penalty.result) ↔ (IsTrue (leb c.arrival.result c.seconds.result) × (c.in-Some.km < c.args.order.now.penalty)) = grind (arith, nat_tests) in
    passed_with_way c.args.tables.now c.args.at c.args.wagon.now c.args.order.now (c.in-Some.km, c.in-Some.minutes) _ _ _ _ c.accepts.ensures.listed c.suits.ensures loaded distance in_time cheaper

pub returns-else-passed : goal.returns-else-passed
returns-else-passed c =
    let loaded : IsTrue c.suits.result = grind arith in
    let distance : IsDistance c.args.tables.now c.args.wagon.now.place c.args.order.now.place (c.in-Some.km, c.in-Some.minutes) = subst (λ (b : List ℕ). IsDistance c.args.tables.now c.args.wagon.now.place b (c.in-Some.km, c.in-Some.minutes)) c.place.ensures c.in-Some.ensures.distance in
    let in_time : IsTrue (leb c.arrival.result c.seconds.result) ↔ (max c.args.wagon.now.ready c.args.at + 60 * c.in-Some.minutes ≤ c.args.order.now.latest) = grind (arith, nat_tests) in
    let cheaper : IsTrue (leb c.arrival.result c.seconds.result) ↔ (IsTrue (leb c.arrival.result c.seconds.result) × (c.in-Some.km < c.args.order.now.penalty)) = grind (arith, nat_tests) in
    passed_with_way c.args.tables.now c.args.at c.args.wagon.now c.args.order.now (c.in-Some.km, c.in-Some.minutes) _ _ _ _ c.accepts.ensures.listed c.suits.ensures loaded distance in_time cheaper
