-- What other plans of the table cost more, at least.
use Rattle.std.proofs.Common.{◌≡◌, ◌*◌, ◌≤◌, ℕ, cond, List, ap, arith, refl}
use Rattle.std.specs.Prelude.{◌==◌, slice_index, slice_index_or}
use Rattle.std.proofs.lemmas.Bool.Decides.{nat_tests}
use Rattle.cost_table.specs.Table.{order_count, wagon_count}
use Rattle.cost_table.specs.Plan.{uses}
use Rattle.plan_bounds.specs.PricedPlan.{IsCertified, PricedPlan}
use Rattle.plan_bounds.specs.Slack.{idle_price, missed, refusal_slack, slack}
use Rattle.plan_bounds.specs.Bounds.{CostsMore}
use Rattle.plan_bounds.specs.Laws.{HasNoSlack, IdleWagonsCostTheirPrice, LeastPlansHaveNoSlack, MissesCostTheirSlack, PairsCostTheirSlack}
use Rattle.plan_bounds.proofs.Identity.{slacks_are_the_difference}
use Rattle.plan_bounds.proofs.Sums.{sum_below-term, sum_by-term}

-- a bound stays one where it is lowered
pub lower_bound : (p : PricedPlan) (IsSo : List (ℕ × ℕ) → Type 0) (less km : ℕ) → less ≤ km → CostsMore p IsSo km → CostsMore p IsSo less
lower_bound p IsSo less km le costs other plan so = let more = costs other plan so in omega (arith, le, more)

pub pairs_cost_their_slack : PairsCostTheirSlack
pairs_cost_their_slack p c i j other plan has =
    let same = slacks_are_the_difference p c other plan in
    let there = sum_by-term (slack p) other has.0 (i, j) has.1 in
    let here : slack p (slice_index_or other has.0 (i, j)) ≡ slack p (i, j) = ap (slack p) has.2 in
    omega (arith, same, there, here)

idle_is : (n x : ℕ) → n ≡ 0 → cond (n == 0) x 0 ≡ x
idle_is n x h = grind (arith, nat_tests, h)

pub idle_wagons_cost_their_price : IdleWagonsCostTheirPrice
idle_wagons_cost_their_price p c i l other plan idle =
    let same = slacks_are_the_difference p c other plan in
    let there = sum_below-term (wagon_count p.table) i (idle_price p other) l in
    let here : idle_price p other i ≡ slice_index p.u i = idle_is (uses i other) (slice_index p.u i) idle in
    omega (arith, same, there, here)

at_least : (k m x : ℕ) → k ≤ m → k * x ≤ m * x
at_least k m x h = grind (arith, h)

pub misses_cost_their_slack : MissesCostTheirSlack
misses_cost_their_slack p c j l k other plan misses =
    let same = slacks_are_the_difference p c other plan in
    let there = sum_below-term (order_count p.table) j (λ j. missed p other j * refusal_slack p j) l in
    let here = at_least k (missed p other j) (refusal_slack p j) misses in
    omega (arith, same, there, here)

-- a plan of the certified cost has no slack, since each would cost more
pub least_plans_have_no_slack : LeastPlansHaveNoSlack
least_plans_have_no_slack p c other plan least = record {
  pairs = λ i j has. let more = pairs_cost_their_slack p c i j other plan has in omega (arith, more, least);
  idle = λ i l idle. let more = idle_wagons_cost_their_price p c i l other plan idle in omega (arith, more, least);
  misses = λ j l misses. let more = misses_cost_their_slack p c j l 1 other plan misses in omega (arith, more, least);
}

-- so the certified plan has none
pub certified_has_no_slack : (p : PricedPlan) → IsCertified p → HasNoSlack p p.pairs
certified_has_no_slack p c = least_plans_have_no_slack p c p.pairs c.plan refl
