use Rattle.std.proofs.Common.{◌≡◌, ◌+◌, ◌-◌, ◌*◌, ◌<◌, ◌≤◌, ℕ, List, [], ◌∷◌, ap, arith}
use Rattle.std.specs.Prelude.{All}
use Rattle.std.specs.List.{sum_by, AllByRecursion}
use Rattle.std.proofs.lemmas.List.Elements.{All-from_recursion}
use Rattle.cost_table.specs.Table.{Table, penalty_at, lack_at, wagon_count, order_count}
use Rattle.cost_table.specs.Plan.{sum_below, IsPlan, AllAllowed, serves, missed_cost}
use Rattle.cost_table.specs.inner.Spared.{pair_penalty}
use Rattle.cost_table.proofs.Sums.{AllBelow, double_count, distributes, sum_below-same, sum_below-add}

pub wagons_below : (t : Table) (ps : List (ℕ × ℕ)) → AllAllowed t ps → AllBelow (λ p. p.0) (wagon_count t) ps
wagons_below t [] h = tt
wagons_below t (p ∷ ps) h = (h.0.0, wagons_below t ps h.1)

pub orders_below : (t : Table) (ps : List (ℕ × ℕ)) → AllAllowed t ps → AllBelow (λ p. p.1) (order_count t) ps
orders_below t [] h = tt
orders_below t (p ∷ ps) h = (h.0.1, orders_below t ps h.1)

orders_each : (n : ℕ) (ps : List (ℕ × ℕ)) → AllBelow (λ p. p.1) n ps → AllByRecursion (λ (p : ℕ × ℕ). p.1 < n) ps
orders_each n [] h = tt
orders_each n (p ∷ ps) h = (h.0, orders_each n ps h.1)

pub orders_in_range : (t : Table) (ps : List (ℕ × ℕ)) → AllAllowed t ps → All (λ (p : ℕ × ℕ). p.1 < order_count t) ps
orders_in_range t ps h = All-from_recursion (λ (p : ℕ × ℕ). p.1 < order_count t) ps (orders_each (order_count t) ps (orders_below t ps h))

served_or_missed : (p l s : ℕ) → s ≤ l → p * l ≡ s * p + p * (l - s)
served_or_missed p l s h =
    let whole : l ≡ s + (l - s) = omega arith in
    let split = distributes s (l - s) p in
    let there : p * l ≡ p * (s + (l - s)) = ap (λ n. p * n) whole in
    let turn : p * (s + (l - s)) ≡ (s + (l - s)) * p = grind arith in
    let back : (l - s) * p ≡ p * (l - s) = grind arith in
    omega (arith, split, there, turn, back)

-- the penalties of all lacking wagons are those that a plan spares and those of the wagons that it misses
pub spared_or_missed : (t : Table) (ps : List (ℕ × ℕ)) → IsPlan t ps → sum_below (order_count t) (λ j. penalty_at t j * lack_at t j) ≡ sum_by (pair_penalty t) ps + sum_below (order_count t) (missed_cost t ps)
spared_or_missed t ps plan =
    let n = order_count t in
    let each = sum_below-same n (λ j. penalty_at t j * lack_at t j) (λ j. serves j ps * penalty_at t j + missed_cost t ps j) (λ j l. served_or_missed (penalty_at t j) (lack_at t j) (serves j ps) (plan.within j l)) in
    let parts = sum_below-add n (λ j. serves j ps * penalty_at t j) (missed_cost t ps) in
    let count = double_count (λ p. p.1) (penalty_at t) n ps (orders_below t ps plan.allowed) in
    omega (arith, each, parts, count)
