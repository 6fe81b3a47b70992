-- The cost of a certified plan is small.
use Rattle.std.proofs.Common.{ℕ, zero, suc, ◌*◌, ◌^◌, ◌<◌, ◌≤◌, List, arith, mul-le-mul_left}
use Rattle.std.specs.Prelude.{slice_index}
use Rattle.std.proofs.lemmas.List.Elements.{All-get_or}
use Rattle.wagons_and_orders.specs.WantedLimits.{IsLack}
use Rattle.cost_table.specs.Table.{Table, lack_at, penalty_at, order_count}
use Rattle.cost_table.specs.TableLimits.{IsTable, max_cost}
use Rattle.cost_table.specs.Plan.{cost_of, sum_below}
use Rattle.price_checker.specs.Certificate.{IsCertificate}

-- a sum whose terms are at most 20,000,000,000
bounded : (n : ℕ) (f : ℕ → ℕ) → ((k : ℕ) → k < n → f k ≤ 20_000_000_000) → sum_below n f ≤ n * 20_000_000_000
bounded zero f h = omega arith
bounded (suc n) f h =
    let rest = bounded n f (λ k l. h k (omega (arith, l))) in
    let one = h n (omega arith) in
    omega (arith, rest, one)

product : (lack price : ℕ) → lack ≤ 20 → price ≤ 1_000_000_000 → lack * price ≤ 20_000_000_000
product lack price a b =
    let first : lack * price ≤ lack * 1_000_000_000 = mul-le-mul_left lack b in
    omega (arith, first, a)

-- each order pays for at most 20 wagons at most its penalty, and there are at most 500 orders
pub small : (t : Table) (pairs : List (ℕ × ℕ)) (u v : List ℕ) → IsTable t → IsCertificate t pairs u v → cost_of t pairs < 2 ^ 64
small t pairs u v legal c =
    let term = λ (j : ℕ) (l : j < order_count t).
    let lack : IsLack (lack_at t j) = All-get_or IsLack t.lacks j 0 l legal.lacks in
    let penalty : penalty_at t j ≤ max_cost = All-get_or (λ p. p ≤ max_cost) t.penalties j 0 (omega (arith, l, legal.penalty_count)) legal.penalties in
    product (lack_at t j) (slice_index v j) lack.1 (omega (arith, c.below_penalty j l, penalty)) in
    let paid : sum_below (order_count t) (λ j. lack_at t j * slice_index v j) ≤ order_count t * 20_000_000_000 = bounded (order_count t) (λ j. lack_at t j * slice_index v j) term in
    omega (arith, paid, c.balance, legal.orders)
