-- The tables of one problem over one network have the same certificates.
use Rattle.std.proofs.Common.{◌≡◌, ◌∙◌, ◌+◌, ◌*◌, ◌-◌, ◌<◌, ℕ, List, [], ◌∷◌, length, refl, sym, ap, arith}
use Rattle.std.specs.Prelude.{Option, None, Some, slice_index, sum, unwrap_or}
use Rattle.std.specs.List.{sum_by}
use Rattle.std.proofs.lemmas.List.{length-map}
use Rattle.std.proofs.lemmas.List.Sums.{sum_by-cons}
use Rattle.wagons_and_orders.specs.Wanted.{WantedOrder}
use Rattle.line_network.specs.Network.{NetworkValue}
use Rattle.problem_table.specs.Allowed.{IsTableOf}
use Rattle.cost_table.specs.Plan.{AllAllowed, pair_cost, serves, sum_below}
use Rattle.cost_table.specs.Problem.{ProblemValue}
use Rattle.cost_table.specs.Table.{Table, cost_at, lack_at, order_count, penalty_at, wagon_count}
use Rattle.problem_table.proofs.AllowedLemmas.{some_at}
use Rattle.price_checker.specs.Certificate.{IsCertificate}

-- two choices that have each value where the other has it
alike : (o p : Option ℕ) → ((k : ℕ) → o ≡ Some k → p ≡ Some k) → ((k : ℕ) → p ≡ Some k → o ≡ Some k) → o ≡ p
alike (Some k) p there back = sym (there k refl)
alike None None there back = refl
alike None (Some k) there back = back k refl

-- a table has as many orders as its problem
pub columns : (net : NetworkValue) (problem : ProblemValue) (t : Table) → IsTableOf net problem t → order_count t ≡ length problem.orders
columns net problem t is = ap (λ (ls : List ℕ). length ls) is.lacks ∙ length-map problem.orders (λ (o : WantedOrder). o.lack)

-- the costs of each pair are the same
same_cost : (net : NetworkValue) (problem : ProblemValue) (a b : Table) → IsTableOf net problem a → IsTableOf net problem b → (i j : ℕ) → i < length problem.wagons → j < length problem.orders → cost_at a i j ≡ cost_at b i j
same_cost net problem a b is_a is_b i j l m =
    let wagon = some_at problem.wagons i l in
    let order = some_at problem.orders j m in
    alike (cost_at a i j) (cost_at b i j)
    (λ km h. (is_b.cells i j km wagon.0 order.0 wagon.1 order.1).1 ((is_a.cells i j km wagon.0 order.0 wagon.1 order.1).0 h))
    (λ km h. (is_a.cells i j km wagon.0 order.0 wagon.1 order.1).1 ((is_b.cells i j km wagon.0 order.0 wagon.1 order.1).0 h))

-- what missed wagons cost, by the penalties and the lacks
abbrev missed : List (ℕ × ℕ) → (penalties lacks : List ℕ) → ℕ
missed pairs penalties lacks = sum_below (length lacks) (λ j. slice_index penalties j * (slice_index lacks j - serves j pairs))

-- what pairs that are allowed cost
same_costs : (net : NetworkValue) (problem : ProblemValue) (a b : Table) → IsTableOf net problem a → IsTableOf net problem b → (pairs : List (ℕ × ℕ)) → AllAllowed a pairs → AllAllowed b pairs × (sum_by (pair_cost b) pairs ≡ sum_by (pair_cost a) pairs)
same_costs net problem a b is_a is_b [] allowed = (tt, refl)
same_costs net problem a b is_a is_b (p ∷ pairs) allowed =
    let rest = same_costs net problem a b is_a is_b pairs allowed.1 in
    let i : p.0 < length problem.wagons = omega (arith, allowed.0.0, is_a.wagons) in
    let j : p.1 < length problem.orders = omega (arith, allowed.0.1, columns net problem a is_a) in
    let cost = same_cost net problem a b is_a is_b p.0 p.1 i j in
    let here : pair_cost b p ≡ pair_cost a p = ap (λ (o : Option ℕ). unwrap_or o 0) (sym cost) in
    let left = sum_by-cons (pair_cost b) p pairs in
    let right = sum_by-cons (pair_cost a) p pairs in (
      ((omega (arith, i, is_b.wagons), omega (arith, j, columns net problem b is_b), (allowed.0.2.0, sym cost ∙ allowed.0.2.1)), rest.0),
      omega (arith, rest.1, here, left, right),
    )

pub same_certificate : (net : NetworkValue) (problem : ProblemValue) (a b : Table) → IsTableOf net problem a → IsTableOf net problem b → (pairs : List (ℕ × ℕ)) (u v : List ℕ) → IsCertificate a pairs u v → IsCertificate b pairs u v
same_certificate net problem a b is_a is_b pairs u v c =
    let wagons : wagon_count a ≡ wagon_count b = is_a.wagons ∙ sym is_b.wagons in
    let penalties : a.penalties ≡ b.penalties = is_a.penalties ∙ sym is_b.penalties in
    let lacks : a.lacks ≡ b.lacks = is_a.lacks ∙ sym is_b.lacks in
    let orders : order_count a ≡ order_count b = ap (λ (ls : List ℕ). length ls) lacks in
    let costs = same_costs net problem a b is_a is_b pairs c.plan.allowed in
    let missing : missed pairs a.penalties a.lacks ≡ missed pairs b.penalties b.lacks = λ k. missed pairs (penalties k) (lacks k) in
    let paid : sum_below (order_count a) (λ j. lack_at a j * slice_index v j) ≡ sum_below (order_count b) (λ j. lack_at b j * slice_index v j) =
    ap (λ (ls : List ℕ). sum_below (length ls) (λ j. slice_index ls j * slice_index v j)) lacks in
    let balance : (sum_by (pair_cost a) pairs + missed pairs a.penalties a.lacks) + sum u ≡ sum_below (order_count a) (λ j. lack_at a j * slice_index v j) = c.balance in
    let total : (sum_by (pair_cost b) pairs + missed pairs b.penalties b.lacks) + sum u ≡ sum_below (order_count b) (λ j. lack_at b j * slice_index v j) = omega (arith, costs.1, missing, paid, balance) in
    record {
      wagons = c.wagons ∙ wagons;
      orders = c.orders ∙ orders;
      plan = record {
        allowed = costs.0;
        once = c.plan.once;
        within = λ j l.
            let bound = c.plan.within j (omega (arith, l, orders)) in
            let same_lack : lack_at a j ≡ lack_at b j = ap (λ (ls : List ℕ). slice_index ls j) lacks in
            omega (arith, bound, same_lack);
      };
      no_gap = λ i j cost l m is.
          let i_in : i < length problem.wagons = omega (arith, l, is_b.wagons) in
          let j_in : j < length problem.orders = omega (arith, m, columns net problem b is_b) in
          c.no_gap i j cost (omega (arith, l, wagons)) (omega (arith, m, orders)) (same_cost net problem a b is_a is_b i j i_in j_in ∙ is);
      below_penalty = λ j l.
          let bound = c.below_penalty j (omega (arith, l, orders)) in
          let same_penalty : penalty_at a j ≡ penalty_at b j = ap (λ (ps : List ℕ). slice_index ps j) penalties in
          omega (arith, bound, same_penalty);
      balance = total;
    }
