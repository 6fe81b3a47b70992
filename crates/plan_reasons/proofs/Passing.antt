-- Which pairs fail no test, by the table.
use Rattle.std.proofs.Common.{◌≡◌, ◌<◌, ℕ, true, Option, Some, None, List, refl, sym, ap, ◌∙◌, subst, arith}
use Rattle.std.specs.Prelude.{slice_get, slice_index}
use Rattle.std.proofs.lemmas.Bool.Decides.{nat_tests}
use Rattle.std.proofs.lemmas.List.{get_or-map}
use Rattle.std.proofs.lemmas.Option.{get_or_from_slice_get, slice_get_within}
use Rattle.wagons_and_orders.specs.declared.free_wagon.FreeWagon.{FreeWagon}
use Rattle.wagons_and_orders.specs.Wanted.{WantedOrder}
use Rattle.line_network.specs.Network.{NetworkValue}
use Rattle.cost_table.specs.Plan.{IsAllowed}
use Rattle.cost_table.specs.Problem.{ProblemValue}
use Rattle.cost_table.specs.Table.{Table, cost_at, penalty_at}
use Rattle.problem_table.specs.Allowed.{IsTableOf}
use Rattle.plan_reasons.specs.Reasons.{IsCheaper}
use Rattle.plan_reasons.specs.PairLists.{is_below, passes_all}
use Rattle.plan_reasons.specs.Laws.{FitsAreCheaper}
use Rattle.plan_reasons.specs.inner.AddedPairs.{IsPairOf}
use Rattle.plan_reasons.proofs.Arrivals.{order_count-table}

below_some : (cost : Option ℕ) (limit : ℕ) → is_below cost limit ≡ true → (km : ℕ) × (cost ≡ Some km) × (km < limit)
below_some None limit h = absurd cc
below_some (Some km) limit h = (km, refl, grind (arith, nat_tests, h))

some_below : (km limit : ℕ) → km < limit → is_below (Some km) limit ≡ true
some_below km limit lt = grind (arith, nat_tests, lt)

module _ (net : NetworkValue) (problem : ProblemValue) (t : Table) (table : IsTableOf net problem t) (i j : ℕ) (wagon : FreeWagon) (wanted : WantedOrder) (free : slice_get problem.wagons i ≡ Some wagon) (order : slice_get problem.orders j ≡ Some wanted) where
  penalty : penalty_at t j ≡ wanted.order.penalty
  penalty =
      ap (λ (xs : List ℕ). slice_index xs j) table.penalties ∙ get_or-map (λ (o : WantedOrder). o.order.penalty) problem.orders j wanted 0 (slice_get_within problem.orders j wanted order)
      ∙ ap (λ (o : WantedOrder). o.order.penalty) (get_or_from_slice_get problem.orders j wanted wanted order)

  pub passing_cheaper : passes_all t (i, j) ≡ true → IsCheaper net problem.at wagon wanted.order
  passing_cheaper h =
      let below = below_some (cost_at t i j) (penalty_at t j) h in
      record { km = below.0; reaches = (table.cells i j below.0 wagon wanted free order).0 below.1; cheaper = omega (arith, below.2, penalty) }

  pub cheaper_passing : IsCheaper net problem.at wagon wanted.order → passes_all t (i, j) ≡ true
  cheaper_passing cheaper =
      let cell = (table.cells i j cheaper.km wagon wanted free order).1 cheaper.reaches in
      subst (λ (cost : Option ℕ). is_below cost (penalty_at t j) ≡ true) (sym cell) (some_below cheaper.km (penalty_at t j) (omega (arith, cheaper.cheaper, penalty)))

pub fits_are_cheaper : FitsAreCheaper
fits_are_cheaper net problem t table i j wagon wanted free order = (passing_cheaper net problem t table i j wagon wanted free order, cheaper_passing net problem t table i j wagon wanted free order)

-- a pair of the problem that fails no test is allowed
pub passing_allowed : (net : NetworkValue) (problem : ProblemValue) (t : Table) → IsTableOf net problem t → (pair : ℕ × ℕ) → IsPairOf problem pair → passes_all t pair ≡ true → IsAllowed t pair
passing_allowed net problem t table pair there h =
    let below = below_some (cost_at t pair.0 pair.1) (penalty_at t pair.1) h in
    let wagons = table.wagons in
    (omega (arith, there.0, wagons), omega (arith, there.1, order_count-table net problem t table), (below.0, below.1))
