-- The plans of a table without a wagon are those in which the wagon is idle.
use Rattle.std.proofs.Common.{◌≡◌, ◌∙◌, ◌<◌, ℕ, zero, suc, List, [], ◌∷◌, Option, None, Some, get_or, replicate, ap, arith, refl, sym}
use Rattle.std.specs.Prelude.{◌≢◌}
use Rattle.std.proofs.lemmas.List.{get_or-set_same}
use Rattle.cost_table.specs.Table.{Table, cost_at, order_count, wagon_count}
use Rattle.cost_table.specs.Plan.{AllAllowed, IsAllowed, uses}
use Rattle.plan_bounds.specs.Changes.{without_wagon}
use Rattle.plan_bounds.specs.Bounds.{IsIdle}
use Rattle.exact_costs.specs.LeastCosts.{IsAny, IsLeastOver}
use Rattle.exact_costs.proofs.Agreeing.{AgreeBut, agree-with_costs, agree_back, idle_cost, idle_plan}
use Rattle.exact_costs.proofs.Sums.{uses-other}

abbrev nothing : Option ℕ
nothing = None

none_at : (n j : ℕ) → get_or (replicate n nothing) j nothing ≡ nothing
none_at zero j = refl
none_at (suc n) zero = refl
none_at (suc n) (suc j) = none_at n j

none_there : (cost : ℕ) → nothing ≡ Some cost → ⊥
none_there cost is = cc

not_without : (t : Table) (i : ℕ) → i < wagon_count t → (q : ℕ × ℕ) → IsAllowed (without_wagon t i) q → q.0 ≢ i
not_without t i l q h = λ e.
    let none : List (Option ℕ) = replicate (order_count t) None in
    let row = ap (λ (k : ℕ). cost_at (without_wagon t i) k q.1) e in
    let empty : cost_at (without_wagon t i) i q.1 ≡ None = ap (λ (costs : List (Option ℕ)). get_or costs q.1 None) (get_or-set_same t.costs i none [] l) ∙ none_at (order_count t) q.1 in
    none_there h.2.0 (sym (row ∙ empty) ∙ h.2.1)

idle_without : (t : Table) (i : ℕ) → i < wagon_count t → (ps : List (ℕ × ℕ)) → AllAllowed (without_wagon t i) ps → uses i ps ≡ 0
idle_without t i l [] h = refl
idle_without t i l (q ∷ ps) h = uses-other i q ps (not_without t i l q h.0) ∙ idle_without t i l ps h.1

-- so the least cost of one is that of the other
pub idle_is_without : (t : Table) (i n : ℕ) → i < wagon_count t → IsLeastOver (without_wagon t i) IsAny n → IsLeastOver t (IsIdle i) n
idle_is_without t i n l best =
    let s = without_wagon t i in
    let to : AgreeBut i t s = agree-with_costs t i (replicate (order_count t) None) in
    let back = agree_back i t s to in
    let idle = idle_without t i l best.plan best.of_table.allowed in
    record {
      plan = best.plan;
      of_table = idle_plan i s t back best.plan idle best.of_table;
      is_so = idle;
      costs = idle_cost i s t back best.plan idle ∙ best.costs;
      least = λ other plan stays.
          let least = best.least other (idle_plan i t s to other stays plan) tt in
          let same = idle_cost i t s to other stays in
          omega (arith, least, same);
    }
