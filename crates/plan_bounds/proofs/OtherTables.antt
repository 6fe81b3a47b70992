-- What plans of tables cost that differ in one order's lack or in one wagon.
use Rattle.std.proofs.Common.{◌≡◌, ◌⊎◌, ◌∙◌, ◌+◌, ◌-◌, ◌*◌, ◌<◌, ◌≤◌, ℕ, cond, Bool, true, false, List, [], ◌∷◌, ◌++◌, length, get_or, Option, None, Some, refl, replicate, suc, zero, sym, inl, inr, ap, arith, subst}
use Rattle.std.specs.Prelude.{◌==◌, ◌≢◌, slice_index, slice_set}
use Rattle.std.specs.List.{sum}
use Rattle.std.proofs.lemmas.List.{get_or-set_same, get_or-set_other, get_or_append_left, get_or_push, length-append, length-set}
use Rattle.std.proofs.lemmas.List.FromFn.{get_or-map-range_with_len}
use Rattle.std.proofs.lemmas.List.Sums.{sum_by-set, sum_by_push}
use Rattle.std.proofs.lemmas.Bool.{cases_Bool}
use Rattle.std.proofs.lemmas.Bool.Decides.{nat_tests}
use Rattle.std.proofs.Math.Nat.{eq-or-lt_of_le}
use Rattle.cost_table.specs.Table.{Table, costs_at, lack_at, order_count, wagon_count}
use Rattle.cost_table.specs.TableRows.{cost_in, costs_of}
use Rattle.cost_table.specs.Plan.{IsPlan, cost_of, sum_below}
use Rattle.price_checker.proofs.Duality.{NoGap, weak_duality}
use Rattle.plan_bounds.specs.PricedPlan.{IsCertified, PricedPlan, certified_cost}
use Rattle.plan_bounds.specs.Changes.{gain_of, with_lack, with_wagon, without_wagon}
use Rattle.plan_bounds.specs.Laws.{ItsTwinSavesItsPrice, LacksCostThePrice, OneLessSavesThePrice, OneMoreCostsThePrice, OneWagonMoreSavesItsGain, WithoutAWagonCostsItsPrice}
use Rattle.plan_bounds.proofs.Sums.{sum_below-change}

-- ---- one order's lack

orders_stay : (t : Table) (j n : ℕ) → order_count (with_lack t j n) ≡ order_count t
orders_stay t j n = length-set t.lacks j n

-- a plan of the table in which order j lacks n wagons
pub lacks_cost_the_price : LacksCostThePrice
lacks_cost_the_price p c j n l other plan =
    let t = with_lack p.table j n in
    let orders = orders_stay p.table j n in
    let least = weak_duality t p.u p.v c.wagons
    (λ i k cost a b is. c.no_gap i k cost a (omega (arith, b, orders)) is)
    (λ k b. c.below_penalty k (omega (arith, b, orders))) other plan in
    let paid : sum_below (order_count t) (λ k. lack_at t k * slice_index p.v k) ≡ sum_below (order_count p.table) (λ k. lack_at t k * slice_index p.v k)
    = ap (λ m. sum_below m (λ k. lack_at t k * slice_index p.v k)) orders in
    let change = sum_below-change (order_count p.table) j (λ k. lack_at t k * slice_index p.v k) (λ k. lack_at p.table k * slice_index p.v k) l
    (λ k b other. ap (λ m. m * slice_index p.v k) (get_or-set_other p.table.lacks j k n 0 other)) in
    let here : lack_at t j * slice_index p.v j ≡ n * slice_index p.v j = ap (λ m. m * slice_index p.v j) (get_or-set_same p.table.lacks j n 0 l) in
    let balance = c.balance in
    omega (arith, least, paid, change, here, balance)

one_more_is : (l v : ℕ) → (l + 1) * v ≡ l * v + v
one_more_is l v = grind arith

pub one_more_costs_the_price : OneMoreCostsThePrice
one_more_costs_the_price p c j l other plan =
    let changed = lacks_cost_the_price p c j (lack_at p.table j + 1) l other plan in
    let more = one_more_is (lack_at p.table j) (slice_index p.v j) in
    omega (arith, changed, more)

one_less_is : (l v : ℕ) → l * v ≤ (l - 1) * v + v
one_less_is l v =
    let less = one_more_is (l - 1) v in
    let le : l * v ≤ (l - 1 + 1) * v = grind arith in
    omega (arith, less, le)

pub one_less_saves_the_price : OneLessSavesThePrice
one_less_saves_the_price p c j l other plan =
    let changed = lacks_cost_the_price p c j (lack_at p.table j - 1) l other plan in
    let less = one_less_is (lack_at p.table j) (slice_index p.v j) in
    omega (arith, changed, less)

-- ---- one wagon less

abbrev nothing : Option ℕ
nothing = None

none_at : (n j : ℕ) → get_or (replicate n nothing) j nothing ≡ nothing
none_at zero j = refl
none_at (suc n) zero = refl
none_at (suc n) (suc j) = none_at n j

none_there : (cost : ℕ) → nothing ≡ Some cost → ⊥
none_there cost is = cc

gap_without : (p : PricedPlan) → IsCertified p → (i : ℕ) → i < wagon_count p.table → NoGap (without_wagon p.table i) (slice_set p.u i 0) p.v
gap_without p c i l k j cost a b is =
    let none : List (Option ℕ) = replicate (order_count p.table) None in
    elim (cases_Bool (k == i)) [
      | inl e ↦
          let same : k ≡ i = grind (arith, nat_tests, e) in
          let empty : get_or (slice_set p.table.costs i none) k [] ≡ none = ap (λ n. get_or (slice_set p.table.costs i none) n []) same ∙ get_or-set_same p.table.costs i none [] l in
          absurd (none_there cost (sym (ap (λ (costs : List (Option ℕ)). get_or costs j None) empty ∙ none_at (order_count p.table) j) ∙ is))
      | inr e ↦
          let others : k ≢ i = grind (arith, nat_tests, e) in
          let row = get_or-set_other p.table.costs i k none [] others in
          let price : slice_index (slice_set p.u i 0) k ≡ slice_index p.u k = get_or-set_other p.u i k 0 0 others in
          let wagons = length-set p.table.costs i none in
          let gap : slice_index p.v j ≤ cost + slice_index p.u k = c.no_gap k j cost (omega (arith, a, wagons)) b (subst (λ (costs : List (Option ℕ)). get_or costs j None ≡ Some cost) row is) in
          omega (arith, gap, price)
    ]

pub without_a_wagon_costs_its_price : WithoutAWagonCostsItsPrice
without_a_wagon_costs_its_price p c i l other plan =
    let wagons = c.wagons in
    let long : length (slice_set p.u i 0) ≡ wagon_count (without_wagon p.table i) = omega (arith, wagons, length-set p.u i 0, length-set p.table.costs i (replicate (order_count p.table) None)) in
    let least = weak_duality (without_wagon p.table i) (slice_set p.u i 0) p.v long (gap_without p c i l) c.below_penalty other plan in
    let within : i < length p.u = omega (arith, wagons, l) in
    let prices : sum (slice_set p.u i 0) + slice_index p.u i ≡ sum p.u + 0 = sum_by-set (λ x. x) p.u i 0 0 within in
    let balance = c.balance in
    omega (arith, least, prices, balance)

-- ---- one wagon more

-- the new wagon's price is one that no order's price passes
gap_with : (p : PricedPlan) → IsCertified p → (costs : List (Option ℕ)) (price : ℕ)
    → ((j cost : ℕ) → j < order_count p.table → get_or costs j None ≡ Some cost → slice_index p.v j ≤ cost + price) → NoGap (with_wagon p.table costs) (p.u ++ price ∷ []) p.v
gap_with p c costs price covers k j cost a b is =
    let wagons = c.wagons in
    let more : length (p.table.costs ++ costs ∷ []) ≡ wagon_count p.table + 1 = length-append p.table.costs (costs ∷ []) in
    let le : k ≤ wagon_count p.table = omega (arith, a, more) in
    elim (eq-or-lt_of_le le) [
      | inl e ↦
          let last = get_or_push p.table.costs costs [] k (sym e) in
          let here : slice_index (p.u ++ price ∷ []) k ≡ price = get_or_push p.u price 0 k (wagons ∙ sym e) in
          let gap = covers j cost b (subst (λ (costs : List (Option ℕ)). get_or costs j None ≡ Some cost) last is) in
          omega (arith, gap, here)
      | inr l ↦
          let same = get_or_append_left p.table.costs (costs ∷ []) [] k l in
          let here : slice_index (p.u ++ price ∷ []) k ≡ slice_index p.u k = get_or_append_left p.u (price ∷ []) 0 k (omega (arith, l, wagons)) in
          let gap = c.no_gap k j cost l b (subst (λ (costs : List (Option ℕ)). get_or costs j None ≡ Some cost) same is) in
          omega (arith, gap, here)
    ]

wagon_added : (p : PricedPlan) → IsCertified p → (costs : List (Option ℕ)) (price : ℕ)
    → ((j cost : ℕ) → j < order_count p.table → get_or costs j None ≡ Some cost → slice_index p.v j ≤ cost + price)
    → (other : List (ℕ × ℕ)) → IsPlan (with_wagon p.table costs) other → certified_cost p ≤ cost_of (with_wagon p.table costs) other + price
wagon_added p c costs price covers other plan =
    let wagons = c.wagons in
    let long : length (p.u ++ price ∷ []) ≡ wagon_count (with_wagon p.table costs) = omega (arith, wagons, length-append p.u (price ∷ []), length-append p.table.costs (costs ∷ [])) in
    let least = weak_duality (with_wagon p.table costs) (p.u ++ price ∷ []) p.v long (gap_with p c costs price covers) c.below_penalty other plan in
    let prices : sum (p.u ++ price ∷ []) ≡ sum p.u + price = sum_by_push (λ x. x) p.u price in
    let balance = c.balance in
    omega (arith, least, prices, balance)

here_or_later : (c cost : ℕ) (rest : Option ℕ) (b : Bool) → cond b (Some c) rest ≡ Some cost → ((b ≡ true) × (c ≡ cost)) ⊎ (rest ≡ Some cost)
here_or_later c cost rest true is = inl (refl, cc)
here_or_later c cost rest false is = inr is

gain_covers : (v : List ℕ) (row : List (ℕ × ℕ)) (j cost : ℕ) → cost_in row j ≡ Some cost → slice_index v j ≤ cost + gain_of v row
gain_covers v [] j cost is = absurd (none_there cost is)
gain_covers v (cell ∷ row) j cost is =
    let rest = gain_covers v row j cost in
    elim (here_or_later cell.1 cost (cost_in row j) (cell.0 == j) is) [
      | inl h ↦
          let same : cell.0 ≡ j = grind (arith, nat_tests, h) in
          let price : slice_index v cell.0 ≡ slice_index v j = ap (slice_index v) same in
          let paid : cell.1 ≡ cost = h.1 in
          omega (arith, price, paid)
      | inr h ↦ let gain = rest h in omega (arith, gain)
    ]

pub one_wagon_more_saves_its_gain : OneWagonMoreSavesItsGain
one_wagon_more_saves_its_gain p c row other plan =
    let n = order_count p.table in
    wagon_added p c (costs_of n row) (gain_of p.v row) (λ j cost l is. gain_covers p.v row j cost (sym (get_or-map-range_with_len (cost_in row) 0 n j j None l (omega arith)) ∙ is)) other plan

pub its_twin_saves_its_price : ItsTwinSavesItsPrice
its_twin_saves_its_price p c i l other plan = wagon_added p c (costs_at p.table i) (slice_index p.u i) (λ j cost b is. c.no_gap i j cost l b is) other plan
