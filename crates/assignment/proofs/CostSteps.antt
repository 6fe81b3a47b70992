use Rattle.std.proofs.Common.{◌≡◌, ◌≢◌, ◌+◌, ◌*◌, ◌/◌, ◌%◌, ◌<◌, ◌≤◌, ℕ, zero, suc, Bool, true, false, cond, List, [], ◌∷◌, ◌++◌, Option, Some, None, length, get_or, set, take, refl, sym, ◌∙◌, ap, arith, inl, inr, subst}
use Rattle.std.specs.Prelude.{◌==◌}
use Rattle.std.proofs.lemmas.Bool.{cases_eq, cases_lt}
use Rattle.std.proofs.lemmas.Bool.Decides.{nat_tests}
use Rattle.std.proofs.lemmas.List.{take_more, take_all}
use Rattle.std.proofs.lemmas.Nat.{mul-add-lt, div-mul-add, mod-mul-add}
use Rattle.cost_table.specs.Table.{Table, cost_at, wagon_count, order_count}
use Rattle.cost_table.specs.TableLimits.{IsRow}
use Rattle.cost_table.specs.TableRows.{cost_in, row_at}
use Rattle.cost_table.proofs.TableRowLemmas.{cost_by_row}
use Rattle.assignment.specs.inner.Costs.{cell_cost, AreCostsOf, cost_before, cost_within}
use Rattle.assignment.proofs.Writes.{same_at, other_at, written_length}

-- a cell of a row is of an order of the table, and within the limit
pub row_from : (orders low n : ℕ) (row : List (ℕ × ℕ)) → IsRow orders low row → n < length row → (low ≤ (get_or row n (0, 0)).0) × ((get_or row n (0, 0)).0 < orders) × ((get_or row n (0, 0)).1 ≤ 1000000000)
row_from orders low n [] h l = absurd (omega arith)
row_from orders low zero (cell ∷ row) h l = (h.0, h.1, h.2)
row_from orders low (suc n) (cell ∷ row) h l =
    let rest = row_from orders (cell.0 + 1) n row h.3 (omega arith) in
    let a = rest.0 in
    let b = h.0 in
    (omega arith, rest.1, rest.2)

past : (k : ℕ) (cell : ℕ × ℕ) (row : List (ℕ × ℕ)) → cell.0 ≢ k → cost_in (cell ∷ row) k ≡ cost_in row k
past k cell row other = grind (arith, nat_tests, other)

-- no order stands twice in a row
fresh : (orders low n : ℕ) (row : List (ℕ × ℕ)) → IsRow orders low row → n < length row → cost_in (take n row) (get_or row n (0, 0)).0 ≡ None
fresh orders low n [] h l = absurd (omega arith)
fresh orders low zero (cell ∷ row) h l = refl
fresh orders low (suc n) (cell ∷ row) h l =
    let later = row_from orders (cell.0 + 1) n row h.3 (omega arith) in
    let a = later.0 in
    past (get_or row n (0, 0)).0 cell (take n row) (λ q. omega arith) ∙ fresh orders (cell.0 + 1) n row h.3 (omega arith)

push_other : (row : List (ℕ × ℕ)) (cell : ℕ × ℕ) (j : ℕ) → cell.0 ≢ j → cost_in (row ++ cell ∷ []) j ≡ cost_in row j
push_other [] cell j other = past j cell [] other
push_other (first ∷ row) cell j other = ap (λ r. cond (first.0 == j) (Some first.1) r) (push_other row cell j other)

first_is : (b : Bool) (c : ℕ) (o o' : Option ℕ) (d : ℕ) → cond b (Some c) o ≡ None → (o ≡ None → o' ≡ Some d) → cond b (Some c) o' ≡ Some d
first_is true c o o' d h f = absurd (let e = h in cc)
first_is false c o o' d h f = f h

push_here : (row : List (ℕ × ℕ)) (cell : ℕ × ℕ) → cost_in row cell.0 ≡ None → cost_in (row ++ cell ∷ []) cell.0 ≡ Some cell.1
push_here [] cell h = grind (arith, nat_tests)
push_here (first ∷ row) cell h = first_is (first.0 == cell.0) first.1 (cost_in row cell.0) (cost_in (row ++ cell ∷ []) cell.0) cell.1 h (push_here row cell)

within_here : (t : Table) (n m j : ℕ) → cost_within t n m n j ≡ cost_in (take m (row_at t n)) j
within_here t n m j = grind (arith, nat_tests)

within_other : (t : Table) (n m i j : ℕ) → i ≢ n → cost_within t n m i j ≡ cost_before t n i j
within_other t n m i j other = grind (arith, nat_tests, other)

pub before_is : (t : Table) (n i j : ℕ) → i < n → cost_before t n i j ≡ cost_at t i j
before_is t n i j l = grind (arith, nat_tests, l)

pub before_none : (t : Table) (n i j : ℕ) → n ≤ i → cost_before t n i j ≡ None
before_none t n i j l = grind (arith, nat_tests, l)

-- a whole row
pub within_whole : (t : Table) (n m i j : ℕ) → length (row_at t n) ≤ m → cost_before t (n + 1) i j ≡ cost_within t n m i j
within_whole t n m i j all = elim (cases_eq i n) [
  | inl same ↦ subst (λ (x : ℕ). cost_before t (n + 1) x j ≡ cost_within t n m x j) (sym same) (before_is t (n + 1) n j (omega arith) ∙ cost_by_row t n j ∙ ap (λ r. cost_in r j) (sym (take_all m (row_at t n) all)) ∙ sym (within_here t n m j))
  | inr other ↦ elim (cases_lt i n) [
    | inl less ↦ before_is t (n + 1) i j (omega (arith, less)) ∙ sym (before_is t n i j less) ∙ sym (within_other t n m i j other)
    | inr more ↦ before_none t (n + 1) i j (omega (arith, more, other)) ∙ sym (before_none t n i j more) ∙ sym (within_other t n m i j other)
  ]
]

-- two indexes are the same only where wagons and orders are
pub place_order : (w i j i' j' : ℕ) → i < w → i' < w → j * w + i ≡ j' * w + i' → j ≡ j'
place_order w i j i' j' l l' e = sym (div-mul-add j w i l) ∙ ap (λ x. x / w) e ∙ div-mul-add j' w i' l'

pub place_wagon : (w i j i' j' : ℕ) → i < w → i' < w → j * w + i ≡ j' * w + i' → i ≡ i'
place_wagon w i j i' j' l l' e = sym (mod-mul-add j w i l) ∙ ap (λ x. x % w) e ∙ mod-mul-add j' w i' l'

-- the next cell of a row, and what was there before
pub within_new : (t : Table) (n m : ℕ) → IsRow (order_count t) 0 (row_at t n) → m < length (row_at t n) → cost_within t n (m + 1) n (get_or (row_at t n) m (0, 0)).0 ≡ Some (get_or (row_at t n) m (0, 0)).1
within_new t n m is lm =
    let row = row_at t n in
    let cell = get_or row m (0, 0) in
    within_here t n (m + 1) cell.0 ∙ ap (λ r. cost_in r cell.0) (take_more row m (0, 0) lm) ∙ push_here (take m row) cell (fresh (order_count t) 0 m row is lm)

pub within_kept : (t : Table) (n m i j : ℕ) → m < length (row_at t n) → (i ≡ n → j ≢ (get_or (row_at t n) m (0, 0)).0) → cost_within t n (m + 1) i j ≡ cost_within t n m i j
within_kept t n m i j lm other = elim (cases_eq i n) [
  | inl same ↦
      let row = row_at t n in
      let here = ap (λ r. cost_in r j) (take_more row m (0, 0) lm) ∙ push_other (take m row) (get_or row m (0, 0)) j (λ q. other same (sym q)) in
      subst (λ (x : ℕ). cost_within t n (m + 1) x j ≡ cost_within t n m x j) (sym same) (within_here t n (m + 1) j ∙ here ∙ sym (within_here t n m j))
  | inr apart ↦ within_other t n (m + 1) i j apart ∙ sym (within_other t n m i j apart)
]

-- one cell more
pub costs_more : (t : Table) (n m : ℕ) (costs costs' : List ℕ) → n < wagon_count t → IsRow (order_count t) 0 (row_at t n) → m < length (row_at t n) → AreCostsOf t (cost_within t n m) costs → costs' ≡ set costs ((get_or (row_at t n) m (0, 0)).0 * wagon_count t + n) (get_or (row_at t n) m (0, 0)).1 → AreCostsOf t (cost_within t n (m + 1)) costs'
costs_more t n m costs costs' ln is lm h e =
    let row = row_at t n in
    let w = wagon_count t in
    let cell = get_or row m (0, 0) in
    let k = cell.0 in
    let lk : k < order_count t = (row_from (order_count t) 0 m row is lm).1 in
    let bound = mul-add-lt k w n (order_count t) lk ln in
    let swap : order_count t * w ≡ w * order_count t = grind arith in
    let count = h.count in
    let inside : k * w + n < length costs = omega (arith, bound, swap, count) in
    record {
      count = written_length costs costs' (k * w + n) cell.1 e ∙ count;
      each = λ i j li lj. elim (cases_eq (j * w + i) (k * w + n)) [
        | inl same ↦
            let at : get_or costs' (k * w + n) 0 ≡ cell_cost (cost_within t n (m + 1) n k) = same_at costs costs' (k * w + n) cell.1 0 inside e ∙ ap cell_cost (sym (within_new t n m is lm)) in
            let ei = place_wagon w i j n k li ln same in
            let ej = place_order w i j n k li ln same in
            ap (λ x. get_or costs' x 0) same ∙ at ∙ ap (λ x. cell_cost (cost_within t n (m + 1) x k)) (sym ei) ∙ ap (λ y. cell_cost (cost_within t n (m + 1) i y)) (sym ej)
        | inr other ↦ other_at costs costs' (k * w + n) cell.1 0 (j * w + i) e other ∙ h.each i j li lj ∙ ap cell_cost (sym (within_kept t n m i j lm (λ ei ej. other (ap (λ x. j * w + x) ei ∙ ap (λ y. y * w + n) ej))))
      ];
    }

-- where the next cell goes
pub cost_place : (t : Table) (n m : ℕ) (costs : List ℕ) → n < wagon_count t → IsRow (order_count t) 0 (row_at t n) → m < length (row_at t n) → length costs ≡ order_count t * wagon_count t → (get_or (row_at t n) m (0, 0)).0 * wagon_count t + n < length costs
cost_place t n m costs ln is lm count =
    let lk = (row_from (order_count t) 0 m (row_at t n) is lm).1 in
    let bound = mul-add-lt (get_or (row_at t n) m (0, 0)).0 (wagon_count t) n (order_count t) lk ln in
    let swap : order_count t * wagon_count t ≡ wagon_count t * order_count t = grind arith in
    omega (arith, bound, swap, count)

-- the same where the row and the number of wagons were read
pub place_read : (t : Table) (n m w : ℕ) (row : List (ℕ × ℕ)) (costs : List ℕ) → row ≡ row_at t n → w ≡ wagon_count t → n < wagon_count t → IsRow (order_count t) 0 row → m < length row → length costs ≡ order_count t * wagon_count t → (get_or row m (0, 0)).0 * w + n < length costs
place_read t n m w row costs re we ln is lm count =
    subst (λ (r : List (ℕ × ℕ)). IsRow (order_count t) 0 r → m < length r → (get_or r m (0, 0)).0 * w + n < length costs) (sym re)
    (λ is' lm'. subst (λ (x : ℕ). (get_or (row_at t n) m (0, 0)).0 * x + n < length costs) (sym we) (cost_place t n m costs ln is' lm' count)) is lm

-- where the cost of an order stands
pub place_within : (orders wagons j i len : ℕ) → len ≡ orders * wagons → j < orders → i < wagons → j * wagons + i < len
place_within orders wagons j i len e lj li =
    let bound = mul-add-lt j wagons i orders lj li in
    let swap : orders * wagons ≡ wagons * orders = grind arith in
    omega (arith, e, bound, swap)

pub more_read : (t : Table) (n m w : ℕ) (row : List (ℕ × ℕ)) (costs costs' : List ℕ) → row ≡ row_at t n → w ≡ wagon_count t → n < wagon_count t → IsRow (order_count t) 0 row → m < length row → AreCostsOf t (cost_within t n m) costs → costs' ≡ set costs ((get_or row m (0, 0)).0 * w + n) (get_or row m (0, 0)).1 → AreCostsOf t (cost_within t n (m + 1)) costs'
more_read t n m w row costs costs' re we ln is lm h e =
    subst (λ (r : List (ℕ × ℕ)). IsRow (order_count t) 0 r → m < length r → costs' ≡ set costs ((get_or r m (0, 0)).0 * w + n) (get_or r m (0, 0)).1 → AreCostsOf t (cost_within t n (m + 1)) costs') (sym re)
    (λ is' lm' e'. costs_more t n m costs costs' ln is' lm' h (e' ∙ ap (λ x. set costs ((get_or (row_at t n) m (0, 0)).0 * x + n) (get_or (row_at t n) m (0, 0)).1) we)) is lm e
