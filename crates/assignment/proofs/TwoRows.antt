use Rattle.std.proofs.Common.{◌≡◌, ◌≢◌, ◌+◌, ◌*◌, ◌<◌, ◌≤◌, ℕ, zero, suc, List, [], ◌∷◌, ◌++◌, append-nil, length-append, Some, length, get_or, set, refl, sym, ◌∙◌, ap, arith, inl, inr}
use Rattle.std.proofs.lemmas.Bool.{cases_eq, cases_lt}
use Rattle.std.proofs.lemmas.Bool.Decides.{nat_tests}
use Rattle.std.proofs.lemmas.Nat.{mul-add-lt}
use Rattle.cost_table.specs.Table.{Table, cost_at, wagon_count, order_count}
use Rattle.cost_table.specs.TableLimits.{IsRow}
use Rattle.cost_table.specs.TableRows.{cost_in, row_at}
use Rattle.cost_table.proofs.TableRowLemmas.{cost_by_row, cost_later, cost_there}
use Rattle.assignment.specs.inner.Costs.{cell_cost, AreCostsOf, cost_before, cost_two}
use Rattle.assignment.proofs.CostSteps.{before_is, before_none, place_order, place_wagon}
use Rattle.assignment.proofs.Writes.{same_at, other_at, written_length}

row_length : (orders low : ℕ) (row : List (ℕ × ℕ)) → IsRow orders low row → low ≤ orders → low + length row ≤ orders
row_length orders low [] h l = omega arith
row_length orders low (cell ∷ row) h l =
    let rest = row_length orders (cell.0 + 1) row h.3 (let b = h.1 in omega arith) in
    let a = h.0 in
    omega (arith, rest)

-- cells that are as many as there are orders are the whole row
pub full_first : (orders : ℕ) (first rest : List (ℕ × ℕ)) → IsRow orders 0 (first ++ rest) → length first ≡ orders → first ≡ first ++ rest
full_first orders first [] h full = sym (append-nil first)
full_first orders first (cell ∷ rest) h full =
    let long = row_length orders 0 (first ++ cell ∷ rest) h (omega arith) in
    let count = length-append first (cell ∷ rest) in
    absurd (omega (arith, long, count, full))

pub full_rest : (orders : ℕ) (first rest : List (ℕ × ℕ)) → IsRow orders 0 (first ++ rest) → length rest ≡ orders → rest ≡ first ++ rest
full_rest orders [] rest h full = refl
full_rest orders (cell ∷ first) rest h full =
    let long = row_length orders 0 (cell ∷ first ++ rest) h (omega arith) in
    let count = length-append (cell ∷ first) rest in
    absurd (omega (arith, long, count, full))

first_order : (orders low : ℕ) (cell : ℕ × ℕ) (row : List (ℕ × ℕ)) → IsRow orders low (cell ∷ row) → orders ≤ low + length (cell ∷ row) → cell.0 ≡ low
first_order orders low cell row h full =
    let rest = row_length orders (cell.0 + 1) row h.3 (let b = h.1 in omega arith) in
    let a = h.0 in
    omega (arith, rest)

-- a row from `low` on that is as long as there are orders left has each of them
full_from : (orders low n : ℕ) (row : List (ℕ × ℕ)) → IsRow orders low row → orders ≤ low + length row → n < length row → cost_in row (low + n) ≡ Some (get_or row n (0, 0)).1
full_from orders low n [] h full l = absurd (omega arith)
full_from orders low zero (cell ∷ row) h full l =
    let first = first_order orders low cell row h full in
    cost_there cell.0 (low + zero) cell.1 (cost_in row (low + zero)) (omega (arith, first))
full_from orders low (suc n) (cell ∷ row) h full l =
    let first = first_order orders low cell row h full in
    let e : low + suc n ≡ cell.0 + 1 + n = omega (arith, first) in
    cost_later cell.0 (low + suc n) cell.1 (cost_in row (low + suc n)) (omega (arith, first)) ∙ ap (cost_in row) e ∙ full_from orders (cell.0 + 1) n row h.3 (omega (arith, first)) (omega arith)

-- the cell of a full row at an index
pub full_at : (t : Table) (i j : ℕ) (row : List (ℕ × ℕ)) → row ≡ row_at t i → IsRow (order_count t) 0 row → length (row_at t i) ≡ order_count t → j < order_count t → cost_at t i j ≡ Some (get_or row j (0, 0)).1
full_at t i j row e is full l =
    let long : length row ≡ order_count t = ap length e ∙ full in
    let here : j ≡ 0 + j = omega arith in
    cost_by_row t i j ∙ ap (λ r. cost_in r j) (sym e) ∙ ap (cost_in row) here ∙ full_from (order_count t) 0 j row is (omega (arith, long)) (omega (arith, l, long))

pub two_below : (t : Table) (n m i j : ℕ) → j < m → cost_two t n m i j ≡ cost_before t (n + 2) i j
two_below t n m i j l = grind (arith, nat_tests, l)

two_above : (t : Table) (n m i j : ℕ) → m ≤ j → cost_two t n m i j ≡ cost_before t n i j
two_above t n m i j l = grind (arith, nat_tests, l)

-- the costs of two wagons for the next order, and what was there before
pub two_new : (t : Table) (n m i : ℕ) → i < n + 2 → cost_two t n (m + 1) i m ≡ cost_at t i m
two_new t n m i l = two_below t n (m + 1) i m (omega arith) ∙ before_is t (n + 2) i m l

pub two_kept : (t : Table) (n m i j : ℕ) → (j ≡ m → (i ≢ n) × (i ≢ n + 1)) → cost_two t n (m + 1) i j ≡ cost_two t n m i j
two_kept t n m i j other = elim (cases_lt j m) [
  | inl less ↦ two_below t n (m + 1) i j (omega (arith, less)) ∙ sym (two_below t n m i j less)
  | inr more ↦ elim (cases_eq j m) [
    | inl same ↦ two_below t n (m + 1) i j (omega (arith, same)) ∙ elim (cases_lt i n) [
      | inl before ↦ before_is t (n + 2) i j (omega (arith, before)) ∙ sym (before_is t n i j before)
      | inr after ↦ let apart = other same in before_none t (n + 2) i j (omega (arith, after, apart.0, apart.1)) ∙ sym (before_none t n i j after)
    ] ∙ sym (two_above t n m i j more)
    | inr past ↦ two_above t n (m + 1) i j (omega (arith, more, past)) ∙ sym (two_above t n m i j more)
  ]
]

-- both cells of one order more
pub two_more : (t : Table) (n m w a b : ℕ) (costs costs' : List ℕ) → w ≡ wagon_count t → n + 1 < wagon_count t → m < order_count t → cost_at t n m ≡ Some a → cost_at t (n + 1) m ≡ Some b → AreCostsOf t (cost_two t n m) costs → costs' ≡ set (set costs (m * w + n) a) (m * w + n + 1) b → AreCostsOf t (cost_two t n (m + 1)) costs'
two_more t n m w a b costs costs' we ln lm first second h e0 =
    let k = wagon_count t in
    let index = m * k + n in
    let inner = set costs index a in
    let e : costs' ≡ set inner (index + 1) b = e0 ∙ ap (λ x. set (set costs (m * x + n) a) (m * x + n + 1) b) we in
    let bound = mul-add-lt m k (n + 1) (order_count t) lm ln in
    let swap : order_count t * k ≡ k * order_count t = grind arith in
    let count = h.count in
    let long : length inner ≡ length costs = written_length costs inner index a refl in
    let next : m * k + (n + 1) ≡ index + 1 = omega arith in
    record {
      count = written_length inner costs' (index + 1) b e ∙ long ∙ count;
      each = λ i j li lj. elim (cases_eq (j * k + i) index) [
        | inl here ↦
            let at : get_or costs' index 0 ≡ cell_cost (cost_two t n (m + 1) n m) = other_at inner costs' (index + 1) b 0 index e (λ q. omega (arith, q)) ∙ same_at costs inner index a 0 (omega (arith, bound, swap, count, next)) refl ∙ ap cell_cost (sym (two_new t n m n (omega arith) ∙ first)) in
            let ei = place_wagon k i j n m li (omega (arith, ln)) here in
            let ej = place_order k i j n m li (omega (arith, ln)) here in
            ap (λ x. get_or costs' x 0) here ∙ at ∙ ap (λ x. cell_cost (cost_two t n (m + 1) x m)) (sym ei) ∙ ap (λ y. cell_cost (cost_two t n (m + 1) i y)) (sym ej)
        | inr not_first ↦ elim (cases_eq (j * k + i) (index + 1)) [
          | inl here ↦
              let at : get_or costs' (index + 1) 0 ≡ cell_cost (cost_two t n (m + 1) (n + 1) m) = same_at inner costs' (index + 1) b 0 (omega (arith, bound, swap, count, next, long)) e ∙ ap cell_cost (sym (two_new t n m (n + 1) (omega arith) ∙ second)) in
              let ei = place_wagon k i j (n + 1) m li ln (here ∙ sym next) in
              let ej = place_order k i j (n + 1) m li ln (here ∙ sym next) in
              ap (λ x. get_or costs' x 0) here ∙ at ∙ ap (λ x. cell_cost (cost_two t n (m + 1) x m)) (sym ei) ∙ ap (λ y. cell_cost (cost_two t n (m + 1) i y)) (sym ej)
          | inr not_second ↦
              let kept = two_kept t n m i j (λ ej. (λ ei. not_first (ap (λ x. j * k + x) ei ∙ ap (λ y. y * k + n) ej), λ ei. not_second (ap (λ x. j * k + x) ei ∙ ap (λ y. y * k + (n + 1)) ej ∙ next))) in
              other_at inner costs' (index + 1) b 0 (j * k + i) e not_second ∙ other_at costs inner index a 0 (j * k + i) refl not_first ∙ h.each i j li lj ∙ ap cell_cost (sym kept)
        ]
      ];
    }
