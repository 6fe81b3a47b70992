-- What a search by order finds in a row.
use Rattle.std.proofs.Common.{◌≡◌, ◌≢◌, ◌+◌, ◌<◌, ◌≤◌, ℕ, zero, suc, List, [], ◌∷◌, length, get_or, Some, None, Result, Ok, Err, refl, sym, ap, arith}
use Rattle.std.specs.List.Sorted.{IsSearchInRange, IsBinarySearchResult, IsNonDecreasingBy}
use Rattle.std.specs.Prelude.{MatchResult}
use Rattle.std.specs.Ordering.{nat_cmp, ordering_index}
use Rattle.std.proofs.lemmas.Cmp.{ranked}
use Rattle.std.proofs.lemmas.List.Sorted.{IsNonDecreasingBy-from_default}
use Rattle.std.proofs.lemmas.Bool.Decides.{nat_tests}
use Rattle.cost_table.specs.TableLimits.{IsRow}
use Rattle.cost_table.specs.TableRows.{cost_in}
use Rattle.cost_table.specs.inner.Searched.{IsAscendingRow, order_of_cell}

first_least : (n low k : ℕ) (row : List (ℕ × ℕ)) → IsRow n low row → k < length row → low ≤ order_of_cell row k
first_least n low k [] h l = absurd (omega arith)
first_least n low zero (cell ∷ row) h l = h.0
first_least n low (suc k) (cell ∷ row) h l =
    let rest = first_least n (cell.0 + 1) k row h.3 (omega arith) in
    omega (arith, rest, h.0)

pub row_ascends : (n low : ℕ) (row : List (ℕ × ℕ)) → IsRow n low row → IsAscendingRow row
row_ascends n low [] h i j less l = absurd (omega arith)
row_ascends n low (cell ∷ row) h zero zero less l = absurd (omega arith)
row_ascends n low (cell ∷ row) h (suc i) zero less l = absurd (omega arith)
row_ascends n low (cell ∷ row) h zero (suc j) less l =
    let rest = first_least n (cell.0 + 1) j row h.3 (omega arith) in
    omega (arith, rest)
row_ascends n low (cell ∷ row) h (suc i) (suc j) less l = row_ascends n (cell.0 + 1) row h.3 i j (omega arith) (omega arith)

none_in_tail : (cell : ℕ × ℕ) (row : List (ℕ × ℕ)) (k i : ℕ) → ((j : ℕ) → j < suc i → order_of_cell (cell ∷ row) j ≢ k) → (j : ℕ) → j < i → order_of_cell row j ≢ k
none_in_tail cell row k i absent j l = absent (suc j) (omega arith)

cost_absent : (row : List (ℕ × ℕ)) (k : ℕ) → ((j : ℕ) → j < length row → order_of_cell row j ≢ k) → cost_in row k ≡ None
cost_absent [] k absent = refl
cost_absent (cell ∷ row) k absent = grind (arith, nat_tests, absent 0 (omega arith), cost_absent row k (none_in_tail cell row k (length row) absent))

cost_present : (row : List (ℕ × ℕ)) (k i : ℕ) → i < length row → order_of_cell row i ≡ k → ((j : ℕ) → j < i → order_of_cell row j ≢ k) → cost_in row k ≡ Some (get_or row i (0, 0)).1
cost_present [] k i l is absent = absurd (omega arith)
cost_present (cell ∷ row) k zero l is absent = grind (arith, nat_tests, is)
cost_present (cell ∷ row) k (suc i) l is absent =
    grind (arith, nat_tests, absent 0 (omega arith), cost_present row k i (omega arith) is (none_in_tail cell row k i absent))

comparisons_rise : (row : List (ℕ × ℕ)) (k : ℕ) → IsAscendingRow row → IsNonDecreasingBy (λ cell. ordering_index (nat_cmp cell.0 k)) row
comparisons_rise row k ascends = IsNonDecreasingBy-from_default (λ cell. ordering_index (nat_cmp cell.0 k)) row (0, 0) (λ i j le in_range.
    let orders_rise : order_of_cell row i ≤ order_of_cell row j = grind (arith, ascends i j, λ (same : i ≡ j). ap (order_of_cell row) same) in
    grind (arith, nat_tests))

-- a binary search by order answers where the order's cell is, or that there is none
pub searched : (row : List (ℕ × ℕ)) (k : ℕ) (r : Result ℕ ℕ) → IsAscendingRow row → IsSearchInRange r (length row) → IsBinarySearchResult (λ cell. nat_cmp cell.0 k) row r → MatchResult r (λ i. cost_in row k ≡ Some (get_or row i (0, 0)).1) (λ i. cost_in row k ≡ None)
searched row k (Ok i) ascends in_range equal =
    let here : order_of_cell row i ≡ k = ranked _ k _ (sym (equal (0, 0))) in
    cost_present row k i in_range here (λ j l same. omega (arith, ascends j i l in_range, here))
searched row k (Err i) ascends in_range parted =
    let rise = parted (comparisons_rise row k ascends) in
    cost_absent row k (λ j l same. differs (λ (m : j < i). ranked _ k _ (sym (rise.0 j (0, 0) (omega arith) m))) (λ (m : i ≤ j). ranked _ k _ (sym (rise.1 j (0, 0) m l))) same)
  where
    differs : {j : ℕ} → (j < i → order_of_cell row j < k) → (i ≤ j → k < order_of_cell row j) → order_of_cell row j ≡ k → ⊥
    differs below above same = grind (arith, below, above)
