-- Numbers of orders that grow one by one, and the cells of an order in a row.
use Rattle.std.proofs.Common.{◌≡◌, ◌≢◌, ◌+◌, ◌<◌, ◌≤◌, ℕ, zero, suc, Bool, true, false, cond, Option, Some, None, List, [], ◌∷◌, ◌++◌, length, set, get_or, take, drop, replicate, length-take-le, get_or-set_same, get_or-set_other, refl, sym, ap, ap₂, ◌∙◌, inl, inr, subst, arith, map}
use Rattle.std.specs.Prelude.{◌==◌, All, is_some, nat_lt, slice_index}
use Rattle.std.specs.List.{count_by, sum_by}
use Rattle.std.proofs.lemmas.Bool.{cases_eq}
use Rattle.std.proofs.lemmas.Bool.Decides.{nat_tests}
use Rattle.std.proofs.lemmas.Grind.{get_or_default_zero}
use Rattle.std.proofs.lemmas.List.{get_or-replicate, length-set, take-append-le, take_all, take_more}
use Rattle.std.proofs.lemmas.List.Elements.{All-take}
use Rattle.std.proofs.lemmas.List.Sums.{count_by-le-length, sum_by-append, sum_by-cons}
use Rattle.cost_table.specs.Table.{Table, order_count}
use Rattle.cost_table.specs.TableLimits.{IsRow, IsTable}
use Rattle.cost_table.specs.TableRows.{all_rows, cells_of, cost_in}
use Rattle.cost_table.proofs.TableLemmas.{cost_in_within}
use Rattle.cost_table.proofs.TableRowLemmas.{cost_in-cells_of, cost_there, rows_are}
use Rattle.plan_reasons.specs.Laws.{cells_of_order}
use Rattle.plan_reasons.specs.PairLists.{is_below}
use Rattle.plan_reasons.specs.inner.Tallied.{AreMore, AreNumbers, below_in_row, cells_below, cheaper_cells, is_cell_below}

-- ---- one number more

pub more_at : (n : ℕ) (number next : ℕ → ℕ) (old new : List ℕ) (k x : ℕ) → AreNumbers n number old → k < n → new ≡ set old k (get_or old k 0 + x) → next k ≡ number k + x → ((j : ℕ) → j ≢ k → next j ≡ number j) → AreNumbers n next new
more_at n number next old new k x are lt written here other = (
  ap length written ∙ length-set old k (get_or old k 0 + x) ∙ are.0,
  λ j less. elim (cases_eq j k) [
    | inl same ↦
        let read = ap (λ (ys : List ℕ). get_or ys k 0) written ∙ get_or-set_same old k (get_or old k 0 + x) 0 (omega (arith, are.0)) in
        let was = are.1 k lt in
        subst (λ (i : ℕ). get_or new i 0 ≡ next i) (sym same) (omega (arith, read, was, here))
    | inr apart ↦ ap (λ (ys : List ℕ). get_or ys j 0) written ∙ get_or-set_other old k j (get_or old k 0 + x) 0 apart ∙ are.1 j less ∙ sym (other j apart)
  ],
)

pub none_yet : (n : ℕ) (number : ℕ → ℕ) (xs : List ℕ) → xs ≡ replicate n 0 → ((j : ℕ) → number j ≡ 0) → length xs ≡ n → AreNumbers n number xs
none_yet n number xs is none long = (long, λ j less. ap (λ (ys : List ℕ). get_or ys j 0) is ∙ get_or-replicate n j 0 0 less ∙ sym (none j))

-- a count along a list
pub counted_more : {A : Type 0} (test : A → Bool) (xs : List A) (i : ℕ) (x d : A) → i < length xs → x ≡ get_or xs i d → count_by test (take (i + 1) xs) ≡ count_by test (take i xs) + cond (test x) 1 0
counted_more {A} test xs i x d lt at =
    let split = ap (count_by test) (take_more xs i d lt) ∙ sum_by-append (λ (y : A). cond (test y) 1 0) (take i xs) (get_or xs i d ∷ []) in
    omega (arith, split, ap {B = ℕ} (λ (y : A). cond (test y) 1 0) at)

-- ---- the cells of one row

pub cell_within : (n low : ℕ) (row : List (ℕ × ℕ)) (k : ℕ) (d : ℕ × ℕ) → IsRow n low row → k < length row → (get_or row k d).0 < n
cell_within n low [] k d is lt = absurd (omega arith)
cell_within n low (cell ∷ row) zero d is lt = is.1
cell_within n low (cell ∷ row) (suc k) d is lt = cell_within n (cell.0 + 1) row k d is.3 (omega arith)

-- a cell of an order counts at this order alone
pub cell_here : (limits : List ℕ) (cell : ℕ × ℕ) → is_cell_below limits cell.0 cell ≡ nat_lt cell.1 (slice_index limits cell.0)
cell_here limits cell = grind (arith, nat_tests)

pub cell_elsewhere : (limits : List ℕ) (j : ℕ) (cell : ℕ × ℕ) → j ≢ cell.0 → is_cell_below limits j cell ≡ false
cell_elsewhere limits j cell apart = grind (arith, nat_tests, apart)

no_cell : (n low : ℕ) (row : List (ℕ × ℕ)) (limits : List ℕ) (j : ℕ) → IsRow n low row → j < low → below_in_row row limits j ≡ 0
no_cell n low [] limits j is less = refl
no_cell n low (cell ∷ row) limits j is less =
    let rest = no_cell n (cell.0 + 1) row limits j is.3 (omega (arith, is.0)) in
    let apart = cell_elsewhere limits j cell (λ e. omega (arith, e, is.0, less)) in
    sum_by-cons (λ (c : ℕ × ℕ). cond (is_cell_below limits j c) 1 0) cell row ∙ ap₂ (λ (one more : ℕ). one + more) (ap (λ (b : Bool). cond b 1 0) apart) rest

cost_apart : (k j n : ℕ) (rest : Option ℕ) → j ≢ k → cond (k == j) (Some n) rest ≡ rest
cost_apart k j n rest apart = grind (arith, nat_tests, apart)

-- an order has one cell in a row, or none
one_cell : (n low : ℕ) (row : List (ℕ × ℕ)) (limits : List ℕ) (j : ℕ) → IsRow n low row → below_in_row row limits j ≡ cond (is_below (cost_in row j) (slice_index limits j)) 1 0
one_cell n low [] limits j is = refl
one_cell n low (cell ∷ row) limits j is =
    let split = sum_by-cons (λ (c : ℕ × ℕ). cond (is_cell_below limits j c) 1 0) cell row in
    let below : Option ℕ → ℕ = λ o. cond (is_below o (slice_index limits j)) 1 0 in
    let as_number : Bool → ℕ = λ b. cond b 1 0 in
    elim (cases_eq j cell.0) [
      | inl same ↦
          let first : is_cell_below limits j cell ≡ nat_lt cell.1 (slice_index limits j) = subst (λ (k : ℕ). is_cell_below limits k cell ≡ nat_lt cell.1 (slice_index limits k)) (sym same) (cell_here limits cell) in
          let rest = no_cell n (cell.0 + 1) row limits j is.3 (omega (arith, same)) in
          omega (arith, split, rest, ap as_number first, ap below (cost_there cell.0 j cell.1 (cost_in row j) same))
      | inr apart ↦
          let rest = one_cell n (cell.0 + 1) row limits j is.3 in
          omega (arith, split, rest, ap as_number (cell_elsewhere limits j cell apart), ap below (cost_apart cell.0 j cell.1 (cost_in row j) apart))
    ]

-- so it counts once at most
most_one : (n : ℕ) (row : List (ℕ × ℕ)) (limits : List ℕ) (j : ℕ) → IsRow n 0 row → below_in_row row limits j ≤ 1
most_one n row limits j is = at (is_below (cost_in row j) (slice_index limits j)) (one_cell n 0 row limits j is) where
  at : (b : Bool) → below_in_row row limits j ≡ cond b 1 0 → below_in_row row limits j ≤ 1
  at true e = omega (arith, e)
  at false e = omega (arith, e)

-- ---- the cells of one row in two places

pub few_after : (n : ℕ) (first : List (ℕ × ℕ)) (limits old new : List ℕ) → IsRow n 0 first → All (λ count. count ≤ 1_000) old → AreMore (below_in_row first limits) old new → All (λ count. count ≤ 1_001) new
few_after n first limits old new is few more = λ k d lt.
    let here : k < length old = omega (arith, lt, more.0) in
    omega (arith, get_or_default_zero new k d lt, more.1 k here, few k 0 here, most_one n first limits k is)

pub more_twice : (first rest : List (ℕ × ℕ)) (limits old between new : List ℕ) → AreMore (below_in_row first limits) old between → AreMore (below_in_row rest limits) between new → AreMore (below_in_row (first ++ rest) limits) old new
more_twice first rest limits old between new one other = (
  omega (arith, one.0, other.0),
  λ j less. omega (arith, one.1 j less, other.1 j (omega (arith, less, one.0)), sum_by-append (λ (c : ℕ × ℕ). cond (is_cell_below limits j c) 1 0) first rest),
)

-- ---- the cells of all rows

sum_same : (P : List (ℕ × ℕ) → Type 0) (f g : List (ℕ × ℕ) → ℕ) → ((row : List (ℕ × ℕ)) → P row → f row ≡ g row) → (rows : List (List (ℕ × ℕ))) → All P rows → sum_by f rows ≡ sum_by g rows
sum_same P f g same [] all = refl
sum_same P f g same (row ∷ rows) all =
    sum_by-cons f row rows ∙ ap₂ (λ (one more : ℕ). one + more) (same row (all 0 row (omega arith))) (sum_same P f g same rows (λ k d lt. all (suc k) d (omega arith))) ∙ sym (sum_by-cons g row rows)

rows_below : (n : ℕ) (rows : List (List (ℕ × ℕ))) (limits : List ℕ) (j : ℕ) → All (IsRow n 0) rows → cells_below rows limits j ≡ count_by (λ row. is_below (cost_in row j) (slice_index limits j)) rows
rows_below n rows limits j all = sum_same (IsRow n 0) (λ row. below_in_row row limits j) (λ row. cond (is_below (cost_in row j) (slice_index limits j)) 1 0) (λ row is. one_cell n 0 row limits j is) rows all

-- no more than there are rows
pub few_below : (n : ℕ) (rows : List (List (ℕ × ℕ))) (i : ℕ) (limits : List ℕ) (j : ℕ) → All (IsRow n 0) rows → i ≤ length rows → cells_below (take i rows) limits j ≤ i
few_below n rows i limits j all le =
    omega (arith, rows_below n (take i rows) limits j (All-take (IsRow n 0) i rows all), count_by-le-length (λ (row : List (ℕ × ℕ)). is_below (cost_in row j) (slice_index limits j)) (take i rows), length-take-le i rows le)

pub row_more : (rows : List (List (ℕ × ℕ))) (i : ℕ) (row d : List (ℕ × ℕ)) (limits : List ℕ) (j : ℕ) → i < length rows → row ≡ get_or rows i d → cells_below (take (i + 1) rows) limits j ≡ cells_below (take i rows) limits j + below_in_row row limits j
row_more rows i row d limits j lt at =
    let below = λ (r : List (ℕ × ℕ)). below_in_row r limits j in
    let split = ap (sum_by below) (take_more rows i d lt) ∙ sum_by-append below (take i rows) (get_or rows i d ∷ []) in
    omega (arith, split, ap below at)

below_most : (cost : Option ℕ) (limit : ℕ) → ((c : ℕ) → cost ≡ Some c → c < limit) → is_below cost limit ≡ is_some cost
below_most None limit less = refl
below_most (Some c) limit less = grind (arith, nat_tests, less c refl)

-- what is counted along rows is counted over all costs
count_of_costs : (test : Option ℕ → Bool) (j : ℕ) (costs : List (List (Option ℕ))) → count_by (λ row. test (cost_in row j)) (map (cells_of 0) costs) ≡ count_by (λ row. test (get_or row j None)) costs
count_of_costs test j [] = refl
count_of_costs test j (row ∷ costs) =
    sum_by-cons (λ (cells : List (ℕ × ℕ)). cond (test (cost_in cells j)) 1 0) (cells_of 0 row) (map (cells_of 0) costs)
    ∙ ap₂ (λ (one more : ℕ). one + more) (ap (λ cost. cond (test cost) 1 0) (cost_in-cells_of 0 j j row (omega arith))) (count_of_costs test j costs)
    ∙ sym (sum_by-cons (λ (row : List (Option ℕ)). cond (test (get_or row j None)) 1 0) row costs)

module _ (t : Table) (table : IsTable t) (limits counts : List ℕ) (are : AreNumbers (order_count t) (cells_below (all_rows t) limits) counts) where
  below_all : (n j : ℕ) (row : List (ℕ × ℕ)) → slice_index limits j ≡ 18_446_744_073_709_551_615 → IsRow n 0 row → is_below (cost_in row j) (slice_index limits j) ≡ is_some (cost_in row j)
  below_all n j row limit is = below_most (cost_in row j) (slice_index limits j) (λ c at. omega (arith, limit, (cost_in_within n 0 j c row is at).1))

  -- where no cost reaches the limit, all cells count
  pub all_count : limits ≡ replicate (order_count t) 18_446_744_073_709_551_615 → AreNumbers (order_count t) (cells_of_order t) counts
  all_count most = (
    are.0,
    λ j less.
        let limit = ap (λ (xs : List ℕ). get_or xs j 0) most ∙ get_or-replicate (order_count t) j 18_446_744_073_709_551_615 0 less in
        are.1 j less ∙ sum_same (IsRow (order_count t) 0) (λ row. below_in_row row limits j) (λ row. cond (is_some (cost_in row j)) 1 0) (λ row is. one_cell (order_count t) 0 row limits j is ∙ ap (λ (b : Bool). cond b 1 0) (below_all (order_count t) j row limit is)) (all_rows t) (rows_are t table) ∙ count_of_costs is_some j t.costs,
  )

  pub cheaper_count : limits ≡ t.penalties → AreNumbers (order_count t) (cheaper_cells t) counts
  cheaper_count same = (are.0, λ j less. are.1 j less ∙ rows_below (order_count t) (all_rows t) limits j (rows_are t table) ∙ (ap (λ (xs : List ℕ). count_by (λ row. is_below (cost_in row j) (slice_index xs j)) (all_rows t)) same ∙ count_of_costs (λ cost. is_below cost (slice_index t.penalties j)) j t.costs))

-- a list that was written as a whole
pub written_whole : (new old : List ℕ) (n : ℕ) → length new ≡ length old → length old ≡ n → take n (new ++ drop (length new) old) ≡ new
written_whole new old n same long = take-append-le n new (drop (length new) old) (omega (arith, same, long)) ∙ take_all n new (omega (arith, same, long))
