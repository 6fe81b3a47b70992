-- The cells of an order, wagon by wagon.
use Rattle.std.proofs.Common.{◌≡◌, ◌+◌, ℕ, zero, suc, Bool, true, false, cond, Option, Some, None, List, [], ◌∷◌, ◌++◌, length, refl, sym, ap, ap₂, ◌∙◌, add-one, arith}
use Rattle.std.specs.Prelude.{◌↔◌, IsTrue, is_some, slice_get, slice_index_or}
use Rattle.std.specs.List.{AllZip, count_by, range_with_len}
use Rattle.std.proofs.lemmas.List.Sums.{sum_by-cons}
use Rattle.wagons_and_orders.specs.declared.free_wagon.FreeWagon.{FreeWagon}
use Rattle.plan_reasons.specs.Reasons.{IsInTime}
use Rattle.plan_reasons.specs.Laws.{InTimeAreAllowed}

range_more : (a n : ℕ) → range_with_len a (suc n) ≡ range_with_len a n ++ (a + n) ∷ []
range_more a zero = ap (λ m. m ∷ []) (omega arith)
range_more a (suc n) =
    let same : (a + 1) + n ≡ a + suc n = omega arith in
    ap (λ more. a ∷ more) (range_more (a + 1) n ∙ ap (λ m. range_with_len (a + 1) n ++ m ∷ []) same)

-- one number more
pub range_next : (n : ℕ) → range_with_len 0 (n + 1) ≡ range_with_len 0 n ++ n ∷ []
range_next n = ap (range_with_len 0) (add-one n) ∙ range_more 0 n ∙ ap (λ m. range_with_len 0 n ++ m ∷ []) (omega arith)

-- a mark says whether there is a cell
same_mark : (A : Type 0) (mark : Bool) (cell : Option ℕ) → IsTrue mark ↔ A → ((km : ℕ) × (cell ≡ Some km)) ↔ A → mark ≡ is_some cell
same_mark A true (Some km) marked is = refl
same_mark A true None marked is = let cell = is.1 (marked.0 refl) in let no : None ≡ Some cell.0 = cell.1 in cc
same_mark A false (Some km) marked is = marked.1 (is.0 (km, refl))
same_mark A false None marked is = refl

cells_counted : (IsSo : FreeWagon → Type 0) (j : ℕ) (rows : List (List (Option ℕ))) (wagons : List FreeWagon) (marks : List Bool) → length rows ≡ length wagons
    → AllZip (λ wagon mark. IsTrue mark ↔ IsSo wagon) wagons marks
    → ((i : ℕ) (wagon : FreeWagon) → slice_get wagons i ≡ Some wagon → ((km : ℕ) × (slice_index_or (slice_index_or rows i []) j None ≡ Some km)) ↔ IsSo wagon)
    → count_by (λ mark. mark) marks ≡ count_by (λ row. is_some (slice_index_or row j None)) rows
cells_counted IsSo j [] [] [] e each is = refl
cells_counted IsSo j [] [] (m ∷ ms) e each is = absurd each
cells_counted IsSo j [] (w ∷ ws) marks e each is = absurd (omega arith)
cells_counted IsSo j (row ∷ rows) [] marks e each is = absurd (omega arith)
cells_counted IsSo j (row ∷ rows) (w ∷ ws) [] e each is = absurd each
cells_counted IsSo j (row ∷ rows) (w ∷ ws) (m ∷ ms) e each is =
    let first = same_mark (IsSo w) m (slice_index_or row j None) each.0 (is 0 w refl) in
    let rest = cells_counted IsSo j rows ws ms (omega arith) each.1 (λ i wagon at. is (suc i) wagon at) in
    sum_by-cons (λ (mark : Bool). cond mark 1 0) m ms ∙ ap₂ (λ (one more : ℕ). one + more) (ap (λ (mark : Bool). cond mark 1 0) first) rest
    ∙ sym (sum_by-cons (λ (r : List (Option ℕ)). cond (is_some (slice_index_or r j None)) 1 0) row rows)

pub in_time_are_allowed : InTimeAreAllowed
in_time_are_allowed net problem t table j n wanted order counted =
    counted.count ∙ cells_counted (λ (wagon : FreeWagon). IsInTime net problem.at wagon wanted.order) j t.costs problem.wagons counted.marks table.wagons counted.each (λ i wagon at. (
      λ cell. (cell.0, (table.cells i j cell.0 wagon wanted at order).0 cell.1),
      λ in_time. (in_time.0, (table.cells i j in_time.0 wagon wanted at order).1 in_time.1),
    ))
