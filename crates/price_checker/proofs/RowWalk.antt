use Rattle.std.proofs.Common.{◌≡◌, ◌+◌, ◌<◌, ◌≤◌, ℕ, zero, suc, Bool, true, false, cond, Option, Some, None, List, [], ◌∷◌, ◌++◌, refl, sym, ◌∙◌, ap, arith, subst, inl, inr}
use Rattle.std.specs.Prelude.{nat_lt, slice_index, All}
use Rattle.std.specs.Option.{option_or}
use Rattle.std.specs.List.{AllByRecursion}
use Rattle.std.proofs.Math.Nat.{eq-or-lt_of_le}
use Rattle.std.proofs.lemmas.Bool.Decides.{nat_tests}
use Rattle.std.proofs.lemmas.List.Elements.{All-from_recursion}
use Rattle.cost_table.specs.Table.{Table, cost_at, order_count}
use Rattle.cost_table.specs.TableLimits.{IsRow}
use Rattle.cost_table.specs.TableRows.{cost_in, row_at}
use Rattle.faults.specs.declared.faults.CheckFault.{CheckFault}
use Rattle.faults.specs.declared.faults.CheckFault.TheVariants.{PriceGap}
use Rattle.price_checker.specs.Faults.{first_below, gap_at, gap_of_wagon}
use Rattle.price_checker.specs.inner.RowWalk.{gap_of_row}
use Rattle.cost_table.proofs.TableRowLemmas.{cost_by_row, none_before}
use Rattle.price_checker.proofs.FirstBelow.{first_from, first_below-from, first_below-same, first_from-same}

abbrev pub gap_at_order : ℕ → List (ℕ × ℕ) → ℕ → List ℕ → ℕ → Option CheckFault
gap_at_order i row u v j = gap_at i j (cost_in row j) u (slice_index v j)

cost_in_first : (j : ℕ) (cell : ℕ × ℕ) (row : List (ℕ × ℕ)) → cell.0 ≡ j → cost_in (cell ∷ row) j ≡ Some cell.1
cost_in_first j cell row e = grind (arith, nat_tests, e)

cost_in_rest : (j : ℕ) (cell : ℕ × ℕ) (row : List (ℕ × ℕ)) → cell.0 < j → cost_in (cell ∷ row) j ≡ cost_in row j
cost_in_rest j cell row e = grind (arith, nat_tests, e)

or_cond : {A : Type 0} (b : Bool) (x : A) (rest : Option A) → option_or (cond b (Some x) None) rest ≡ cond b (Some x) rest
or_cond true x rest = refl
or_cond false x rest = refl

IsRow-from : (n low low' : ℕ) (cell : ℕ × ℕ) (row : List (ℕ × ℕ)) → low' ≤ cell.0 → IsRow n low (cell ∷ row) → IsRow n low' (cell ∷ row)
IsRow-from n low low' cell row l h = (l, h.1, h.2, h.3)

-- a walk along a row finds the least order with a gap
walk_from : (i start n : ℕ) (row : List (ℕ × ℕ)) (u : ℕ) (v : List ℕ) → IsRow (start + n) start row → first_from start n (gap_at_order i row u v) ≡ gap_of_row i row u v
unfolding first_from
walk_from i start zero [] u v h = refl
walk_from i start zero (cell ∷ row) u v h = absurd (omega (arith, h.0, h.1))
walk_from i start (suc n) [] u v h = walk_from i (suc start) n [] u v tt
walk_from i start (suc n) (cell ∷ row) u v h =
    let same : start + suc n ≡ suc start + n = omega arith in
    elim (eq-or-lt_of_le h.0) [
      | inl e ↦
          let cost : cost_in (cell ∷ row) start ≡ Some cell.1 = cost_in_first start cell row (sym e) in
          let tail : IsRow (suc start + n) (suc start) row = subst (λ (m : ℕ). IsRow m (suc start) row) same (subst (λ (m : ℕ). IsRow (start + suc n) m row) (omega (arith, e)) h.3) in
          let rest : first_from (suc start) n (gap_at_order i (cell ∷ row) u v) ≡ first_from (suc start) n (gap_at_order i row u v) =
          first_from-same (suc start) n (gap_at_order i (cell ∷ row) u v) (gap_at_order i row u v) (λ k l. ap (λ c. gap_at i k c u (slice_index v k)) (cost_in_rest k cell row (omega (arith, e, l)))) in
          let walk : first_from (suc start) n (gap_at_order i row u v) ≡ gap_of_row i row u v = walk_from i (suc start) n row u v tail in
          let here : gap_at_order i (cell ∷ row) u v start ≡ gap_at i start (Some cell.1) u (slice_index v start) = ap (λ c. gap_at i start c u (slice_index v start)) cost in
          let both : option_or (gap_at_order i (cell ∷ row) u v start) (first_from (suc start) n (gap_at_order i (cell ∷ row) u v)) ≡ option_or (gap_at i start (Some cell.1) u (slice_index v start)) (gap_of_row i row u v) = rw (here, rest, walk) refl in
          both ∙ or_cond (nat_lt (cell.1 + u) (slice_index v start)) (PriceGap i start) (gap_of_row i row u v)
          ∙ ap (λ m. cond (nat_lt (cell.1 + u) (slice_index v m)) (Some (PriceGap i m)) (gap_of_row i row u v)) e
      | inr less ↦
          let later : IsRow (suc start + n) (suc start) (cell ∷ row) = subst (λ (m : ℕ). IsRow m (suc start) (cell ∷ row)) same (IsRow-from (start + suc n) start (suc start) cell row (omega (arith, less)) h) in
          let cost : cost_in (cell ∷ row) start ≡ None = none_before (suc start + n) (suc start) start (cell ∷ row) later (omega arith) in
          let here : gap_at_order i (cell ∷ row) u v start ≡ None = ap (λ c. gap_at i start c u (slice_index v start)) cost in
          let walk : first_from (suc start) n (gap_at_order i (cell ∷ row) u v) ≡ gap_of_row i (cell ∷ row) u v = walk_from i (suc start) n (cell ∷ row) u v later in
          rw here walk
    ]

pub row_walk : (i n : ℕ) (row : List (ℕ × ℕ)) (u : ℕ) (v : List ℕ) → IsRow n 0 row → first_below n (gap_at_order i row u v) ≡ gap_of_row i row u v
row_walk i n row u v h =
    let zero_n : 0 + n ≡ n = omega arith in
    let from : first_below (0 + n) (gap_at_order i row u v) ≡ first_from 0 n (gap_at_order i row u v) = first_below-from 0 n (gap_at_order i row u v) in
    let walk : first_from 0 n (gap_at_order i row u v) ≡ gap_of_row i row u v = walk_from i 0 n row u v (subst (λ (m : ℕ). IsRow m 0 row) (sym zero_n) h) in
    ap (λ m. first_below m (gap_at_order i row u v)) (sym zero_n) ∙ from ∙ walk

-- what a walk along a wagon's row finds is the wagon's gap
pub gap_of_wagon-walked : (t : Table) (i u : ℕ) (row : List (ℕ × ℕ)) (v : List ℕ) (found : Option CheckFault) → IsRow (order_count t) 0 row → row ≡ row_at t i → found ≡ gap_of_row i row u v
    → gap_of_wagon t i u v ≡ found
gap_of_wagon-walked t i u row v found h is walked =
    let walk : first_below (order_count t) (gap_at_order i row u v) ≡ gap_of_row i row u v = row_walk i (order_count t) row u v h in
    let cost : first_below (order_count t) (gap_at_order i (row_at t i) u v) ≡ gap_of_wagon t i u v =
    first_below-same (order_count t) (gap_at_order i (row_at t i) u v) (λ j. gap_at i j (cost_at t i j) u (slice_index v j)) (λ j l. ap (λ c. gap_at i j c u (slice_index v j)) (sym (cost_by_row t i j))) in
    sym (walked ∙ sym walk ∙ ap (λ r. first_below (order_count t) (gap_at_order i r u v)) is ∙ cost)

row_orders : (n low : ℕ) (row : List (ℕ × ℕ)) → IsRow n low row → AllByRecursion (λ (cell : ℕ × ℕ). cell.0 < n) row
row_orders n low [] h = tt
row_orders n low (cell ∷ row) h = (h.1, row_orders n (cell.0 + 1) row h.3)

-- each order of a row is one of the table's
pub orders_of_row : (n m : ℕ) (row : List (ℕ × ℕ)) → IsRow n 0 row → m ≡ n → All (λ (cell : ℕ × ℕ). cell.0 < m) row
orders_of_row n m row h e = rw e (All-from_recursion (λ (cell : ℕ × ℕ). cell.0 < n) row (row_orders n 0 row h))

else_or : {A : Type 0} (b : Bool) (x : A) (o rest : Option A) → cond b (Some x) (option_or o rest) ≡ option_or (cond b (Some x) o) rest
else_or true x o rest = refl
else_or false x o rest = refl

-- a row in two parts has the gap of the first part, or else that of the rest
pub gap_of_parts : (i : ℕ) (first rest : List (ℕ × ℕ)) (u : ℕ) (v : List ℕ) → gap_of_row i (first ++ rest) u v ≡ option_or (gap_of_row i first u v) (gap_of_row i rest u v)
gap_of_parts i [] rest u v = refl
gap_of_parts i (cell ∷ first) rest u v =
    ap (λ o. cond (nat_lt (cell.1 + u) (slice_index v cell.0)) (Some (PriceGap i cell.0)) o) (gap_of_parts i first rest u v) ∙ else_or (nat_lt (cell.1 + u) (slice_index v cell.0)) (PriceGap i cell.0) (gap_of_row i first u v) (gap_of_row i rest u v)
