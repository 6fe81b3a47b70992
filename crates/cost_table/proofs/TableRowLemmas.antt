-- What is stored of a table is what each wagon costs for each order, and back.
use Rattle.std.proofs.Common.{◌≡◌, ◌∙◌, ◌+◌, ◌<◌, ◌≤◌, ℕ, zero, suc, Bool, true, false, cond, List, [], ◌∷◌, length, get_or, map, Option, Some, None, refl, sym, ap, subst, arith, inl, inr}
use Rattle.std.specs.Prelude.{◌==◌, All}
use Rattle.std.specs.List.{AllByRecursion, range_with_len}
use Rattle.std.proofs.lemmas.Bool.{cases_lt}
use Rattle.std.proofs.lemmas.Bool.Decides.{nat_tests}
use Rattle.std.proofs.lemmas.List.{get_or_past, length-map}
use Rattle.std.proofs.lemmas.List.Elements.{All-from_recursion, All-map, recursion_from_All}
use Rattle.std.proofs.lemmas.List.FromFn.{fill_by_all, length-map-range_with_len}
use Rattle.std.proofs.Math.Nat.{eq-or-lt_of_le}
use Rattle.cost_table.specs.Table.{Table, cost_at, costs_at, order_count, wagon_count}
use Rattle.cost_table.specs.TableLimits.{IsNumber, IsRow, IsTable, max_cost}
use Rattle.cost_table.proofs.PartLemmas.{row_from_less}
use Rattle.cost_table.specs.TableRows.{all_rows, cells_of, cost_in, costs_of, row_at, table_with}

-- ---- a cell before, at and behind an order

pub cost_there : (k j cost : ℕ) (rest : Option ℕ) → j ≡ k → cond (k == j) (Some cost) rest ≡ Some cost
cost_there k j cost rest e = grind (arith, nat_tests, e)

pub cost_later : (k j cost : ℕ) (rest : Option ℕ) → k < j → cond (k == j) (Some cost) rest ≡ rest
cost_later k j cost rest h = grind (arith, nat_tests, h)

cost_before : (k j cost : ℕ) (rest : Option ℕ) → j < k → cond (k == j) (Some cost) rest ≡ rest
cost_before k j cost rest h = grind (arith, nat_tests, h)

-- ---- the cells of costs

cost_below : (k j : ℕ) (costs : List (Option ℕ)) → j < k → cost_in (cells_of k costs) j ≡ None
cost_below k j [] h = refl
cost_below k j (None ∷ costs) h = cost_below (k + 1) j costs (omega arith)
cost_below k j (Some cost ∷ costs) h = cost_before k j cost (cost_in (cells_of (k + 1) costs) j) h ∙ cost_below (k + 1) j costs (omega arith)

-- the cost that cells have for an order is the one that they were made of
pub cost_in-cells_of : (k m j : ℕ) (costs : List (Option ℕ)) → j ≡ k + m → cost_in (cells_of k costs) j ≡ get_or costs m None
cost_in-cells_of k m j [] e = refl
cost_in-cells_of k zero j (None ∷ costs) e = cost_below (k + 1) j costs (omega arith)
cost_in-cells_of k (suc m) j (None ∷ costs) e = cost_in-cells_of (k + 1) m j costs (omega arith)
cost_in-cells_of k zero j (Some cost ∷ costs) e = cost_there k j cost (cost_in (cells_of (k + 1) costs) j) (omega arith)
cost_in-cells_of k (suc m) j (Some cost ∷ costs) e =
    cost_later k j cost (cost_in (cells_of (k + 1) costs) j) (omega arith) ∙ cost_in-cells_of (k + 1) m j costs (omega arith)

-- a wagon's cost for an order is the one that its row has
pub cost_by_row : (t : Table) (i j : ℕ) → cost_at t i j ≡ cost_in (row_at t i) j
cost_by_row t i j = sym (cost_in-cells_of 0 j j (costs_at t i) (omega arith))

-- the row of a wagon is one of all rows
pub row_of_all : (t : Table) (i : ℕ) → get_or (all_rows t) i [] ≡ row_at t i
row_of_all t i = by t.costs i where
  by : (costs : List (List (Option ℕ))) (i : ℕ) → get_or (map (cells_of 0) costs) i [] ≡ cells_of 0 (get_or costs i [])
  by [] i = refl
  by (row ∷ costs) zero = refl
  by (row ∷ costs) (suc i) = by costs i

pub length-all_rows : (t : Table) → length (all_rows t) ≡ wagon_count t
length-all_rows t = length-map t.costs (cells_of 0)

-- the cells of costs within the limits are a row
pub IsRow-cells_of : (n k low : ℕ) (costs : List (Option ℕ)) → low ≤ k → k + length costs ≤ n → AllByRecursion IsNumber costs → IsRow n low (cells_of k costs)
IsRow-cells_of n k low [] below within all = tt
IsRow-cells_of n k low (None ∷ costs) below within all = IsRow-cells_of n (k + 1) low costs (omega arith) (omega arith) all.1
IsRow-cells_of n k low (Some cost ∷ costs) below within all =
    (below, omega arith, all.0, IsRow-cells_of n (k + 1) (k + 1) costs (omega arith) (omega arith) all.1)

-- each row of a table is one
pub rows_are : (t : Table) → IsTable t → All (IsRow (order_count t) 0) (all_rows t)
rows_are t legal = All-map (IsRow (order_count t) 0) (cells_of 0) t.costs
    (λ k d l.
    let long : length (get_or t.costs k d) ≡ order_count t = legal.even k d l in
    IsRow-cells_of (order_count t) 0 0 (get_or t.costs k d) (omega arith) (omega (arith, long)) (recursion_from_All IsNumber (get_or t.costs k d) (legal.costs k d l)))

pub row_is : (t : Table) (i : ℕ) → IsTable t → IsRow (order_count t) 0 (row_at t i)
row_is t i legal = elim (cases_lt i (wagon_count t)) [
  | inl l ↦ subst (IsRow (order_count t) 0) (row_of_all t i) (rows_are t legal i [] (omega (arith, l, length-all_rows t)))
  | inr l ↦ subst (λ (costs : List (Option ℕ)). IsRow (order_count t) 0 (cells_of 0 costs)) (sym (get_or_past t.costs i [] l)) tt
]

-- ---- the costs of cells

-- before its first order a row has no cost
pub none_before : (n low j : ℕ) (row : List (ℕ × ℕ)) → IsRow n low row → j < low → cost_in row j ≡ None
none_before n low j [] h l = refl
none_before n low j (cell ∷ row) h l = cost_before cell.0 j cell.1 (cost_in row j) (omega (arith, l, h.0)) ∙ none_before n (cell.0 + 1) j row h.3 (omega (arith, l, h.0))

-- one order more, with this cost or none
abbrev with_cost : ℕ → Option ℕ → List (ℕ × ℕ) → List (ℕ × ℕ)
with_cost a None rest = rest
with_cost a (Some cost) rest = (a, cost) ∷ rest

first_cost : (a : ℕ) (cost : Option ℕ) (costs : List (Option ℕ)) → cells_of a (cost ∷ costs) ≡ with_cost a cost (cells_of (a + 1) costs)
first_cost a None costs = refl
first_cost a (Some cost) costs = refl

-- a row is what its costs from its first order on hold
held_from : (a count n : ℕ) (row : List (ℕ × ℕ)) (f : ℕ → Option ℕ) → n ≡ a + count → IsRow n a row → ((j : ℕ) → a ≤ j → f j ≡ cost_in row j) → cells_of a (map f (range_with_len a count)) ≡ row
held_from a zero n [] f e h is = refl
held_from a zero n (cell ∷ row) f e h is = absurd (omega (arith, e, h.0, h.1))
held_from a (suc count) n [] f e h is =
    let none : f a ≡ None = is a (omega arith) in
    first_cost a (f a) (map f (range_with_len (a + 1) count)) ∙ rw none (held_from (a + 1) count n [] f (omega (arith, e)) tt (λ j l. is j (omega (arith, l))))
held_from a (suc count) n (cell ∷ row) f e h is =
    let first : a ≤ cell.0 = h.0 in
    elim (eq-or-lt_of_le first) [
      | inl same ↦
          let cost : f a ≡ Some cell.1 = is a (omega arith) ∙ cost_there cell.0 a cell.1 (cost_in row a) same in
          let rest = held_from (a + 1) count n row f (omega (arith, e)) (row_from_less n (cell.0 + 1) (a + 1) row (omega (arith, same)) h.3) (λ j m. is j (omega (arith, m)) ∙ cost_later cell.0 j cell.1 (cost_in row j) (omega (arith, m, same))) in
          let whole : with_cost a (Some cell.1) row ≡ cell ∷ row = ap (λ (k : ℕ). (k, cell.1) ∷ row) same in
          first_cost a (f a) (map f (range_with_len (a + 1) count)) ∙ rw (cost, rest) whole
      | inr l ↦
          let later : IsRow n (a + 1) (cell ∷ row) = (omega (arith, l), h.1, h.2, h.3) in
          let none : f a ≡ None = is a (omega arith) ∙ none_before n (a + 1) a (cell ∷ row) later (omega arith) in
          first_cost a (f a) (map f (range_with_len (a + 1) count)) ∙ rw none (held_from (a + 1) count n (cell ∷ row) f (omega (arith, e)) later (λ j m. is j (omega (arith, m))))
    ]

pub row_held : (n : ℕ) (row : List (ℕ × ℕ)) → IsRow n 0 row → cells_of 0 (costs_of n row) ≡ row
row_held n row h = held_from 0 n n row (cost_in row) (omega arith) h (λ j l. refl)

rows_held : (n : ℕ) (rows : List (List (ℕ × ℕ))) → AllByRecursion (IsRow n 0) rows → map (cells_of 0) (map (costs_of n) rows) ≡ rows
rows_held n [] h = refl
rows_held n (row ∷ rows) h = rw (row_held n row h.0, rows_held n rows h.1) refl

-- a table with rows has these rows
pub all_rows-table_with : (rows : List (List (ℕ × ℕ))) (penalties lacks : List ℕ) → All (IsRow (length lacks) 0) rows → all_rows (table_with rows penalties lacks) ≡ rows
all_rows-table_with rows penalties lacks h = rows_held (length lacks) rows (recursion_from_All (IsRow (length lacks) 0) rows h)

pub row_at-table_with : (rows : List (List (ℕ × ℕ))) (penalties lacks : List ℕ) (i : ℕ) → All (IsRow (length lacks) 0) rows → row_at (table_with rows penalties lacks) i ≡ get_or rows i []
row_at-table_with rows penalties lacks i h =
    sym (row_of_all (table_with rows penalties lacks) i) ∙ ap (λ (all : List (List (ℕ × ℕ))). get_or all i []) (all_rows-table_with rows penalties lacks h)

-- a table has the cost that one of its rows has
pub cost_at-table_with : (rows : List (List (ℕ × ℕ))) (penalties lacks : List ℕ) (i j : ℕ) → All (IsRow (length lacks) 0) rows → cost_at (table_with rows penalties lacks) i j ≡ cost_in (get_or rows i []) j
cost_at-table_with rows penalties lacks i j h =
    cost_by_row (table_with rows penalties lacks) i j ∙ ap (λ row. cost_in row j) (row_at-table_with rows penalties lacks i h)

-- the costs of so many cells are those that they were made of
costs_back : (n : ℕ) (costs : List (Option ℕ)) → length costs ≡ n → costs_of n (cells_of 0 costs) ≡ costs
costs_back n costs e = sym (fill_by_all (cost_in (cells_of 0 costs)) costs n None e (λ k l. sym (cost_in-cells_of 0 k k costs (omega arith))))

all_back : (n : ℕ) (costs : List (List (Option ℕ))) → AllByRecursion (λ row. length row ≡ n) costs → map (costs_of n) (map (cells_of 0) costs) ≡ costs
all_back n [] h = refl
all_back n (row ∷ costs) h = rw (costs_back n row h.0, all_back n costs h.1) refl

-- a table is the one that has its rows
pub table_with-all_rows : (t : Table) → All (λ costs. length costs ≡ order_count t) t.costs → table_with (all_rows t) t.penalties t.lacks ≡ t
table_with-all_rows t even =
    ap (λ (costs : List (List (Option ℕ))). record { costs = costs; penalties = t.penalties; lacks = t.lacks }) (all_back (order_count t) t.costs (recursion_from_All (λ row. length row ≡ order_count t) t.costs even))

-- ---- the limits of the costs of cells

cost_by : (b : Bool) (cost : ℕ) (rest : Option ℕ) → cost ≤ max_cost → IsNumber rest → IsNumber (cond b (Some cost) rest)
cost_by true cost rest h g = h
cost_by false cost rest h g = g

cost_is_within : (n low j : ℕ) (row : List (ℕ × ℕ)) → IsRow n low row → IsNumber (cost_in row j)
cost_is_within n low j [] h = tt
cost_is_within n low j (cell ∷ row) h = cost_by (cell.0 == j) cell.1 (cost_in row j) h.2 (cost_is_within n (cell.0 + 1) j row h.3)

costs_are_within : (n : ℕ) (row : List (ℕ × ℕ)) (orders : List ℕ) → IsRow n 0 row → AllByRecursion IsNumber (map (cost_in row) orders)
costs_are_within n row [] h = tt
costs_are_within n row (j ∷ orders) h = (cost_is_within n 0 j row h, costs_are_within n row orders h)

-- the costs of rows are even, and within their limits
pub costs_even : (n : ℕ) (rows : List (List (ℕ × ℕ))) → All (λ costs. length costs ≡ n) (map (costs_of n) rows)
costs_even n rows = All-map (λ costs. length costs ≡ n) (costs_of n) rows (λ k d l. length-map-range_with_len (cost_in (get_or rows k d)) 0 n)

pub costs_within : (n : ℕ) (rows : List (List (ℕ × ℕ))) → All (IsRow n 0) rows → All (All IsNumber) (map (costs_of n) rows)
costs_within n rows h =
    All-map (All IsNumber) (costs_of n) rows (λ k d l. All-from_recursion IsNumber (costs_of n (get_or rows k d)) (costs_are_within n (get_or rows k d) (range_with_len 0 n) (h k d l)))
