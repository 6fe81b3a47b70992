-- The limits of tables, and what rows make.
use Rattle.std.proofs.Common.{◌≡◌, ◌∙◌, ◌<◌, ◌≤◌, ◌+◌, ℕ, Bool, true, false, Option, Some, None, cond, inl, inr, List, [], ◌∷◌, length, get_or, map, refl, sym, ap, arith, subst}
use Rattle.std.proofs.lemmas.List.{length-map, get_or_past}
use Rattle.std.proofs.lemmas.Bool.{cases_lt, cases_Bool}
use Rattle.std.specs.Prelude.{All, sum, ◌==◌, OnSome, IfSome}
use Rattle.std.proofs.lemmas.List.Sums.{AllPass-from_list_all}
use Rattle.std.proofs.lemmas.List.Elements.{All-map}
use Rattle.std.proofs.lemmas.Bool.Decides.{nat_tests}
use Rattle.cost_table.specs.declared.table_rows.TableRows.{TableRows}
use Rattle.cost_table.specs.Table.{Table, cost_at, order_count, wagon_count}
use Rattle.cost_table.specs.TableLimits.{IsNumber, IsTable, IsRow, max_cost, max_table_lack, max_table_orders, max_table_wagons}
use Rattle.wagons_and_orders.specs.WantedLimits.{IsLack}
use Rattle.cost_table.specs.Rows.{Rows, table_of, is_too_large, is_even, rows_fault}
use Rattle.cost_table.specs.SharedRows.{HasPlaces, rows_in}
use Rattle.cost_table.specs.TableRows.{all_rows, cells_of, cost_in, row_at, table_with}
use Rattle.cost_table.specs.StoredTable.{AreStored}
use Rattle.cost_table.proofs.TableRowLemmas.{cost_by_row, row_is, rows_are, table_with-all_rows}

pub record Passes (rows : Rows) (penalties lacks : List ℕ) : Type 0 where
  pub wagons : length rows ≤ max_table_wagons
  pub orders : length penalties ≤ max_table_orders
  pub in_all : sum lacks ≤ max_table_lack
  pub lack_count : length lacks ≡ length penalties
  pub row_lengths : All (λ row. (length row.items == length penalties) ≡ true) rows

pub passes : (rows : Rows) (penalties lacks : List ℕ) → is_too_large rows penalties lacks ≡ false → is_even rows penalties lacks ≡ true → Passes rows penalties lacks
passes rows penalties lacks small even = record {
  wagons = grind (arith, nat_tests, small);
  orders = grind (arith, nat_tests, small);
  in_all = grind (arith, nat_tests, small);
  lack_count = grind (arith, nat_tests, even);
  row_lengths = AllPass-from_list_all (λ row. length row.items == length penalties) rows (grind (arith, nat_tests, even));
}

-- what rows without a fault are
pub unfaulted : (rows : Rows) (penalties lacks : List ℕ) → rows_fault rows penalties lacks ≡ None → (is_too_large rows penalties lacks ≡ false) × (is_even rows penalties lacks ≡ true)
unfaulted rows penalties lacks none = (grind (arith, nat_tests, none), grind (arith, nat_tests, none))

same_length : (a b : ℕ) → (a == b) ≡ true → a ≡ b
same_length a b h = grind (arith, nat_tests, h)

pub table_kept : (rows : Rows) (penalties lacks : List ℕ) → Passes rows penalties lacks → All (λ row. All IsNumber row.items) rows → All (λ penalty. penalty ≤ max_cost) penalties → All IsLack lacks → IsTable (table_of rows penalties lacks)
table_kept rows penalties lacks p numbers costs all_lacks =
    let count : length lacks ≡ length penalties = p.lack_count in
    record {
      wagons = omega (arith, p.wagons, length-map rows (λ row. row.items));
      orders = omega (arith, p.orders, count);
      penalty_count = sym count;
      even = All-map (λ costs. length costs ≡ length lacks) (λ row. row.items) rows
          (λ k d l. same_length (length (get_or rows k d).items) (length penalties) (p.row_lengths k d l) ∙ sym count);
      costs = All-map (All IsNumber) (λ row. row.items) rows numbers;
      penalties = costs;
      lacks = all_lacks;
      lack_in_all = p.in_all;
    }

-- rows that are those of the lists make the table
cells_of_lists : (rows : Rows) → map (λ row. cells_of 0 row.items) rows ≡ map (cells_of 0) (map (λ row. row.items) rows)
cells_of_lists [] = refl
cells_of_lists (row ∷ rows) = ap (λ held. cells_of 0 row.items ∷ held) (cells_of_lists rows)

pub stored_lists : (held : TableRows) (rows : Rows) (penalties lacks : List ℕ) → HasPlaces held → rows_in held ≡ map (λ row. cells_of 0 row.items) rows → IsTable (table_of rows penalties lacks)
    → AreStored held penalties lacks × (table_with (rows_in held) penalties lacks ≡ table_of rows penalties lacks)
stored_lists held rows penalties lacks placed are legal =
    let t = table_of rows penalties lacks in
    let all : rows_in held ≡ all_rows t = are ∙ cells_of_lists rows in
    let same : table_with (rows_in held) penalties lacks ≡ t = ap (λ (stored : List (List (ℕ × ℕ))). table_with stored penalties lacks) all ∙ table_with-all_rows t legal.even in
    (record { placed = placed; rows = subst (All (IsRow (length lacks) 0)) (sym all) (rows_are t legal); table = subst IsTable (sym same) legal }, same)

-- what a cost of the table is known to be
pub record CostWithin (t : Table) (i j c : ℕ) : Type 0 where
  pub wagon : i < wagon_count t
  pub order : j < order_count t
  pub limit : c ≤ max_cost

cost_here : (c d : ℕ) (rest : Option ℕ) (b : Bool) → b ≡ true → cond b (Some c) rest ≡ Some d → c ≡ d
cost_here c d rest true e h = cc
cost_here c d rest false e h = cc

cost_past : (c d : ℕ) (rest : Option ℕ) (b : Bool) → b ≡ false → cond b (Some c) rest ≡ Some d → rest ≡ Some d
cost_past c d rest true e h = cc
cost_past c d rest false e h = h

pub cost_in_within : (n low j c : ℕ) (row : List (ℕ × ℕ)) → IsRow n low row → cost_in row j ≡ Some c → (j < n) × (c ≤ max_cost)
cost_in_within n low j c [] h is = cc
cost_in_within n low j c (cell ∷ row) h is =
    let rest = cost_in_within n (cell.0 + 1) j c row h.3 in
    elim (cases_Bool (cell.0 == j)) [
      | inl e ↦
          let same : cell.0 ≡ j = grind (arith, nat_tests, e) in
          let cost : cell.1 ≡ c = cost_here cell.1 c (cost_in row j) (cell.0 == j) e is in
          (omega (arith, same, h.1), omega (arith, cost, h.2))
      | inr e ↦ rest (cost_past cell.1 c (cost_in row j) (cell.0 == j) e is)
    ]

pub cost_at_within : (t : Table) (i j c : ℕ) → IsTable t → cost_at t i j ≡ Some c → CostWithin t i j c
cost_at_within t i j c legal is =
    let here : cost_in (row_at t i) j ≡ Some c = sym (cost_by_row t i j) ∙ is in
    elim (cases_lt i (wagon_count t)) [
      | inl l ↦
          let row = cost_in_within (order_count t) 0 j c (row_at t i) (row_is t i legal) here in
          record { wagon = l; order = row.0; limit = row.1 }
      | inr l ↦ absurd (past_wagons t i j c l is)
    ] where
      past_wagons : (t : Table) (i j c : ℕ) → wagon_count t ≤ i → cost_at t i j ≡ Some c → ⊥
      past_wagons t i j c l is =
          let none : get_or t.costs i [] ≡ [] = get_or_past t.costs i [] l in
          let cost : None ≡ Some c = sym (ap (λ (costs : List (Option ℕ)). get_or costs j None) none) ∙ is in
          cc

-- what a look-up answers is within the table
pub look_up_within : (t : Table) (i j : ℕ) (o : Option ℕ) → IsTable t → o ≡ cost_at t i j → OnSome o ((i < wagon_count t) × (j < order_count t)) × IfSome o (λ c. c ≤ max_cost)
look_up_within t i j None legal is = (tt, tt)
look_up_within t i j (Some c) legal is =
    let within = cost_at_within t i j c legal (sym is) in
    ((within.wagon, within.order), within.limit)
