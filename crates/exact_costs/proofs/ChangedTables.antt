-- What changed rows, penalties and lacks make.
use Rattle.std.proofs.Common.{◌≡◌, ◌∙◌, ◌+◌, ◌<◌, ◌≤◌, ℕ, zero, suc, List, [], ◌∷◌, Option, None, length, map, replicate, ap, arith, refl, sym, subst}
use Rattle.std.specs.Prelude.{All, slice_set, sum}
use Rattle.std.specs.List.{range_with_len}
use Rattle.std.proofs.lemmas.List.{length-map, length-set}
use Rattle.std.proofs.lemmas.List.Elements.{All-set}
use Rattle.std.proofs.lemmas.List.Sums.{sum_by-set}
use Rattle.wagons_and_orders.specs.WantedLimits.{IsLack}
use Rattle.cost_table.specs.declared.table_rows.TableRows.{TableRows}
use Rattle.cost_table.specs.SharedRows.{HasPlaces, rows_in}
use Rattle.cost_table.specs.StoredTable.{AreStored}
use Rattle.cost_table.specs.Table.{Table, lack_at, order_count}
use Rattle.cost_table.specs.TableLimits.{IsRow, IsTable, max_cost, max_table_lack}
use Rattle.cost_table.specs.TableRows.{all_rows, cost_in, costs_of, table_with}
use Rattle.cost_table.proofs.TableRowLemmas.{costs_even, costs_within, length-all_rows, rows_are, table_with-all_rows}
use Rattle.plan_bounds.specs.Changes.{with_lack}
use Rattle.exact_costs.specs.inner.Changed.{with_costs, with_wanted, without_penalty}

-- rows that make a table
pub record Makes (held : TableRows) (penalties lacks : List ℕ) (t : Table) : Type 0 where
  pub stored : AreStored held penalties lacks
  pub same : table_with (rows_in held) penalties lacks ≡ t

-- ---- another row

map-set : {X Y : Type 0} (f : X → Y) → (xs : List X) (i : ℕ) (y : X) → map f (slice_set xs i y) ≡ slice_set (map f xs) i (f y)
map-set f [] i y = refl
map-set f (x ∷ xs) zero y = refl
map-set f (x ∷ xs) (suc i) y = ap (λ rest. f x ∷ rest) (map-set f xs i y)

pub with_row_made : (held : TableRows) (t : Table) (i : ℕ) (row : List (ℕ × ℕ)) (penalties lacks : List ℕ) → IsTable t → HasPlaces held
    → rows_in held ≡ slice_set (all_rows t) i row → penalties ≡ t.penalties → lacks ≡ t.lacks → IsRow (order_count t) 0 row
    → Makes held penalties lacks (with_costs t i (costs_of (order_count t) row))
with_row_made held t i row penalties lacks legal placed are same_penalties same_lacks is =
    let n = order_count t in
    let rows = slice_set (all_rows t) i row in
    let each : All (IsRow n 0) rows = All-set (IsRow n 0) (all_rows t) i row is (rows_are t legal) in
    let made = table_with rows t.penalties t.lacks in
    let few : length (map (costs_of n) rows) ≡ length t.costs = length-map rows (costs_of n) ∙ (length-set (all_rows t) i row ∙ length-all_rows t) in
    let wagons = legal.wagons in
    let table : IsTable made = record {
      wagons = omega (arith, wagons, few);
      orders = legal.orders;
      penalty_count = legal.penalty_count;
      even = costs_even n rows;
      costs = costs_within n rows each;
      penalties = legal.penalties;
      lacks = legal.lacks;
      lack_in_all = legal.lack_in_all;
    } in
    let whole : table_with (all_rows t) t.penalties t.lacks ≡ t = table_with-all_rows t legal.even in
    let back : map (costs_of n) (all_rows t) ≡ t.costs = ap (λ (t : Table). t.costs) whole in
    let costs : map (costs_of n) rows ≡ slice_set t.costs i (costs_of n row) =
    map-set (costs_of n) (all_rows t) i row ∙ ap (λ (costs : List (List (Option ℕ))). slice_set costs i (costs_of n row)) back in
    let same : made ≡ with_costs t i (costs_of n row) = ap (λ (costs : List (List (Option ℕ))). record t { costs = costs }) costs in
    subst (λ (lacks : List ℕ). Makes held penalties lacks (with_costs t i (costs_of n row))) (sym same_lacks)
    (subst (λ (penalties : List ℕ). Makes held penalties t.lacks (with_costs t i (costs_of n row))) (sym same_penalties)
    (record {
      stored = record { placed = placed; rows = subst (All (IsRow n 0)) (sym are) each; table = subst (λ (rows : List (List (ℕ × ℕ))). IsTable (table_with rows t.penalties t.lacks)) (sym are) table };
      same = ap (λ (rows : List (List (ℕ × ℕ))). table_with rows t.penalties t.lacks) are ∙ same;
    }))

-- a row without a cell has no cost
pub no_costs : (n : ℕ) → costs_of n [] ≡ replicate n None
no_costs n = from 0 n where
  from : (a n : ℕ) → map (cost_in []) (range_with_len a n) ≡ replicate n None
  from a zero = refl
  from a (suc n) = ap (λ (rest : List (Option ℕ)). None ∷ rest) (from (a + 1) n)

-- ---- the same rows

-- with other penalties and lacks, which are as many
pub same_rows_made : (held : TableRows) (t : Table) (penalties lacks : List ℕ) → IsTable t → HasPlaces held → rows_in held ≡ all_rows t
    → length lacks ≡ order_count t → length penalties ≡ order_count t → All (λ penalty. penalty ≤ max_cost) penalties → All IsLack lacks → sum lacks ≤ max_table_lack
    → Makes held penalties lacks (record { costs = t.costs; penalties = penalties; lacks = lacks })
same_rows_made held t penalties lacks legal placed are orders count prices each in_all =
    let rows = all_rows t in
    let is_row : All (IsRow (length lacks) 0) rows = subst (λ (n : ℕ). All (IsRow n 0) rows) (sym orders) (rows_are t legal) in
    let whole : map (costs_of (order_count t)) rows ≡ t.costs = ap (λ (t : Table). t.costs) (table_with-all_rows t legal.even) in
    let costs : map (costs_of (length lacks)) rows ≡ t.costs = subst (λ (n : ℕ). map (costs_of n) rows ≡ t.costs) (sym orders) whole in
    let few : length (map (costs_of (length lacks)) rows) ≡ length t.costs = ap (λ (costs : List (List (Option ℕ))). length costs) costs in
    let wagons = legal.wagons in
    let many = legal.orders in
    let table : IsTable (table_with rows penalties lacks) = record {
      wagons = omega (arith, wagons, few);
      orders = omega (arith, many, orders);
      penalty_count = count ∙ sym orders;
      even = costs_even (length lacks) rows;
      costs = costs_within (length lacks) rows is_row;
      penalties = prices;
      lacks = each;
      lack_in_all = in_all;
    } in
    record {
      stored = record { placed = placed; rows = subst (All (IsRow (length lacks) 0)) (sym are) is_row; table = subst (λ (rows : List (List (ℕ × ℕ))). IsTable (table_with rows penalties lacks)) (sym are) table };
      same = ap (λ (rows : List (List (ℕ × ℕ))). table_with rows penalties lacks) are ∙ ap (λ (costs : List (List (Option ℕ))). record { costs = costs; penalties = penalties; lacks = lacks }) costs;
    }

pub with_lack_made : (held : TableRows) (t : Table) (j lack : ℕ) (penalties lacks : List ℕ) → IsTable t → HasPlaces held → rows_in held ≡ all_rows t
    → penalties ≡ t.penalties → lacks ≡ slice_set t.lacks j lack → j < order_count t → IsLack lack → sum t.lacks + lack ≤ max_table_lack + lack_at t j
    → Makes held penalties lacks (with_lack t j lack)
with_lack_made held t j lack penalties lacks legal placed are same_penalties same_lacks l is in_all =
    let few = sum_by-set (λ (x : ℕ). x) t.lacks j lack 0 l in
    subst (λ (lacks : List ℕ). Makes held penalties lacks (with_lack t j lack)) (sym same_lacks)
    (subst (λ (penalties : List ℕ). Makes held penalties (slice_set t.lacks j lack) (with_lack t j lack)) (sym same_penalties)
    (same_rows_made held t t.penalties (slice_set t.lacks j lack) legal placed are (length-set t.lacks j lack) legal.penalty_count legal.penalties
    (All-set IsLack t.lacks j lack is legal.lacks) (omega (arith, few, in_all))))

pub with_wanted_made : (held : TableRows) (t : Table) (j lack : ℕ) (penalties lacks : List ℕ) → IsTable t → HasPlaces held → rows_in held ≡ all_rows t
    → penalties ≡ slice_set t.penalties j max_cost → lacks ≡ slice_set t.lacks j lack → j < order_count t → IsLack lack → sum t.lacks + lack ≤ max_table_lack + lack_at t j
    → Makes held penalties lacks (with_wanted t j lack)
with_wanted_made held t j lack penalties lacks legal placed are same_penalties same_lacks l is in_all =
    let few = sum_by-set (λ (x : ℕ). x) t.lacks j lack 0 l in
    subst (λ (lacks : List ℕ). Makes held penalties lacks (with_wanted t j lack)) (sym same_lacks)
    (subst (λ (penalties : List ℕ). Makes held penalties (slice_set t.lacks j lack) (with_wanted t j lack)) (sym same_penalties)
    (same_rows_made held t (slice_set t.penalties j max_cost) (slice_set t.lacks j lack) legal placed are (length-set t.lacks j lack) (length-set t.penalties j max_cost ∙ legal.penalty_count)
    (All-set (λ (penalty : ℕ). penalty ≤ max_cost) t.penalties j max_cost (omega arith) legal.penalties) (All-set IsLack t.lacks j lack is legal.lacks) (omega (arith, few, in_all))))

pub without_penalty_made : (held : TableRows) (t : Table) (j : ℕ) (penalties lacks : List ℕ) → IsTable t → HasPlaces held → rows_in held ≡ all_rows t
    → penalties ≡ slice_set t.penalties j 0 → lacks ≡ t.lacks → Makes held penalties lacks (without_penalty t j)
without_penalty_made held t j penalties lacks legal placed are same_penalties same_lacks =
    subst (λ (lacks : List ℕ). Makes held penalties lacks (without_penalty t j)) (sym same_lacks)
    (subst (λ (penalties : List ℕ). Makes held penalties t.lacks (without_penalty t j)) (sym same_penalties)
    (same_rows_made held t (slice_set t.penalties j 0) t.lacks legal placed are refl (length-set t.penalties j 0 ∙ legal.penalty_count)
    (All-set (λ (penalty : ℕ). penalty ≤ max_cost) t.penalties j 0 (omega arith) legal.penalties) legal.lacks legal.lack_in_all))
