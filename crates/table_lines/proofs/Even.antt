-- A line's table is that of its rows.
use Rattle.std.proofs.Common.{◌≡◌, ℕ, suc, ◌≤◌, Bool, true, false, cond, List, [], ◌∷◌, length, map, refl, sym, ap, ◌∙◌, subst, arith}
use Rattle.std.specs.Prelude.{◌≢◌, ◌==◌, ◌&&◌, ◌||◌, nat_lt, Option, Some, None, unwrap_or, Ok, Err, sum}
use Rattle.std.specs.List.{list_all}
use Rattle.std.proofs.lemmas.List.Folds.{list_all-map}
use Rattle.std.proofs.lemmas.Bool.Decides.{nat_tests}
use Rattle.cost_table.specs.Table.{Table, wagon_count, order_count}
use Rattle.cost_table.specs.Names.{NameLists}
use Rattle.cost_table.specs.DistinctNames.{names_or_fault, unrepeated, first_repeated}
use Rattle.line_fields.specs.Values.{◌>>=◌}
use Rattle.table_lines.specs.TableLine.{TableText}
use Rattle.cost_table.specs.Rows.{Rows, table_of, is_even as are_even, is_too_large as are_too_large, rows_fault}
use Rattle.cost_table.specs.TableLimits.{max_table_lack, max_table_orders, max_table_wagons}
use Rattle.faults.specs.declared.faults.TableFault.{TableFault}
use Rattle.faults.specs.declared.faults.TableFault.TheVariants as table
use Rattle.table_lines.specs.TableRefusals.{refusal_of_table}
use Rattle.table_lines.specs.TableCost.{is_even, even_table, is_too_large, lacks_in, table_in, with_check_fault, cost_of_text, IsCertified}
use Rattle.price_checker.specs.NamedPairs.{checked}
use Rattle.price_checker.specs.CertifiedPairs.{CertifiesPairs}
use Rattle.table_lines.specs.declared.table_refusal.TableRefusal.TheVariants.{OutOfMemory, Table as OfTable}

-- the cells of rows
abbrev pub cells_in : Rows → List (List (Option ℕ))
cells_in rows = map (λ row. row.items) rows

evenness : (rows : Rows) (penalties lacks : List ℕ) → (list_all (λ row. length row == length penalties) (cells_in rows) && (length lacks == length penalties)) ≡ are_even rows penalties lacks
evenness rows penalties lacks = ap (λ (b : Bool). b && (length lacks == length penalties)) (list_all-map (λ (row : List (Option ℕ)). length row == length penalties) (λ row. row.items) rows)

length_cells : (rows : Rows) → length (cells_in rows) ≡ length rows
length_cells [] = refl
length_cells (row ∷ rows) = ap (λ (n : ℕ). suc n) (length_cells rows)

by_evenness : (wagons orders : ℕ) (rows : Rows) (penalties lacks : List ℕ) → length rows ≡ wagons → length penalties ≡ orders → is_even wagons orders (cells_in rows) penalties lacks ≡ are_even rows penalties lacks
by_evenness wagons orders rows penalties lacks w o =
    let a : (length (cells_in rows) == wagons) ≡ true = grind (arith, nat_tests, length_cells rows, w) in
    let b : (length penalties == orders) ≡ true = grind (arith, nat_tests, o) in
    rw (a, b) (evenness rows penalties lacks)

no_rows_fault : (large even : Bool) → cond large (Some table.TooLarge) (cond even None (Some table.UnevenRows)) ≡ None → even ≡ true
no_rows_fault true even h = cc
no_rows_fault false true h = refl
no_rows_fault false false h = cc

pub even_rows : (wagons orders : ℕ) (rows : Rows) (penalties lacks : List ℕ) → length rows ≡ wagons → length penalties ≡ orders → rows_fault rows penalties lacks ≡ None
    → even_table wagons orders (cells_in rows) penalties lacks ≡ Ok (table_of rows penalties lacks)
even_rows wagons orders rows penalties lacks w o none =
    let even = by_evenness wagons orders rows penalties lacks w o ∙ no_rows_fault (are_too_large rows penalties lacks) (are_even rows penalties lacks) none in
    rw even refl

not_large : (rows : Rows) (penalties lacks : List ℕ) → length rows ≤ max_table_wagons → length penalties ≤ max_table_orders → sum lacks ≤ max_table_lack → are_too_large rows penalties lacks ≡ false
not_large rows penalties lacks w o l =
    let a : nat_lt max_table_wagons (length rows) ≡ false = grind (arith, nat_tests, w) in
    let b : nat_lt max_table_orders (length penalties) ≡ false = grind (arith, nat_tests, o) in
    let c : nat_lt max_table_lack (sum lacks) ≡ false = grind (arith, nat_tests, l) in
    rw (a, b, c) refl

uneven : (large even : Bool) (fault : TableFault) → large ≡ false → fault ≡ unwrap_or (cond large (Some table.TooLarge) (cond even None (Some table.UnevenRows))) table.OutOfMemory
    → refusal_of_table fault ≢ OutOfMemory → (even ≡ false) × (refusal_of_table fault ≡ OfTable table.UnevenRows)
uneven true even fault h is not_memory = cc
uneven false true fault h is not_memory = absurd (not_memory (ap refusal_of_table is))
uneven false false fault h is not_memory = (refl, ap refusal_of_table is)

pub uneven_rows : (wagons orders : ℕ) (rows : Rows) (penalties lacks : List ℕ) (fault : TableFault) → length rows ≡ wagons → length penalties ≡ orders
    → wagons ≤ max_table_wagons → orders ≤ max_table_orders → sum lacks ≤ max_table_lack
    → fault ≡ unwrap_or (rows_fault rows penalties lacks) table.OutOfMemory → refusal_of_table fault ≢ OutOfMemory
    → even_table wagons orders (cells_in rows) penalties lacks ≡ Err (refusal_of_table fault)
uneven_rows wagons orders rows penalties lacks fault w o wagons_fit orders_fit lacks_fit is not_memory =
    let small = not_large rows penalties lacks (omega arith) (omega arith) lacks_fit in
    let f = uneven (are_too_large rows penalties lacks) (are_even rows penalties lacks) fault small is not_memory in
    let even = by_evenness wagons orders rows penalties lacks w o ∙ f.0 in
    rw (even, f.1) refl

-- ---- what was read, step by step

counted : (wagons orders : ℕ) (cells : List (List (Option ℕ))) (penalties lacks : List ℕ) → is_even wagons orders cells penalties lacks ≡ true
    → (length cells ≡ wagons) × (length lacks ≡ orders)
counted wagons orders cells penalties lacks h = (grind (arith, nat_tests, h), grind (arith, nat_tests, h))

if_even : (even : Bool) (stated found : Table) → cond even (Ok stated) (Err (OfTable table.UnevenRows)) ≡ Ok found → (even ≡ true) × (stated ≡ found)
if_even true stated found h = (refl, cc)
if_even false stated found h = absurd cc

-- an even table has a row for each wagon and a lack for each order
pub even_counts : (wagons orders : ℕ) (cells : List (List (Option ℕ))) (penalties lacks : List ℕ) (table : Table) → even_table wagons orders cells penalties lacks ≡ Ok table
    → (wagon_count table ≡ wagons) × (order_count table ≡ orders)
even_counts wagons orders cells penalties lacks table h =
    let stated : Table = record { costs = cells; penalties = penalties; lacks = lacks } in
    let f = if_even (is_even wagons orders cells penalties lacks) stated table h in
    let n = counted wagons orders cells penalties lacks f.0 in
    (ap wagon_count (sym f.1) ∙ n.0, ap order_count (sym f.1) ∙ n.1)

-- an even table is the one that the line states
pub even_is_stated : (t : TableText) (table : Table) → even_table (length t.wagons) (length t.orders) t.cells t.penalties (lacks_in t) ≡ Ok table → table ≡ table_in t
even_is_stated t table h = sym (if_even (is_even (length t.wagons) (length t.orders) t.cells t.penalties (lacks_in t)) (table_in t) table h).1

-- what a table's pairs are certified for, its line is
pub certifies_text : (t : TableText) (names : NameLists) (table : Table) (cost : ℕ) → names_or_fault t.wagons t.orders ≡ Ok names → even_table (length t.wagons) (length t.orders) t.cells t.penalties (lacks_in t) ≡ Ok table
    → CertifiesPairs names table t.pairs t.u t.v cost → IsCertified t cost
certifies_text t names table cost named even certified =
    let stated = subst (λ (x : Table). CertifiesPairs names x t.pairs t.u t.v cost) (even_is_stated t table even) certified in
    record { names = names; positions = stated.0; named = named; found = stated.1; certificate = stated.2; optimal = stated.3; least = stated.4 }

if_unrepeated : (names found : NameLists) (large : Bool) (wagon order : Option (List ℕ)) → cond large (Err table.TooLarge) (unrepeated names wagon order) ≡ Ok found → names ≡ found
if_unrepeated names found true wagon order h = absurd cc
if_unrepeated names found false (Some w) order h = absurd cc
if_unrepeated names found false None (Some o) h = absurd cc
if_unrepeated names found false None None h = cc

-- the names of a table are those that were given
pub names_kept : (wagons orders : List (List ℕ)) (names : NameLists) → names_or_fault wagons orders ≡ Ok names → (names.wagons ≡ wagons) × (names.orders ≡ orders)
names_kept wagons orders names h =
    let f = if_unrepeated (record { wagons = wagons; orders = orders }) names (nat_lt max_table_wagons (length wagons) || nat_lt max_table_orders (length orders)) (first_repeated wagons) (first_repeated orders) h in
    (ap (λ (n : NameLists). n.wagons) (sym f), ap (λ (n : NameLists). n.orders) (sym f))

-- an even table of them has a row for each wagon named and a lack for each order named
pub named_counts : (w o : List (List ℕ)) (names : NameLists) (wagons orders : ℕ) (cells : List (List (Option ℕ))) (penalties lacks : List ℕ) (table : Table)
    → names_or_fault w o ≡ Ok names → even_table wagons orders cells penalties lacks ≡ Ok table → length w ≡ wagons → length o ≡ orders
    → (wagon_count table ≡ length names.wagons) × (order_count table ≡ length names.orders)
named_counts w o names wagons orders cells penalties lacks table named even same_wagons same_orders =
    let counts = even_counts wagons orders cells penalties lacks table even in
    let kept = names_kept w o names named in
    (counts.0 ∙ sym same_wagons ∙ ap length (sym kept.0), counts.1 ∙ sym same_orders ∙ ap length (sym kept.1))

-- a line's answer, once its names are read
pub cost_in-named : (t : TableText) (names : NameLists) → is_too_large t ≡ false → names_or_fault t.wagons t.orders ≡ Ok names
    → cost_of_text t ≡ (even_table (length t.wagons) (length t.orders) t.cells t.penalties (lacks_in t) >>= λ stated. with_check_fault (checked names stated t.pairs t.u t.v))
unfolding cost_of_text
cost_in-named t names small named = rw (small, named) refl

pub same_even : (w x o q : ℕ) (cells others : List (List (Option ℕ))) (p r l k : List ℕ) → w ≡ x → o ≡ q → cells ≡ others → p ≡ r → l ≡ k → even_table w o cells p l ≡ even_table x q others r k
same_even w x o q cells others p r l k a b c d e = rw (a, b, c, d, e) refl
