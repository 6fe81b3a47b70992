-- A table whose costs are written out is stated as that very table.
use Rattle.std.proofs.Common.{◌≡◌, ◌∙◌, ◌<◌, ◌+◌, ◌++◌, ap, take, ℕ, true, false, List, [], ◌∷◌, All, length, map, Option, None, Ok, refl, sym, subst, arith}
use Rattle.std.specs.Prelude.{◌==◌, nat_lt, sum, Vec}
use Rattle.std.specs.declared.alloc.Global.{Global}
use Rattle.std.specs.List.{list_all, range_with_len, AllByRecursion}
use Rattle.std.proofs.lemmas.Bool.Decides.{nat_tests}
use Rattle.std.proofs.lemmas.List.{map-append, take_more}
use Rattle.std.proofs.lemmas.List.FromFn.{fill_by_all}
use Rattle.std.proofs.lemmas.List.Elements.{All-from_recursion, recursion_from_All}
use Rattle.cost_table.specs.Names.{NameLists}
use Rattle.cost_table.specs.DistinctNames.{first_repeated}
use Rattle.cost_table.specs.Rows.{Rows}
use Rattle.cost_table.specs.Table.{Table, cost_at, costs_at, order_count, wagon_count}
use Rattle.cost_table.specs.TableLimits.{IsNumber, IsTable, max_table_lack, max_table_orders, max_table_wagons}
use Rattle.table_lines.specs.ProblemText.{text_of_table}
use Rattle.table_lines.specs.StatedTable.{stated_in}
use Rattle.table_lines.specs.TableCost.{is_even}

under_items : (rows : Rows) → AllByRecursion (All IsNumber) (map (λ row. row.items) rows) → AllByRecursion (λ row. All IsNumber row.items) rows
under_items [] h = tt
under_items (row ∷ rows) h = (h.0, under_items rows h.1)

-- rows with the costs of a table are within the limits
pub costs_within : (t : Table) (rows : Rows) → IsTable t → map (λ row. row.items) rows ≡ t.costs → All (λ row. All IsNumber row.items) rows
costs_within t rows legal is =
    let within : AllByRecursion (All IsNumber) t.costs = recursion_from_All (All IsNumber) t.costs legal.costs in
    All-from_recursion (λ row. All IsNumber row.items) rows (under_items rows (subst (AllByRecursion (All IsNumber)) (sym is) within))

-- the costs of a wagon are its cost for each order
pub costs_by_order : (t : Table) (i : ℕ) → IsTable t → i < wagon_count t → map (cost_at t i) (range_with_len 0 (order_count t)) ≡ costs_at t i
costs_by_order t i legal there =
    let long : length (costs_at t i) ≡ order_count t = legal.even i [] there in
    sym (fill_by_all (cost_at t i) (costs_at t i) (order_count t) None long (λ k l. refl))

-- rows with the costs of the first wagons, and one more
pub one_more_row : (t : Table) (rows more : Rows) (row : Vec (Option ℕ) Global) (i : ℕ) → IsTable t → i < wagon_count t → map (λ row. row.items) rows ≡ take i t.costs
    → row.items ≡ map (cost_at t i) (range_with_len 0 (order_count t)) → more ≡ rows ++ row ∷ [] → map (λ row. row.items) more ≡ take (i + 1) t.costs
one_more_row t rows more row i legal there before is pushed =
    let items = λ (row : Vec (Option ℕ) Global). row.items in
    let parts = ap (map items) pushed ∙ map-append items rows (row ∷ []) in
    let last = ap (λ (costs : List (Option ℕ)). take i t.costs ++ costs ∷ []) (is ∙ costs_by_order t i legal there) in
    parts ∙ ap (λ (costs : List (List (Option ℕ))). costs ++ row.items ∷ []) before ∙ last ∙ sym (take_more t.costs i [] there)

-- ---- what is stated

have_length : (costs : List (List (Option ℕ))) (n count : ℕ) → AllByRecursion (λ row. length row ≡ n) costs → count ≡ n → list_all (λ row. length row == count) costs ≡ true
have_length [] n count even e = refl
have_length (row ∷ costs) n count even e =
    let one : (length row == count) ≡ true = grind (arith, nat_tests, even.0, e) in
    rw one (have_length costs n count even.1 e)

is_even_by : (wagons orders : ℕ) (t : Table) → IsTable t → wagon_count t ≡ wagons → order_count t ≡ orders → is_even wagons orders t.costs t.penalties t.lacks ≡ true
is_even_by wagons orders t legal w o =
    let a : (length t.costs == wagons) ≡ true = grind (arith, nat_tests, w) in
    let b : (length t.penalties == orders) ≡ true = grind (arith, nat_tests, o, legal.penalty_count) in
    let c = have_length t.costs (order_count t) (length t.penalties) (recursion_from_All (λ costs. length costs ≡ order_count t) t.costs legal.even) legal.penalty_count in
    let d : (length t.lacks == length t.penalties) ≡ true = grind (arith, nat_tests, legal.penalty_count) in
    rw (a, b, c, d) refl

-- a table under names, one for each wagon and each order and none twice, is stated as it is
pub stated_as : (names : NameLists) (t : Table) → IsTable t → wagon_count t ≡ length names.wagons → order_count t ≡ length names.orders
    → first_repeated names.wagons ≡ None → first_repeated names.orders ≡ None → stated_in (text_of_table names t) ≡ Ok (names, t)
unfolding stated_in
stated_as names t legal w o once_wagons once_orders =
    let a : nat_lt max_table_wagons (length names.wagons) ≡ false = grind (arith, nat_tests, w, legal.wagons) in
    let b : nat_lt max_table_orders (length names.orders) ≡ false = grind (arith, nat_tests, o, legal.orders) in
    let c : nat_lt max_table_lack (sum t.lacks) ≡ false = grind (arith, nat_tests, legal.lack_in_all) in
    let even = is_even_by (length names.wagons) (length names.orders) t legal w o in
    rw (a, b, c, once_wagons, once_orders, even) refl
