-- What a line says that states a problem's table.
use Rattle.std.proofs.Common.{◌≡◌, ℕ, List, length, Ok, sym, refl, ◌∙◌, subst, arith}
use Rattle.std.proofs.lemmas.List.{length-map}
use Rattle.cost_table.specs.Names.{NameLists}
use Rattle.cost_table.specs.Plan.{IsOptimal, cost_of}
use Rattle.cost_table.specs.Problem.{ProblemValue, names_of_problem}
use Rattle.cost_table.specs.ProblemLimits.{IsProblem}
use Rattle.cost_table.specs.Table.{Table, order_count, wagon_count}
use Rattle.cost_table.specs.TableLimits.{IsTable}
use Rattle.price_checker.specs.NamedPairs.{checked}
use Rattle.wagons_and_orders.specs.Wanted.{WantedOrder}
use Rattle.wagons_and_orders.specs.declared.free_wagon.FreeWagon.{FreeWagon}
use Rattle.table_lines.specs.ProblemText.{StatesTable, text_of_table}
use Rattle.table_lines.specs.Solving.{IsSolved}
use Rattle.table_lines.specs.StatedTable.{stated_in, stated_line}
use Rattle.table_lines.specs.TableCost.{cost_of_text, table_in, with_check_fault}
use Rattle.table_lines.specs.TableLine.{with_plan}
use Rattle.table_lines.specs.TablePart.{table_of_line}
use Rattle.table_lines.proofs.Even.{even_is_stated}
use Rattle.table_lines.proofs.Parts.{costs_of_plans, stated_parts}
use Rattle.table_lines.proofs.RowsHeld.{stated_as}

-- what is to be solved is the table that is stated
solved_as : (names : NameLists) (t : Table) (line : List ℕ) → table_of_line line ≡ Ok (text_of_table names t) → stated_in (text_of_table names t) ≡ Ok (names, t) → stated_line line ≡ Ok (text_of_table names t)
unfolding stated_line
solved_as names t line reads stated = rw (reads, stated) refl

-- its check with any plan is that of the plan
checked_as : (names : NameLists) (t : Table) → stated_in (text_of_table names t) ≡ Ok (names, t) → (pairs : List (List ℕ × List ℕ)) (u v : List ℕ)
    → cost_of_text (with_plan (text_of_table names t) pairs u v) ≡ with_check_fault (checked names t pairs u v)
checked_as names t stated pairs u v = costs_of_plans (text_of_table names t) pairs u v ∙ rw stated refl

-- plans of least cost cost the same
same_least : (t : Table) (plan other : List (ℕ × ℕ)) → IsOptimal t plan → IsOptimal t other → cost_of t plan ≡ cost_of t other
same_least t plan other one more = let below = one.1 other more.0 in let above = more.1 plan one.0 in omega (arith, below, above)

abbrev CostsLeast : (t : Table) (cost : ℕ) → List (ℕ × ℕ) → Type 0
CostsLeast t cost positions = IsOptimal t positions × (cost ≡ cost_of t positions)

least_as : (names : NameLists) (t : Table) → stated_in (text_of_table names t) ≡ Ok (names, t) → (text : List ℕ) (solved : IsSolved (text_of_table names t) text) (plan : List (ℕ × ℕ))
    → IsOptimal t plan → solved.cost ≡ cost_of t plan
least_as names t stated text solved plan optimal =
    let same : t ≡ table_in (text_of_table names t) = even_is_stated (text_of_table names t) t ((stated_parts (text_of_table names t) names t stated).even) in
    let certified = solved.certified in
    let found : CostsLeast (table_in (text_of_table names t)) solved.cost certified.positions = (certified.optimal, certified.least) in
    let here : CostsLeast t solved.cost certified.positions = subst (λ (x : Table). CostsLeast x solved.cost certified.positions) (sym same) found in
    here.1 ∙ same_least t certified.positions plan here.0 optimal

-- the line of a problem with these costs
pub states_problem : (problem : ProblemValue) (t : Table) (line : List ℕ) → IsProblem problem → IsTable t → wagon_count t ≡ length problem.wagons → order_count t ≡ length problem.orders
    → table_of_line line ≡ Ok (text_of_table (names_of_problem problem) t) → StatesTable (names_of_problem problem) t line
states_problem problem t line one legal w o reads =
    let names = names_of_problem problem in
    let wagons = w ∙ sym (length-map problem.wagons (λ (wagon : FreeWagon). wagon.number)) in
    let orders = o ∙ sym (length-map problem.orders (λ (wanted : WantedOrder). wanted.order.id)) in
    let stated = stated_as names t legal wagons orders one.each_wagon_once one.each_order_once in
    record { reads = reads; stated = stated; solvable = solved_as names t line reads stated; checks = checked_as names t stated; least = least_as names t stated }
