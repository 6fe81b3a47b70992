-- The line of a table under the names of its wagons and orders, without a plan.
use Rattle.std.specs.Prelude.{◌≡◌, ℕ, List, [], Some, Ok}
use Rattle.cost_table.specs.Names.{NameLists}
use Rattle.cost_table.specs.Plan.{IsOptimal, cost_of}
use Rattle.cost_table.specs.Table.{Table}
use Rattle.price_checker.specs.NamedPairs.{checked}
use Rattle.table_lines.specs.TableCost.{cost_of_text, with_check_fault}
use Rattle.table_lines.specs.TableLine.{TableText, with_plan}
use Rattle.table_lines.specs.TablePart.{table_of_line}
use Rattle.table_lines.specs.Solving.{IsSolved}
use Rattle.table_lines.specs.StatedTable.{stated_in, stated_line}

-- a table under these names, as a line states it; it says what each order lacks
abbrev pub text_of_table : NameLists → Table → TableText
text_of_table names table =
    record { wagons = names.wagons; orders = names.orders; cells = table.costs; penalties = table.penalties; lacks = Some table.lacks; pairs = []; u = []; v = [] }

-- A line that states this table under these names: its fields are read as the table's, and what is to be solved is that
-- very table, with each of its costs, penalties and lacks. With any plan and prices, the check of it is the check of that
-- plan of this table. What is printed where it is solved has the cost of each plan of this table that costs the least.
pub record StatesTable (names : NameLists) (table : Table) (line : List ℕ) : Type 0 where
  pub reads : table_of_line line ≡ Ok (text_of_table names table)
  pub stated : stated_in (text_of_table names table) ≡ Ok (names, table)
  pub solvable : stated_line line ≡ Ok (text_of_table names table)
  pub checks :
      (pairs : List (List ℕ × List ℕ)) (u v : List ℕ) → cost_of_text (with_plan (text_of_table names table) pairs u v) ≡ with_check_fault (checked names table pairs u v)
  pub least :
      (text : List ℕ) (solved : IsSolved (text_of_table names table) text) (plan : List (ℕ × ℕ)) → IsOptimal table plan → solved.cost ≡ cost_of table plan
