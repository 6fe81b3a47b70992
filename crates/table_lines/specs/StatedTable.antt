-- The table that a line states, by its names: whether it is one, and what a plan of it costs.
use Rattle.std.specs.Prelude.{◌≡◌, ℕ, List, if◌then◌else◌, Result, Ok, Err}
use Rattle.cost_table.specs.Names.{NameLists}
use Rattle.cost_table.specs.DistinctNames.{names_or_fault}
use Rattle.cost_table.specs.Table.{Table}
use Rattle.faults.specs.declared.faults.TableFault.TheVariants.{TooLarge}
use Rattle.line_fields.specs.Values.{◌>>=◌}
use Rattle.price_checker.specs.NamedPairs.{checked}
use Rattle.table_lines.specs.TableLine.{TableText, with_plan}
use Rattle.table_lines.specs.TablePart.{table_of_line}
use Rattle.table_lines.specs.TableCost.{cost_of_text, even_table_of, is_too_large, with_check_fault, with_line_fault, with_table_fault}
use Rattle.table_lines.specs.declared.table_refusal.TableRefusal.{TableRefusal}
use Rattle.table_lines.specs.declared.table_refusal.TableRefusal.TheVariants.{Table as OfTable}

-- the names and the costs of a table, or the first of these refusals: it is too large (53), a wagon (51) or an order (52)
-- is listed twice, the lists are uneven (54)
unfoldable pub stated_in : TableText → Result (NameLists × Table) TableRefusal
stated_in t =
    if is_too_large t then Err (OfTable TooLarge)
    else (with_table_fault (names_or_fault t.wagons t.orders) >>= λ names.
    even_table_of t >>= λ table.
    Ok (names, table))

-- the cost of any plan with any prices: what the check of it says once the table is stated
abbrev pub CostsOfPlans : TableText → Type 0
CostsOfPlans t =
    (pairs : List (List ℕ × List ℕ)) (u v : List ℕ) → cost_of_text (with_plan t pairs u v) ≡ (stated_in t >>= λ s. with_check_fault (checked s.0 s.1 pairs u v))

-- the table that a line states, or the first refusal: of the line, then of the table
unfoldable pub stated_line : List ℕ → Result TableText TableRefusal
stated_line bytes = with_line_fault (table_of_line bytes) >>= λ t. stated_in t >>= λ s. Ok t
