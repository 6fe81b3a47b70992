-- Rows as they are handed in, the table that they give, and what may be wrong with them.
use Rattle.std.specs.Prelude.{ℕ, if◌then◌else◌, ◌==◌, nat_lt, ◌||◌, ◌&&◌, Bool, List, [], length, map, Option, Some, None, sum, slice_index_or, Vec}
use Rattle.std.specs.List.{list_all}
use Rattle.std.specs.declared.alloc.Global.{Global}
use Rattle.cost_table.specs.TableLimits.{max_table_wagons, max_table_orders, max_table_lack}
use Rattle.faults.specs.declared.faults.TableFault.{TableFault}
use Rattle.faults.specs.declared.faults.TableFault.TheVariants.{TooLarge, UnevenRows}
use Rattle.cost_table.specs.Table.{Table}

-- rows as they are handed in: for each order a cost, or none where the pair is not allowed
abbrev pub Rows : Type 0
Rows = List (Vec (Option ℕ) Global)

-- the number handed in for wagon i and order j; out of range there is none
abbrev pub number_at : Rows → ℕ → ℕ → Option ℕ
number_at rows i j = slice_index_or (slice_index_or (map (λ row. row.items) rows) i []) j None

-- the table that they are
abbrev pub table_of : Rows → List ℕ → List ℕ → Table
table_of rows penalties lacks =
    record { costs = map (λ row. row.items) rows; penalties = penalties; lacks = lacks }

abbrev pub is_too_large : Rows → List ℕ → List ℕ → Bool
is_too_large rows penalties lacks =
    nat_lt max_table_wagons (length rows) || nat_lt max_table_orders (length penalties) || nat_lt max_table_lack (sum lacks)

-- each row and the lacks are as long as the penalties
abbrev pub is_even : Rows → List ℕ → List ℕ → Bool
is_even rows penalties lacks =
    list_all (λ row. length row.items == length penalties) rows && (length lacks == length penalties)

-- what is wrong with rows, before any memory is asked for
abbrev pub rows_fault : Rows → List ℕ → List ℕ → Option TableFault
rows_fault rows penalties lacks =
    if is_too_large rows penalties lacks then Some TooLarge
    else (if is_even rows penalties lacks then None else Some UnevenRows)
