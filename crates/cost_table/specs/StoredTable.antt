-- What a table's rows, penalties and lacks keep.
use Rattle.std.specs.Prelude.{ℕ, List, All, length}
use Rattle.cost_table.specs.declared.table_rows.TableRows.{TableRows}
use Rattle.cost_table.specs.SharedRows.{HasPlaces, rows_in}
use Rattle.cost_table.specs.TableLimits.{IsRow, IsTable}
use Rattle.cost_table.specs.TableRows.{table_with}

-- each row is there, with orders of the table alone, and all is within the limits of a table
pub record AreStored (held : TableRows) (penalties lacks : List ℕ) : Type 0 where
  pub placed : HasPlaces held
  pub rows : All (IsRow (length lacks) 0) (rows_in held)
  pub table : IsTable (table_with (rows_in held) penalties lacks)
