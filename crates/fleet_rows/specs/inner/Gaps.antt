-- Where the row of a wagon would stand among ascending rows.
use Rattle.std.specs.Prelude.{◌≡◌, ℕ, ◌≤◌, List, length}
use Rattle.std.specs.List.{AllWithin}
use Rattle.std.specs.declared.cmp.Ordering.TheVariants.{Less, Greater}
use Rattle.wagons_and_orders.specs.declared.wagon_row.WagonRow.{WagonRow}
use Rattle.fleet_rows.specs.Kept.{compare_numbers}

-- an index before which the numbers are less than this one, and from which on they are greater
pub record IsGapFor (rows : List WagonRow) (number : List ℕ) (index : ℕ) : Type 0 where
  pub within : index ≤ length rows
  pub before : AllWithin (λ row. compare_numbers row.number number ≡ Less) rows 0 index
  pub after : AllWithin (λ row. compare_numbers row.number number ≡ Greater) rows index (length rows)
