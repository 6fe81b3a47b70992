-- What the rows of an office's wagons keep, whatever is done to them.
use Rattle.std.specs.Prelude.{◌≤◌, List, length, ℕ, All}
use Rattle.std.specs.Cmp.Lexicographic.{slice_cmp}
use Rattle.std.specs.List.Sorted.{IsStrictlySortedBy}
use Rattle.std.specs.Ordering.{nat_cmp}
use Rattle.std.specs.declared.cmp.Ordering.{Ordering}
use Rattle.move_messages.specs.MaxLoad.{max_load}
use Rattle.wagons_and_orders.specs.PossibleRows.{IsPossibleRow}
use Rattle.wagons_and_orders.specs.declared.wagon_row.WagonRow.{WagonRow}

-- the most wagons of an office
abbrev pub max_roster_wagons : ℕ
max_roster_wagons = 1000

-- wagon numbers by their digits, the first digit first
abbrev pub compare_numbers : List ℕ → List ℕ → Ordering
compare_numbers a b = slice_cmp nat_cmp a b

abbrev pub by_number : WagonRow → WagonRow → Ordering
by_number a b = compare_numbers a.number b.number

-- at most 1,000 wagons, each number above the one before; none carries over 200,000 kg; and each row is one that an office
-- can have
pub record IsWagonRows (rows : List WagonRow) : Type 0 where
  pub few : length rows ≤ max_roster_wagons
  pub ascending : IsStrictlySortedBy by_number rows
  pub few_kg : All (λ row. row.load_limit ≤ max_load) rows
  pub possible : All IsPossibleRow rows
