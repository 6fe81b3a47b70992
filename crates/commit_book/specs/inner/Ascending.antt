-- Kept problems whose wagons are found by number without a walk.
use Rattle.std.specs.Prelude.{List}
use Rattle.std.specs.Cmp.Lexicographic.{slice_cmp}
use Rattle.std.specs.List.Sorted.{IsStrictlySortedBy}
use Rattle.std.specs.Ordering.{nat_cmp}
use Rattle.std.specs.declared.cmp.Ordering.{Ordering}
use Rattle.wagons_and_orders.specs.declared.free_wagon.FreeWagon.{FreeWagon}

abbrev pub by_name : FreeWagon → FreeWagon → Ordering
by_name a b = slice_cmp nat_cmp a.number b.number

-- each wagon's number is above the one before, so a search finds it
abbrev pub Ascend : List FreeWagon → Type 0
Ascend wagons = IsStrictlySortedBy by_name wagons
