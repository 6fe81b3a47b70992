-- Free wagons among the rows.
use Rattle.std.specs.Prelude.{ℕ, Bool, false, nat_eq, ◌&&◌, List, Option, Some, None, is_some}
use Rattle.std.specs.Cmp.Lexicographic.{pointwise}
use Rattle.wagons_and_orders.specs.Free.{free_of}
use Rattle.wagons_and_orders.specs.declared.free_wagon.FreeWagon.{FreeWagon}
use Rattle.wagons_and_orders.specs.declared.wagon_row.WagonRow.{WagonRow}

-- whether the wagon of a row is free
abbrev pub is_free : WagonRow → Bool
is_free row = is_some (free_of row)

-- whether a free wagon is of this class, at this place
abbrev pub is_of_class_at : (class place : List ℕ) → FreeWagon → Bool
is_of_class_at class place wagon = pointwise nat_eq wagon.class class && pointwise nat_eq wagon.place place

-- whether there is one
abbrev pub is_one_at : (class place : List ℕ) → Option FreeWagon → Bool
is_one_at class place None = false
is_one_at class place (Some wagon) = is_of_class_at class place wagon

-- whether the wagon of a row is free, of this class, and stands at this place
abbrev pub is_free_at : (class place : List ℕ) → WagonRow → Bool
is_free_at class place row = is_one_at class place (free_of row)
