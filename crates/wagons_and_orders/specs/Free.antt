-- Free wagons: those that may be promised.
use Rattle.std.specs.Prelude.{Bool, false, List, ℕ, Option, Some, None}
use Rattle.wagons_and_orders.specs.declared.status.Status.{Status}
use Rattle.wagons_and_orders.specs.declared.status.Status.TheVariants.{Empty}
use Rattle.wagons_and_orders.specs.declared.wagon_row.WagonRow.{WagonRow}
use Rattle.wagons_and_orders.specs.declared.free_wagon.FreeWagon.{FreeWagon}

-- the free wagon of a row with this status, hold and promise
abbrev pub free_by : WagonRow → Status → (held : Bool) → (promise : Option (List ℕ)) → Option FreeWagon
free_by row (Empty place ready) false None =
    Some (record { number = row.number; class = row.class; load_limit = row.load_limit; place = place; ready = ready })
free_by row status held promise = None

-- a wagon is free where it is Empty, not held and not promised
unfoldable pub free_of : WagonRow → Option FreeWagon
free_of row = free_by row row.status row.held row.promise
