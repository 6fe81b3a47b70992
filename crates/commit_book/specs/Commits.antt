-- What a commit is tested for in the office as it is now: that its wagons and orders have not changed.
use Rattle.std.specs.Prelude.{ℕ, ◌+◌, Bool, false, nat_eq, nat_lt, ◌==◌, ◌&&◌, if◌then◌else◌, List, [], ◌∷◌, length, take, Option, Some, None, slice_get}
use Rattle.std.specs.List.{find}
use Rattle.std.specs.Option.{option_and_then}
use Rattle.std.specs.Cmp.Lexicographic.{pointwise}
use Rattle.wagons_and_orders.specs.declared.free_wagon.FreeWagon.{FreeWagon}
use Rattle.wagons_and_orders.specs.Free.{free_of}
use Rattle.fleet_rows.specs.Rows.{wagon_in, order_in}
use Rattle.cost_table.specs.Names.{is_name}
use Rattle.cost_table.specs.Problem.{ProblemValue}
use Rattle.price_checker.specs.Faults.{first_below}
use Rattle.operating_db.specs.Commits.{Pair, times_of_order, lack_in}
use Rattle.operating_db.specs.Office.{Office}
use Rattle.faults.specs.declared.faults.Refusal.{Refusal}
use Rattle.faults.specs.declared.faults.Refusal.TheVariants.{WagonChanged, OrderChanged}

-- a problem's wagon of a number
abbrev pub wagon_of : ProblemValue → List ℕ → Option FreeWagon
wagon_of problem number = find (λ wagon. is_name number wagon.number) problem.wagons

-- a wagon as a free one, where an office has it and it is free
abbrev pub free_in : Office → List ℕ → Option FreeWagon
free_in office number = option_and_then free_of (wagon_in office.wagons number)

-- whether two are one wagon, at one place and from one moment on
abbrev pub is_same_wagon : FreeWagon → FreeWagon → Bool
is_same_wagon a b =
    pointwise nat_eq a.number b.number && (pointwise nat_eq a.class b.class && (a.load_limit == b.load_limit && (pointwise nat_eq a.place b.place && a.ready == b.ready)))

-- whether both are there, and one wagon
abbrev pub is_same_free : Option FreeWagon → Option FreeWagon → Bool
is_same_free (Some a) (Some b) = is_same_wagon a b
is_same_free (Some a) None = false
is_same_free None b = false

-- the first pair whose wagon isn't free now as it is in the problem
abbrev pub wagon_changed : ProblemValue → (now : Office) → List Pair → Option Refusal
wagon_changed problem now [] = None
wagon_changed problem now (pair ∷ pairs) =
    if is_same_free (wagon_of problem pair.0) (free_in now pair.0) then wagon_changed problem now pairs else Some (WagonChanged pair.0)

-- whether an order lacks fewer wagons now than these pairs give it
abbrev pub lacks_fewer : (now : Office) → List Pair → (id : List ℕ) → Bool
lacks_fewer now pairs id = nat_lt (lack_in (order_in now.orders id)) (times_of_order id pairs)

-- the refusal of a pair whose order lacks fewer wagons now than these pairs give it
abbrev pub refusal_if_fewer : (now : Office) → List Pair → Pair → Option Refusal
refusal_if_fewer now pairs pair = if lacks_fewer now pairs pair.1 then Some (OrderChanged pair.1) else None

-- that of the pair at k, where this pair and those before it are counted
abbrev pub order_changed_at : (now : Office) → List Pair → ℕ → Option Refusal
order_changed_at now pairs k = option_and_then (refusal_if_fewer now (take (k + 1) pairs)) (slice_get pairs k)

-- the first pair whose order, this pair and those before it counted, lacks fewer wagons now
abbrev pub order_changed : (now : Office) → List Pair → Option Refusal
order_changed now pairs = first_below (length pairs) (order_changed_at now pairs)
