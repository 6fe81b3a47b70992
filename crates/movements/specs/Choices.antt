-- Which movements, orders and silent wagons are listed.
use Rattle.std.specs.Prelude.{ℕ, Bool, true, not, ◌&&◌, ◌||◌, nat_eq, List, Option, Some, None, is_none}
use Rattle.std.specs.Borrow.{Bor}
use Rattle.std.specs.Cmp.Lexicographic.{pointwise}
use Rattle.std.specs.List.{list_any}
use Rattle.movements.specs.Lateness.{is_late}
use Rattle.movements.specs.Needs.{needs_person}
use Rattle.movements.specs.declared.choice.Choice.{Choice}
use Rattle.movements.specs.declared.movement.Movement.{Movement}
use Rattle.movements.specs.declared.need.OrderNeed.{OrderNeed}
use Rattle.movements.specs.declared.silence.SilentWagon.{SilentWagon}

-- whether a wagon or an order is asked for by its number or name: each is where none is given
abbrev pub asks : Option (List ℕ) → List ℕ → Bool
asks None code = true
asks (Some asked) code = pointwise nat_eq asked code

-- whether a wagon is one of these
abbrev pub is_one_of : List (List ℕ) → List ℕ → Bool
is_one_of wagons wagon = list_any (λ it. pointwise nat_eq it wagon) wagons

-- whether a wagon is among those that are listed alone: each is where none are given
abbrev pub is_among : Option (Bor (List (List ℕ))) → List ℕ → Bool
is_among None wagon = true
is_among (Some wagons) wagon = is_one_of wagons.now wagon

-- a movement: that of the wagon asked for, of one of those listed alone, to the order asked for; a late one, if late ones alone are
-- asked for
abbrev pub keeps_movement : Choice → Movement → Bool
keeps_movement choice movement =
    asks choice.wagon movement.wagon
    && (is_among choice.among movement.wagon && (asks choice.order movement.order && (not choice.late || is_late movement)))

-- an order: none beside a wagon asked for or wagons listed alone; the one asked for; one that needs a person, if those alone are asked for
abbrev pub keeps_order : Choice → OrderNeed → Bool
keeps_order choice need =
    is_none choice.wagon
    && (is_none choice.among && (asks choice.order need.order && (not choice.late || needs_person need)))

-- a silent wagon: none beside an order asked for; the one asked for, one of those listed alone
abbrev pub keeps_silent : Choice → SilentWagon → Bool
keeps_silent choice silent =
    is_none choice.order && (asks choice.wagon silent.wagon && is_among choice.among silent.wagon)
