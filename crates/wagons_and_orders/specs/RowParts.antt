-- The row of an order by its parts.
use Rattle.std.specs.Prelude.{ℕ, ◌+◌, nat_le, Bool, true, false, ◌&&◌, if◌then◌else◌, List, [], ◌∷◌, length, Option, Some, None}
use Rattle.std.specs.List.{list_all}
use Rattle.move_messages.specs.Order.{Order}
use Rattle.wagons_and_orders.specs.Numbers.{is_below}
use Rattle.wagons_and_orders.specs.OrderRow.{OrderRowValue}

-- whether each number is below those after it
abbrev pub is_ascending : List (List ℕ) → Bool
is_ascending [] = true
is_ascending (number ∷ numbers) = list_all (λ other. is_below other number) numbers && is_ascending numbers

-- The row of an order with these wagons promised to it, and these that filled it; none where they are more than it wants, or
-- the promised ones don't ascend by number.
abbrev pub row_of_parts : Order → (promised filled : List (List ℕ)) → Option OrderRowValue
row_of_parts text promised filled =
    if nat_le (length promised + length filled) text.wagons && is_ascending promised
    then Some (record { text = text; promised = promised; filled = filled; withdrawn = false })
    else None
