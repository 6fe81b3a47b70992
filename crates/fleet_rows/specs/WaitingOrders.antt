-- The index of the orders that wait.
use Rattle.std.specs.Prelude.{ℕ, ◌+◌, if◌then◌else◌, List, [], ◌∷◌}
use Rattle.wagons_and_orders.specs.Lack.{is_waiting}
use Rattle.wagons_and_orders.specs.OrderRow.{OrderRowValue}

-- the indexes of the orders that wait, ascending, where the first row stands at this index
abbrev pub waiting_from : ℕ → List OrderRowValue → List ℕ
waiting_from first [] = []
waiting_from first (row ∷ rows) = if is_waiting row then first ∷ waiting_from (first + 1) rows else waiting_from (first + 1) rows
