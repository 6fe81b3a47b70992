-- How many wagons an order lacks, and its state.
use Rattle.std.specs.Prelude.{ℕ, ◌+◌, ◌-◌, nat_lt, Bool, not, ◌&&◌, if◌then◌else◌, length}
use Rattle.wagons_and_orders.specs.OrderRow.{OrderRowValue}

-- how many wagons an order lacks: those that it wants less those promised and those that filled it
abbrev pub lack_of : OrderRowValue → ℕ
lack_of row = if row.withdrawn then 0 else row.text.wagons - (length row.promised + length row.filled)

-- it lacks one wagon or more
abbrev pub is_waiting : OrderRowValue → Bool
is_waiting row = nat_lt 0 (lack_of row)

-- neither withdrawn nor filled
abbrev pub is_open : OrderRowValue → Bool
is_open row = not row.withdrawn && nat_lt (length row.filled) row.text.wagons
