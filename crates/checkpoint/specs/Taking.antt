-- What one line of a checkpoint makes of the parts before it, or its fault: the first that holds, with the line's number n.
use Rattle.std.specs.Prelude.{ℕ, ◌+◌, ◌-◌, ◌==◌, ◌||◌, ◌&&◌, nat_le, nat_lt, not, Bool, true, false, if◌then◌else◌, List, [], ◌∷◌, ◌++◌, length, Option, Some, None, is_some, Result, Ok, Err, slice_get}
use Rattle.std.specs.List.{list_all}
use Rattle.std.specs.Ordering.{is_lt}
use Rattle.faults.specs.declared.faults.CheckpointFault.TheVariants.{DuplicateWagon, DuplicateOrder, TooLarge, TooManyOpen, UnknownNetwork, BadCheckpointLine, OneSidedPromise, OrderFull, CheckpointCut}
use Rattle.move_messages.specs.MaxLoad.{max_load}
use Rattle.line_fields.specs.declared.fault.LineFault.{LineFault}
use Rattle.wagons_and_orders.specs.declared.wagon_row.WagonRow.{WagonRow}
use Rattle.wagons_and_orders.specs.OrderRow.{OrderRowValue}
use Rattle.wagons_and_orders.specs.PossibleRows.{is_possible}
use Rattle.wagons_and_orders.specs.RowParts.{row_of_parts}
use Rattle.fleet_rows.specs.Kept.{compare_numbers, max_roster_wagons}
use Rattle.fleet_rows.specs.Rows.{max_open_wagons, open_wagons, order_in, wagon_in}
use Rattle.fleet_rows.specs.SameWagons.{has_wagon}
use Rattle.operating_db.specs.Promises.{is_among, is_promise_to, promise_of, promised_of}
use Rattle.checkpoint.specs.LineReading.{checkpoint_line_of}
use Rattle.checkpoint.specs.OrderLine.{OrderLineValue}
use Rattle.checkpoint.specs.declared.line.CheckpointLine.{CheckpointLine}
use Rattle.checkpoint.specs.declared.line.CheckpointLine.TheVariants.{Head, Wagon, Order, End}
use Rattle.checkpoint.specs.Parts.{PartsValue}
use Rattle.checkpoint.specs.declared.read_fault.ReadFault.{ReadFault}
use Rattle.checkpoint.specs.declared.read_fault.ReadFault.TheVariants.{Line, Unread}

abbrev pub Taken : Type 0
Taken = Result PartsValue ReadFault

-- ---- the head

-- its network is one of those that there are, counted from 1
abbrev pub take_head : (networks n : ℕ) → PartsValue → ℕ → Taken
take_head networks n parts network =
    if network == 0 || nat_lt networks network then Err (Line (UnknownNetwork n)) else Ok (record parts { network = Some network })

-- ---- wagons

-- whether a number is above that of the last row, where there is one
abbrev pub is_above_row : Option WagonRow → List ℕ → Bool
is_above_row None number = true
is_above_row (Some row) number = is_lt (compare_numbers row.number number)

abbrev pub is_above_last : List WagonRow → List ℕ → Bool
is_above_last rows number = is_above_row (slice_get rows (length rows - 1)) number

-- whether a wagon's row may follow these orders: there is none, and the row carries no more than a wagon may, and is one that an
-- office can have
abbrev pub may_follow : List OrderRowValue → WagonRow → Bool
may_follow [] row = nat_le row.load_limit max_load && is_possible row
may_follow (order ∷ orders) row = false

-- one wagon more, above the one before
unfoldable pub take_wagon : (n : ℕ) → PartsValue → WagonRow → Taken
take_wagon n parts row =
    if not (may_follow parts.orders row) then Err (Line (BadCheckpointLine n))
    else if nat_le max_roster_wagons (length parts.wagons) then Err (Line (TooLarge n))
    else if is_above_last parts.wagons row.number then Ok (record parts { wagons = parts.wagons ++ row ∷ [] })
    else if has_wagon parts.wagons row.number then Err (Line (DuplicateWagon n))
    else Err (Line (BadCheckpointLine n))

-- ---- orders

-- whether a wagon is promised to this order by its own row
abbrev pub is_promised_by : List WagonRow → (id : List ℕ) → (number : List ℕ) → Bool
is_promised_by wagons id number = is_promise_to (promise_of (wagon_in wagons number)) id

-- whether an order has more wagons than it wants, or all that it wants were delivered
abbrev pub is_full : OrderLineValue → Bool
is_full order = nat_lt order.text.wagons (length order.promised + length order.filled) || nat_le order.text.wagons (length order.filled)

-- one order more, where its promised wagons ascend, the open orders want few enough wagons with it, and each wagon promised to
-- it is so by its own row
abbrev pub with_order : (n : ℕ) → PartsValue → Option OrderRowValue → Taken
with_order n parts None = Err (Line (BadCheckpointLine n))
with_order n parts (Some row) =
    if nat_lt max_open_wagons (open_wagons parts.orders + row.text.wagons) then Err (Line (TooManyOpen n))
    else if list_all (is_promised_by parts.wagons row.text.id) row.promised then Ok (record parts { orders = parts.orders ++ row ∷ [] })
    else Err (Line (OneSidedPromise n))

unfoldable pub take_order : (n : ℕ) → PartsValue → OrderLineValue → Taken
take_order n parts order =
    if is_some (order_in parts.orders order.text.id) then Err (Line (DuplicateOrder n))
    else if is_full order then Err (Line (OrderFull n))
    else with_order n parts (row_of_parts order.text order.promised order.filled)

-- ---- the last line

-- whether the order that a wagon is promised to, if any, has it among its promised wagons
abbrev pub has_wagon_of : List OrderRowValue → (number : List ℕ) → (promise : Option (List ℕ)) → Bool
has_wagon_of orders number None = true
has_wagon_of orders number (Some id) = is_among number (promised_of (order_in orders id))

abbrev pub is_kept_by : List OrderRowValue → WagonRow → Bool
is_kept_by orders row = has_wagon_of orders row.number row.promise

-- how many lines stand before the last one that aren't blank: the head, one a wagon, one an order
abbrev pub lines_before_last : List WagonRow → List OrderRowValue → ℕ
lines_before_last wagons orders = 1 + length wagons + length orders

-- it counts them, and each wagon's promise is known to its order
unfoldable pub take_end : (n : ℕ) → PartsValue → (lines : ℕ) → Taken
take_end n parts lines =
    if not (lines == lines_before_last parts.wagons parts.orders) then Err (Line (CheckpointCut n))
    else if list_all (is_kept_by parts.orders) parts.wagons then Ok (record parts { ended = true })
    else Err (Line (OneSidedPromise n))

-- ---- any line

-- the head comes first and once
abbrev pub take_said : (networks n : ℕ) → PartsValue → (network : Option ℕ) → CheckpointLine → Taken
take_said networks n parts None (Head network) = take_head networks n parts network
take_said networks n parts None (Wagon row) = Err (Line (BadCheckpointLine n))
take_said networks n parts None (Order order) = Err (Line (BadCheckpointLine n))
take_said networks n parts None (End lines) = Err (Line (BadCheckpointLine n))
take_said networks n parts (Some known) (Head network) = Err (Line (BadCheckpointLine n))
take_said networks n parts (Some known) (Wagon row) = take_wagon n parts row
take_said networks n parts (Some known) (Order order) = take_order n parts order
take_said networks n parts (Some known) (End lines) = take_end n parts lines

-- nothing comes behind the last line
abbrev pub take_next : (networks n : ℕ) → PartsValue → (ended : Bool) → CheckpointLine → Taken
take_next networks n parts true said = Err (Line (BadCheckpointLine n))
take_next networks n parts false said = take_said networks n parts parts.network said

-- a line that can't be read as any line of a checkpoint is refused with what is wrong with it
abbrev pub take_read : (networks n : ℕ) → PartsValue → Result CheckpointLine LineFault → Taken
take_read networks n parts (Err fault) = Err (Unread n fault)
take_read networks n parts (Ok said) = take_next networks n parts parts.ended said

-- what a line makes of the parts before it, where there are so many networks
unfoldable pub take_line : (networks n : ℕ) → PartsValue → (line : List ℕ) → Taken
take_line networks n parts line = take_read networks n parts (checkpoint_line_of line)
