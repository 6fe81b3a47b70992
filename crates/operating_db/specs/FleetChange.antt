-- A fleet that changes: rows are added, and wagons leave.
use Rattle.std.specs.Prelude.{◌≡◌, ◌<◌, ℕ, Bool, false, not, is_none, is_some, if◌then◌else◌, List, length, Option, Some, None, option_map}
use Rattle.std.specs.List.{find}
use Rattle.std.specs.List.Sorted.{IsStrictlySortedBy}
use Rattle.std.specs.Option.{option_or}
use Rattle.faults.specs.declared.faults.FleetFault.{FleetFault}
use Rattle.faults.specs.declared.faults.FleetFault.TheVariants.{OutOfMemory, TooLarge, UnknownWagon, WagonPromised}
use Rattle.wagons_and_orders.specs.declared.wagon_row.WagonRow.{WagonRow}
use Rattle.fleet_rows.specs.Kept.{IsWagonRows, by_number, max_roster_wagons}
use Rattle.fleet_rows.specs.Rows.{wagon_in}
use Rattle.operating_db.specs.Promises.{is_among, promise_of}
use Rattle.operating_db.specs.State.{StateValue}

-- the row of each wagon that has one
abbrev pub RowOf : Type 0
RowOf = List ℕ → Option WagonRow

-- the row of a wagon once these are added, each in place of the one that its wagon has
abbrev pub row_with : (rows added : List WagonRow) → RowOf
row_with rows added number = option_or (wagon_in added number) (wagon_in rows number)

-- the same once these wagons have left
abbrev pub row_without : RowOf → (leaving : List (List ℕ)) → RowOf
row_without row_of leaving number = if is_among number leaving then None else row_of number

-- rows ascending by number: that of each wagon that has one, and no other
pub record AreRowsOf (row_of : RowOf) (rows : List WagonRow) : Type 0 where
  pub ascending : IsStrictlySortedBy by_number rows
  pub each : (number : List ℕ) → wagon_in rows number ≡ row_of number

-- the rows of a changed fleet
abbrev pub IsFleetAfter : (rows added : List WagonRow) → (leaving : List (List ℕ)) → List WagonRow → Type 0
IsFleetAfter rows added leaving changed = AreRowsOf (row_without (row_with rows added) leaving) changed

-- whether a wagon is there and promised; whether it may leave
abbrev pub is_promised : Option WagonRow → Bool
is_promised row = is_some (promise_of row)

abbrev pub may_leave : Option WagonRow → Bool
may_leave None = false
may_leave (Some row) = is_none row.promise

-- why a wagon may not leave
abbrev pub fault_of_leaver : List ℕ → Option WagonRow → FleetFault
fault_of_leaver number None = UnknownWagon number
fault_of_leaver number (Some row) = WagonPromised number

-- why rows can't be added: the first of them whose wagon is promised
abbrev pub adding_fault : (rows added : List WagonRow) → Option FleetFault
adding_fault rows added = option_map (λ row. WagonPromised row.number) (find (λ row. is_promised (wagon_in rows row.number)) added)

-- why wagons can't leave: the first of them that may not. A wagon that stands twice among them leaves once.
abbrev pub leaving_fault : RowOf → (leaving : List (List ℕ)) → Option FleetFault
leaving_fault row_of leaving = option_map (λ number. fault_of_leaver number (row_of number)) (find (λ number. not (may_leave (row_of number))) leaving)

-- why a fleet can't be changed, however many wagons there would be
abbrev pub fleet_fault : (rows added : List WagonRow) → (leaving : List (List ℕ)) → Option FleetFault
fleet_fault rows added leaving = option_or (adding_fault rows added) (leaving_fault (row_with rows added) leaving)

-- there would be over 1,000 wagons
pub record IsTooLarge (rows added : List WagonRow) (leaving : List (List ℕ)) : Type 0 where
  pub changed : List WagonRow
  pub fleet : IsFleetAfter rows added leaving changed
  pub many : max_roster_wagons < length changed

-- why a fleet isn't changed; out of memory may come in place of any answer
abbrev pub IsFleetRefusal : (rows added : List WagonRow) → (leaving : List (List ℕ)) → FleetFault → Type 0
IsFleetRefusal rows added leaving OutOfMemory = Unit {0}
IsFleetRefusal rows added leaving TooLarge = (fleet_fault rows added leaving ≡ None) × IsTooLarge rows added leaving
IsFleetRefusal rows added leaving fault = fleet_fault rows added leaving ≡ Some fault

-- An office whose fleet is changed: nothing refuses the change, and but for the rows of its wagons all is as before.
pub record IsWithFleet (old : StateValue) (added : List WagonRow) (leaving : List (List ℕ)) (new : StateValue) : Type 0 where
  pub no_fault : fleet_fault old.office.wagons added leaving ≡ None
  pub fleet : IsFleetAfter old.office.wagons added leaving new.office.wagons
  pub valid : IsWagonRows new.office.wagons
  pub orders : new.office.orders ≡ old.office.orders
  pub network : new.office.network ≡ old.office.network
  pub networks : new.networks ≡ old.networks

-- the row of each wagon determines the rows, so a changed fleet has one list of them
abbrev pub ChangedFleetIsUnique : Type 0
ChangedFleetIsUnique = (row_of : RowOf) (rows other : List WagonRow) → AreRowsOf row_of rows → AreRowsOf row_of other → rows ≡ other
