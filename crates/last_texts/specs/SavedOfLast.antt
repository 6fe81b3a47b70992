-- The checkpoint of a history's last version, its fleet changed.
use Rattle.std.specs.Prelude.{◌≡◌, ◌⊎◌, ℕ, List, [], length, Option, Some, None, Ok}
use Rattle.checkpoint.specs.OfficeOf.{office_of_lines}
use Rattle.checkpoint.specs.Written.{IsCheckpointText}
use Rattle.commit_book.specs.History.{replay}
use Rattle.commit_book.specs.Setting.{Setting}
use Rattle.faults.specs.declared.faults.FleetFault.{FleetFault}
use Rattle.line_engine.specs.Lines.{lines_of}
use Rattle.move_messages.specs.declared.event.Event.{Event}
use Rattle.operating_db.specs.Compact.{compact}
use Rattle.operating_db.specs.FleetChange.{IsFleetRefusal, IsWithFleet}
use Rattle.operating_db.specs.State.{StateValue}
use Rattle.wagons_and_orders.specs.declared.wagon_row.WagonRow.{WagonRow}
use Rattle.office_files.specs.declared.stop.Stop.{Stop}
use Rattle.office_files.specs.declared.stop.Stop.TheVariants as stop

-- the rows that are added: none where no roster is given
abbrev pub added_rows : Option (List WagonRow) → List WagonRow
added_rows None = []
added_rows (Some rows) = rows

-- the office behind all entries
abbrev pub last_state : Setting → List Event → StateValue
last_state setting history = record { office = replay setting history; networks = length setting.networks }

-- The checkpoint of an office once these rows are added and these wagons have left. It is read as that office, without its closed
-- orders.
pub record IsSaved (state : StateValue) (added : List WagonRow) (leaving : List (List ℕ)) (text : List ℕ) : Type 0 where
  pub saved : StateValue
  pub fleet : IsWithFleet state added leaving saved
  pub written : IsCheckpointText saved.office text
  pub reads : office_of_lines saved.networks (lines_of text) ≡ Ok (compact saved.office)

-- why there is none: the fleet can't be changed so, or memory was refused
abbrev pub IsNotSaved : StateValue → (added : List WagonRow) → (leaving : List (List ℕ)) → (why : Stop) → Type 0
IsNotSaved state added leaving why =
    ((fault : FleetFault) × (why ≡ stop.Fleet fault) × IsFleetRefusal state.office.wagons added leaving fault) ⊎ (why ≡ stop.OutOfMemory)
