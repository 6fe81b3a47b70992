-- Why a file isn't read, and what people are told then, by its bytes, where they are known or not.
use Rattle.std.specs.Prelude.{◌≡◌, ◌≢◌, ◌⊎◌, ℕ, Bool, List, Option, Some, Err, length, slice_get, take}
use Rattle.std.specs.Borrow.{Bor}
use Rattle.std.specs.Bool.{OnFalse}
use Rattle.checkpoint.specs.Reads.{IsRefused}
use Rattle.checkpoint.specs.declared.read_fault.ReadFault.{ReadFault}
use Rattle.command_line.specs.declared.office_options.OfficeOptions.{OfficeOptions}
use Rattle.command_line.specs.declared.office_options.Start.{Start}
use Rattle.command_line.specs.declared.office_options.Start.TheVariants as start
use Rattle.csv_records.specs.declared.fault_at.FaultAt.{FaultAt}
use Rattle.fault_texts.specs.NetworkText.{network_text}
use Rattle.fault_texts.specs.RosterText.{roster_text}
use Rattle.faults.specs.declared.faults.NetworkFault.{NetworkFault}
use Rattle.faults.specs.declared.faults.RosterFault.{RosterFault}
use Rattle.fleet_rows.specs.Stops as roster
use Rattle.fleet_rows.specs.declared.roster_refusal.RosterRefusal.{RosterRefusal}
use Rattle.line_network.specs.Network.{NetworkValue}
use Rattle.line_network.specs.NetworkCount.{IsNetworkCount}
use Rattle.line_network.specs.Stops as network
use Rattle.line_network.specs.declared.networks_fault.NetworksFault.TheVariants.{BadNetworkCount}
use Rattle.operating_db.specs.Office.{Office}
use Rattle.place_names.specs.PlacesOf.{AreReadFrom}
use Rattle.place_names.specs.declared.places_fault.PlacesFault.{PlacesFault}
use Rattle.office_files.specs.FirstOffice.{AreNetworksAt, BeginsWith}
use Rattle.office_files.specs.InFile.{BytesAt}
use Rattle.office_files.specs.PlacesText.{places_text}
use Rattle.office_files.specs.ReadText.{is_unreadable, read_text}
use Rattle.office_files.specs.Told.{IsToldAs}
use Rattle.office_files.specs.declared.stop.Stop.TheVariants.{OutOfMemory, Networks, OpenFailed, Roster, Checkpoint, Network, Places}
use Rattle.office_files.specs.declared.stopped.Stopped.{Stopped}

-- A roster: its first fault at its record, and the text of that fault, but where the system says why it can't be read.
pub record IsRosterRefused (known : Option (List ℕ)) (path : List ℕ) (why : Stopped) : Type 0 where
  pub refusal : FaultAt RosterRefusal
  pub read : roster.IsReadTo known (Err refusal)
  pub stop : why.stop ≡ Roster refusal.fault.fault
  pub told : refusal.fault.fault ≢ RosterFault.ReadFailed → IsToldAs (roster_text path refusal) why.told

-- A network: the same.
pub record IsNetworkRefused (known : Option (List ℕ)) (path : List ℕ) (why : Stopped) : Type 0 where
  pub refusal : FaultAt NetworkFault
  pub read : network.IsReadTo known (Err refusal)
  pub stop : why.stop ≡ Network refusal.fault
  pub told : refusal.fault ≢ NetworkFault.ReadFailed → IsToldAs (network_text path refusal) why.told

-- The lines of a checkpoint, where there are so many networks: their first fault, or why they weren't read to their end.
pub record IsOfficeRefused (known : Option (List ℕ)) (networks : ℕ) (path : List ℕ) (why : Stopped) : Type 0 where
  pub left : Option (List ℕ)
  pub has_failed : Bool
  pub fault : ReadFault
  pub read : IsRefused (record { from = known; to = left; failed = has_failed }) networks fault
  pub stop : why.stop ≡ Checkpoint fault
  pub told : OnFalse (is_unreadable fault) (IsToldAs (read_text path fault) why.told)

-- Names of places: the same as of a roster, without the record.
pub record ArePlacesRefused (known : Option (List ℕ)) (path : List ℕ) (why : Stopped) : Type 0 where
  pub fault : PlacesFault
  pub read : AreReadFrom known (Err fault)
  pub stop : why.stop ≡ Places fault
  pub told : fault ≢ PlacesFault.ReadFailed → IsToldAs (places_text path fault) why.told

-- the file couldn't be opened, or it is refused so
abbrev pub IsUnread : (refused : Stopped → Type 0) → (why : Stopped) → Type 0
IsUnread refused why = (why.stop ≡ OpenFailed) ⊎ refused why

-- the file with which the office begins couldn't be opened, or is refused, or memory was out
abbrev pub IsStartRefused : BytesAt → (networks : ℕ) → Start → (why : Stopped) → Type 0
IsStartRefused bytes_at networks (start.Roster path) why =
    (why.stop ≡ OutOfMemory) ⊎ IsUnread (IsRosterRefused (bytes_at path.now) path.now) why
IsStartRefused bytes_at networks (start.Checkpoint path) why = IsUnread (IsOfficeRefused (bytes_at path.now) networks path.now) why

-- the file of one of the networks couldn't be opened, or is refused; those before it are read
pub record IsNetworkUnread (bytes_at : BytesAt) (paths : List (Bor (List ℕ))) (why : Stopped) : Type 0 where
  pub index : ℕ
  pub path : Bor (List ℕ)
  pub is_path : slice_get paths index ≡ Some path
  pub before : List NetworkValue
  pub are_before : AreNetworksAt bytes_at (take index paths) before
  pub refused : IsUnread (IsNetworkRefused (bytes_at path.now) path.now) why

-- or memory was out
abbrev pub AreNetworksRefused : BytesAt → (paths : List (Bor (List ℕ))) → (why : Stopped) → Type 0
AreNetworksRefused bytes_at paths why = (why.stop ≡ OutOfMemory) ⊎ IsNetworkUnread bytes_at paths why

-- The first of these is said: none or too many networks are named; the file with which the office begins is refused; a network
-- is. What comes before it is as the files say.
pub data AreFilesRefused (bytes_at : BytesAt) (options : OfficeOptions) (why : Stopped) : Type 0 where
  count_refused : (IsNetworkCount (length options.networks.items) → ⊥) → why.stop ≡ Networks BadNetworkCount → AreFilesRefused bytes_at options why
  start_refused : IsNetworkCount (length options.networks.items) → IsStartRefused bytes_at (length options.networks.items) options.start why → AreFilesRefused bytes_at options why
  networks_refused : IsNetworkCount (length options.networks.items) → (office : Office) → BeginsWith bytes_at (length options.networks.items) options.start office
      → AreNetworksRefused bytes_at options.networks.items why → AreFilesRefused bytes_at options why
