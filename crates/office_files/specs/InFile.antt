-- What the bytes of a file say, where they are known or not: a roster, a network, names of places, or the office of a checkpoint.
use Rattle.std.specs.Prelude.{◌≡◌, ℕ, List, Option, Some, None, IfSome, Ok}
use Rattle.checkpoint.specs.Checkpoint.{IsCheckpointOf}
use Rattle.checkpoint.specs.OfficeOf.{office_of_lines}
use Rattle.fleet_rows.specs.RosterOf as roster_of
use Rattle.line_engine.specs.Lines.{lines_of}
use Rattle.line_network.specs.Network.{NetworkValue}
use Rattle.line_network.specs.NetworkOf as network_of
use Rattle.operating_db.specs.Office.{Office}
use Rattle.place_names.specs.PlacesOf.{AreReadFrom}
use Rattle.place_names.specs.declared.named_place.NamedPlace.{NamedPlace}
use Rattle.wagons_and_orders.specs.declared.wagon_row.WagonRow.{WagonRow}

-- the bytes of the file at each path, where they are known
abbrev pub BytesAt : Type 0
BytesAt = (path : List ℕ) → Option (List ℕ)

-- of no file are they known
abbrev pub unknown : BytesAt
unknown path = None

-- where the bytes of a file are known, they are all that is left to be read
abbrev pub HasBytes : (known remaining : Option (List ℕ)) → Type 0
HasBytes known remaining = IfSome known (λ bytes. remaining ≡ Some bytes)

-- the roster that they say
abbrev pub IsRosterIn : (known : Option (List ℕ)) → List WagonRow → Type 0
IsRosterIn known roster = roster_of.IsReadFrom known (Ok roster)

-- the network that they say
abbrev pub IsNetworkIn : (known : Option (List ℕ)) → NetworkValue → Type 0
IsNetworkIn known network = network_of.IsReadFrom known (Ok network)

-- the names of places that they say
abbrev pub ArePlacesIn : (known : Option (List ℕ)) → List NamedPlace → Type 0
ArePlacesIn known places = AreReadFrom known (Ok places)

-- The office that they say, as the lines of a checkpoint, where there are so many networks.
pub record IsOfficeIn (known : Option (List ℕ)) (networks : ℕ) (office : Office) : Type 0 where
  pub input : List ℕ
  pub all_bytes : IfSome known (λ bytes. bytes ≡ input)
  pub read : office_of_lines networks (lines_of input) ≡ Ok office
  pub exact : IsCheckpointOf networks (lines_of input) office
