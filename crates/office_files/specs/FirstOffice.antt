-- The office that the program begins with, and its networks, by the bytes of their files.
use Rattle.std.specs.Prelude.{◌≡◌, ℕ, List, length}
use Rattle.std.specs.Borrow.{Bor}
use Rattle.std.specs.List.{AllZip}
use Rattle.command_line.specs.declared.office_options.OfficeOptions.{OfficeOptions}
use Rattle.command_line.specs.declared.office_options.Start.{Start}
use Rattle.command_line.specs.declared.office_options.Start.TheVariants as start
use Rattle.line_network.specs.Network.{NetworkValue}
use Rattle.operating_db.specs.Office.{Office}
use Rattle.operating_db.specs.RosterOffice.{first_office}
use Rattle.wagons_and_orders.specs.declared.wagon_row.WagonRow.{WagonRow}
use Rattle.office_files.specs.InFile.{BytesAt, IsNetworkIn, IsOfficeIn, IsRosterIn}

-- by a roster, the office of the roster that its file says; by a checkpoint, the office that its file says
abbrev pub BeginsWith : BytesAt → (networks : ℕ) → Start → Office → Type 0
BeginsWith bytes_at networks (start.Roster path) office =
    (roster : List WagonRow) × IsRosterIn (bytes_at path.now) roster × (office ≡ first_office roster)
BeginsWith bytes_at networks (start.Checkpoint path) office = IsOfficeIn (bytes_at path.now) networks office

-- as many networks as paths, each the one that the file at its path says
abbrev pub AreNetworksAt : BytesAt → (paths : List (Bor (List ℕ))) → List NetworkValue → Type 0
AreNetworksAt bytes_at paths networks = AllZip (λ path network. IsNetworkIn (bytes_at path.now) network) paths networks

-- The office and the networks that the files of the options say.
pub record AreInFiles (bytes_at : BytesAt) (options : OfficeOptions) (office : Office) (networks : List NetworkValue) : Type 0 where
  pub begins : BeginsWith bytes_at (length networks) options.start office
  pub networks_are : AreNetworksAt bytes_at options.networks.items networks
