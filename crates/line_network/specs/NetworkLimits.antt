-- What every network keeps.
use Rattle.std.specs.Prelude.{ℕ, ◌<◌, ◌≤◌, length, All}
use Rattle.std.specs.List.{IsDistinct}
use Rattle.line_network.specs.declared.line.Line.{Line}
use Rattle.line_network.specs.Network.{NetworkValue, are_one_place}

-- the most places of a network
abbrev pub max_places : ℕ
max_places = 2000

-- the most lines of a network, one for each way of a record
abbrev pub max_network_lines : ℕ
max_network_lines = 40000

-- the longest line, in kilometres
abbrev pub max_line_km : ℕ
max_line_km = 10000

-- the slowest line, in minutes
abbrev pub max_line_minutes : ℕ
max_line_minutes = 10000

-- a line between two of this many places, of lengths within the limit
pub record IsLine (places : ℕ) (line : Line) : Type 0 where
  pub from_known : line.from < places
  pub to_known : line.to < places
  pub some_km : 1 ≤ line.km
  pub most_km : line.km ≤ max_line_km
  pub some_minutes : 1 ≤ line.minutes
  pub most_minutes : line.minutes ≤ max_line_minutes

-- what every network keeps
pub record IsNetwork (network : NetworkValue) : Type 0 where
  pub few_places : length network.places ≤ max_places
  pub distinct : IsDistinct are_one_place network.places
  pub few_lines : length network.lines ≤ max_network_lines
  pub lines : All (IsLine (length network.places)) network.lines
