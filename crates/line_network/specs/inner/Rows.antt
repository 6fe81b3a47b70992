-- The rows of tables: the distances from each place to each place, by their numbers.
use Rattle.std.specs.Prelude.{◌≡◌, ℕ, ◌*◌, ◌<◌, ◌≤◌, List, length, Option, Some, None, slice_index_or}
use Rattle.std.specs.declared.alloc.Global.{Global}
use Rattle.std.specs.declared.vec.Vec.{Vec}
use Rattle.line_network.specs.NetworkLimits.{max_line_km, max_line_minutes}
use Rattle.line_network.specs.declared.line.Line.{Line}
use Rattle.line_network.specs.declared.length.Length.{Length}
use Rattle.line_network.specs.Walk.{IsPath, km_of, minutes_of}
use Rattle.line_network.specs.Distance.{AtMost}
use Rattle.line_network.specs.inner.Lengths.{Distance, known}

-- the pair of a path between two places, by their numbers
pub record IsPathPair (lines : List Line) (a b : ℕ) (d : Distance) : Type 0 where
  pub path : List Line
  pub leads : IsPath lines a path b
  pub km : km_of path ≡ d.km
  pub minutes : minutes_of path ≡ d.minutes

-- below which no path lies
pub record IsLeastPair (lines : List Line) (a b : ℕ) (d : Distance) : Type 0 where
  pub some : IsPathPair lines a b d
  pub least : (path : List Line) → IsPath lines a path b → AtMost (d.km, d.minutes) (km_of path, minutes_of path)

-- what a row has for a place: the least pair, and none where no path leads
abbrev pub IsLeastOrNone : List Line → ℕ → ℕ → Option Distance → Type 0
IsLeastOrNone lines a b None = (path : List Line) → IsPath lines a path b → ⊥
IsLeastOrNone lines a b (Some d) = IsLeastPair lines a b d

-- no longer than as many lines of the greatest length as there are places
abbrev pub IsNear : ℕ → Option Distance → Type 0
IsNear places None = Unit {0}
IsNear places (Some d) = (d.km ≤ max_line_km * places) × (d.minutes ≤ max_line_minutes * places)

-- the distances from one place to each of so many
pub record IsRow (lines : List Line) (places a : ℕ) (row : List (Option Distance)) : Type 0 where
  pub full : length row ≡ places
  pub answers : (b : ℕ) → b < places → IsLeastOrNone lines a b (slice_index_or row b None)
  pub near : (b : ℕ) → b < places → IsNear places (slice_index_or row b None)

-- a row for each of so many places, as its labels
pub record AreRows (lines : List Line) (places : ℕ) (rows : List (Vec Length Global)) : Type 0 where
  pub full : length rows ≡ places
  pub each : (a : ℕ) (d : Vec Length Global) → a < places → IsRow lines places a (known (slice_index_or rows a d).items)
