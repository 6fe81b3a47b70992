-- What a network is: its places and its lines.
use Rattle.std.specs.Prelude.{ℕ, Bool, nat_eq, List, Option, position}
use Rattle.std.specs.Cmp.Lexicographic.{pointwise}
use Rattle.line_network.specs.declared.line.Line.{Line}

-- a network: its places, each by its characters and numbered by its position, and its lines
pub record NetworkValue : Type 0 where
  pub places : List (List ℕ)
  pub lines : List Line

-- whether two texts are one place
abbrev pub are_one_place : List ℕ → List ℕ → Bool
are_one_place place other = pointwise nat_eq place other

-- the number of a place among places
abbrev pub place_index : List (List ℕ) → List ℕ → Option ℕ
place_index places place = position (are_one_place place) places
