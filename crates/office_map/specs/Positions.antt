-- Where places and lines stand on a map.
use Rattle.std.specs.Prelude.{ℕ, pos, ◌+ℤ◌, ◌*ℤ◌, List, [], ◌++◌, Option, Some, None, codes}
use Rattle.std.specs.Fmt.{signed_decimal}
use Rattle.place_names.specs.Values.{millionths}
use Rattle.place_names.specs.declared.named_place.Coordinates.{Coordinates}

-- a position that Graphviz keeps, in the unit of the file of places
abbrev pub position_at : (x y : List ℕ) → List ℕ
position_at x y = codes ", pos=\"" ++ x ++ codes "," ++ y ++ codes "\", pin=true"

-- a place stands where it lies, by the numbers as they were written
abbrev pub position_of : Option Coordinates → List ℕ
position_of None = []
position_of (Some at) = position_at at.x at.y

-- the middle between two numbers, exactly, in ten-millionths
abbrev pub middle : (a b : List ℕ) → List ℕ
middle a b = signed_decimal ((millionths a +ℤ millionths b) *ℤ pos 5) ++ codes "e-7"

-- a line stands in the middle between its ends, where both lie somewhere
abbrev pub middle_of : Option Coordinates → Option Coordinates → List ℕ
middle_of None to = []
middle_of (Some from) None = []
middle_of (Some from) (Some to) = position_at (middle from.x to.x) (middle from.y to.y)
