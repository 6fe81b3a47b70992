-- Laws of distances, which hold of every network.
use Rattle.std.specs.Prelude.{◌≡◌, ℕ, ◌+◌, List, Some}
use Rattle.line_network.specs.Network.{NetworkValue, place_index}
use Rattle.line_network.specs.Distance.{AtMost, IsDistance}

-- the way over a third place is not shorter
abbrev pub TriangleHolds : Type 0
TriangleHolds =
    (net : NetworkValue) (a b c : List ℕ) (p q r : ℕ × ℕ) → IsDistance net a b p → IsDistance net b c q → IsDistance net a c r
    → AtMost r (p.0 + q.0, p.1 + q.1)

-- two places have one distance at most
abbrev pub DistanceIsUnique : Type 0
DistanceIsUnique = (net : NetworkValue) (a b : List ℕ) (p q : ℕ × ℕ) → IsDistance net a b p → IsDistance net a b q → p ≡ q

-- a place of the network is at no distance from itself
abbrev pub PlaceIsAtItself : Type 0
PlaceIsAtItself = (net : NetworkValue) (a : List ℕ) (k : ℕ) → place_index net.places a ≡ Some k → IsDistance net a a (0, 0)
