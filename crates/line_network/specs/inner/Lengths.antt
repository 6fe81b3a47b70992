-- How a length's number stands for kilometres and minutes.
use Rattle.std.specs.Prelude.{ℕ, ◌+◌, ◌*◌, ◌/◌, ◌%◌, ◌==◌, cond, List, map, Option, None, Some}
use Rattle.line_network.specs.declared.length.Length.{Length}

-- the kilometres and minutes of a walk
pub record Distance : Type 0 where
  pub km : ℕ
  pub minutes : ℕ

abbrev pub length_of : ℕ → ℕ → Length
length_of km minutes = record { number = km * 33554432 + minutes }

abbrev pub distance_of : Length → Distance
distance_of l = record { km = l.number / 33554432; minutes = l.number % 33554432 }

-- the distance of a walk that goes on by another
abbrev pub plus_distance : Distance → Distance → Distance
plus_distance d e = record { km = d.km + e.km; minutes = d.minutes + e.minutes }

-- as the label of a place: the distance, if a way is found
abbrev pub label_of : Length → Option Distance
label_of l = cond (l.number == 18446744073709551615) None (Some (distance_of l))

-- the distances that are found
abbrev pub known : List Length → List (Option Distance)
known labels = map label_of labels

-- as a pair of numbers
abbrev pub as_pair : Option Distance → Option (ℕ × ℕ)
as_pair None = None
as_pair (Some d) = Some (d.km, d.minutes)
