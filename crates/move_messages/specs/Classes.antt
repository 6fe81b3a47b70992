-- The classes that an order accepts, as a list of their texts.
use Rattle.std.specs.Prelude.{ℕ, ◌≤◌, nat_le, ◌&&◌, if◌then◌else◌, List, length, Option, Some, None}

-- the most classes that an order accepts; it accepts one at least
abbrev pub max_classes : ℕ
max_classes = 8

abbrev pub IsClassList : List (List ℕ) → Type 0
IsClassList classes = (1 ≤ length classes) × (length classes ≤ max_classes)

-- these classes, where they are not too few or too many
abbrev pub class_list : List (List ℕ) → Option (List (List ℕ))
class_list classes = if nat_le 1 (length classes) && nat_le (length classes) max_classes then Some classes else None
