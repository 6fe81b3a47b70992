-- How classes lie in memory: in eight places, the first class again in those that are not in use.
use Rattle.std.specs.Prelude.{◌≡◌, ℕ, ◌-◌, ◌≤◌, List, [], ◌∷◌, length, take, replicate, ◌++◌}
use Rattle.std.proofs.Common.{arith, length-take-le}
use Rattle.move_messages.specs.Classes.{max_classes}

abbrev pub first_class : List (List ℕ) → List ℕ
first_class [] = []
first_class (class ∷ others) = class

-- the classes with the first one again behind them
abbrev pub padded : List (List ℕ) → List (List ℕ)
padded classes = classes ++ replicate (max_classes - length classes) (first_class classes)

-- the places behind those in use have the first class
abbrev pub IsPadded : List (List ℕ) → ℕ → Type 0
IsPadded items used = (length items ≡ max_classes) × (1 ≤ used) × (used ≤ max_classes) × (padded (take used items) ≡ items)

-- as many places are in use as there are classes
pub length-take-used : (items : List (List ℕ)) (used : ℕ) → IsPadded items used → length (take used items) ≡ used
length-take-used items used h = length-take-le used items (omega arith)
