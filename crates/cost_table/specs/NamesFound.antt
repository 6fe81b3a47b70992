-- What is found of names.
use Rattle.std.specs.Prelude.{◌≡◌, ℕ, List, Option, Some, slice_get}
use Rattle.cost_table.specs.Names.{NameLists}

-- the wagon and the order stand at these positions
abbrev pub StandAt : NameLists → (number id : List ℕ) → ℕ × ℕ → Type 0
StandAt names number id p = (slice_get names.wagons p.0 ≡ Some number) × (slice_get names.orders p.1 ≡ Some id)

-- wherever the wagon and the order stand, that is what was found
abbrev pub IsFoundWhere : NameLists → (number id : List ℕ) → Option (ℕ × ℕ) → Type 0
IsFoundWhere names number id found =
    (i j : ℕ) → slice_get names.wagons i ≡ Some number → slice_get names.orders j ≡ Some id → found ≡ Some (i, j)
