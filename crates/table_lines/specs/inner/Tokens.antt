-- Values that stand at the front of a line's tokens.
use Rattle.std.specs.Prelude.{◌≡◌, ◌≤◌, ℕ, List, [], ◌∷◌, length, Some, ⊤}
use Rattle.json.specs.Token.{Token}
use Rattle.json.specs.Json.{value, items}
use Rattle.serde_json.specs.Data.{Data, array, Items, no_items, item}
use Rattle.serde_json.specs.Read.{of_json, of_items, converted}

-- The tokens begin with a value of this kind, and `rest` stands behind it; lists nest in it no deeper than the number.
abbrev pub Spells : ℕ → (Data → Type 0) → List Token → List Token → Type 0
Spells nests IsOfKind ts rest =
    (d : Data) × IsOfKind d × ((depth : ℕ) → nests ≤ depth → converted of_json (value depth ts) ≡ Some (d, rest))

-- each of the values is read as the item in its place
abbrev pub AreRead : {A : Type 0} → (Data → A → Type 0) → Items → List A → Type 0
AreRead reads no_items [] = ⊤
AreRead reads no_items (x ∷ xs) = ⊥
AreRead reads (item d ds) [] = ⊥
AreRead reads (item d ds) (x ∷ xs) = reads d x × AreRead reads ds xs

-- a list whose values are read as these items
abbrev pub IsListOf : {A : Type 0} → (Data → A → Type 0) → List A → Data → Type 0
IsListOf reads xs d = (ds : Items) × (d ≡ array ds) × AreRead reads ds xs

-- The tokens begin with values that are read as these items, and the bracket that closes their list.
abbrev pub SpellsItems : {A : Type 0} → ℕ → (Data → A → Type 0) → List A → List Token → List Token → Type 0
SpellsItems nests reads xs ts rest =
    (ds : Items) × AreRead reads ds xs × ((depth : ℕ) → nests ≤ depth → converted of_items (items (value depth) (length ts) ts) ≡ Some (ds, rest))
