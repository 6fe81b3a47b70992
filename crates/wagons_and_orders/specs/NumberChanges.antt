-- What a change of a list of wagon numbers leaves.
use Rattle.std.specs.Prelude.{◌≡◌, ◌↔◌, ◌⊎◌, ℕ, List}
use Rattle.std.specs.List.{Contains}

-- it has the numbers that it had, and one more
abbrev pub HasOneMore : List ℕ → (before after : List (List ℕ)) → Type 0
HasOneMore number before after = (other : List ℕ) → Contains after other ↔ ((other ≡ number) ⊎ Contains before other)

-- it has the numbers that it had but one
abbrev pub HasAllBut : List ℕ → (before after : List (List ℕ)) → Type 0
HasAllBut number before after = (other : List ℕ) → Contains after other ↔ (Contains before other × ¬ (other ≡ number))
