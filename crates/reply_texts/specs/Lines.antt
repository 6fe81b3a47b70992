-- Lines of a text.
use Rattle.std.specs.Prelude.{◌≡◌, ℕ, List, ◌++◌}
use Rattle.std.specs.List.{AllZip, concat}

-- a text of lines, one for each row, one after the other
pub record AreLines {A : Type 0} (IsLine : A → List ℕ → Type 0) (rows : List A) (text : List ℕ) : Type 0 where
  pub lines : List (List ℕ)
  pub each : AllZip IsLine rows lines
  pub whole : text ≡ concat lines

-- the new text is the old one and something that P holds of
pub record Adds (P : List ℕ → Type 0) (old new : List ℕ) : Type 0 where
  pub added : List ℕ
  pub is : P added
  pub whole : new ≡ old ++ added
