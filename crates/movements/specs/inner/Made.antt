-- Rows that are made one after the other.
use Rattle.std.specs.Prelude.{◌≡◌, ℕ, List, ◌++◌}
use Rattle.std.specs.List.{AllZip}
use Rattle.text_tables.specs.Row.{Row}

-- the rows of these items stand behind others
pub record AreRowsOf {A : Type 0} (IsRow : A → Row → Type 0) (items : List A) (before all : List Row) : Type 0 where
  pub rows : List Row
  pub each : AllZip IsRow items rows
  pub whole : all ≡ before ++ rows

-- the text made of the rows of these items stands behind another
pub record IsTextOf {A : Type 0} (IsRow : A → Row → Type 0) (text_of : List Row → List ℕ) (items : List A) (before all : List ℕ) : Type 0 where
  pub rows : List Row
  pub each : AllZip IsRow items rows
  pub whole : all ≡ before ++ text_of rows
