-- Titles, and the rows below them.
use Rattle.std.specs.Prelude.{◌≡◌, List, ◌∷◌}
use Rattle.std.specs.List.{AllZip}
use Rattle.text_tables.specs.Row.{Row}

-- titles, and a row for each of these things in their order
pub record AreBelow {A : Type 0} (is_row : A → Row → Type 0) (titles : Row) (things : List A) (all : List Row) : Type 0 where
  pub rows : List Row
  pub each : AllZip is_row things rows
  pub whole : all ≡ titles ∷ rows
