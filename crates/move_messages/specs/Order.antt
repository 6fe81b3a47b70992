-- An order, as a contract sees it: codes are texts.
use Rattle.std.specs.Prelude.{ℕ, List}

pub record Order : Type 0 where
  pub id : List ℕ
  pub place : List ℕ
  pub classes : List (List ℕ)
  -- of each wagon, in kg
  pub load : ℕ
  -- in seconds since 1970-01-01T00:00:00Z
  pub latest : ℕ
  -- of each missing wagon, in km
  pub penalty : ℕ
  pub wagons : ℕ
