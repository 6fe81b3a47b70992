-- The line that is being read, as contracts see it.
use Rattle.std.specs.Prelude.{ℕ, List}

-- its bytes so far, and the most that it may get
pub record BufferedLine : Type 0 where
  pub bytes : List ℕ
  pub most : ℕ
