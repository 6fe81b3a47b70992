-- How much a wagon may carry.
use Rattle.std.specs.Prelude.{ℕ}

-- the greatest load of a wagon, in kg
abbrev pub max_load : ℕ
max_load = 200_000
