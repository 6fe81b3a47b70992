-- How many places a file may name.
use Rattle.std.specs.Prelude.{ℕ}

abbrev pub max_named_places : ℕ
max_named_places = 2000
