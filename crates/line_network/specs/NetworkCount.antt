-- How many networks there may be.
use Rattle.std.specs.Prelude.{ℕ, ◌≤◌}

-- the most networks
abbrev pub max_networks : ℕ
max_networks = 8

-- one network at least, and eight at most
abbrev pub IsNetworkCount : ℕ → Type 0
IsNetworkCount count = (1 ≤ count) × (count ≤ max_networks)
