-- The numbers of a checkpoint and their limits.
use Rattle.std.specs.Prelude.{ℕ, ◌≤◌}
use Rattle.line_fields.specs.Commands.{max_revision}

-- the one format that there is
abbrev pub line_format : ℕ
line_format = 1

-- the most lines of a checkpoint beside its last one
abbrev pub max_lines : ℕ
max_lines = 1_000_000

-- the number of a network, counted from 1
abbrev pub IsNetworkNumber : ℕ → Type 0
IsNetworkNumber network = (1 ≤ network) × (network ≤ max_revision)
