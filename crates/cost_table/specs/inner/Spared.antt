-- What a pair of a plan spares.
use Rattle.std.specs.Prelude.{ℕ}
use Rattle.cost_table.specs.Table.{Table, penalty_at}

-- the penalty that one wagon for a pair's order spares
abbrev pub pair_penalty : Table → ℕ × ℕ → ℕ
pair_penalty t p = penalty_at t p.1
