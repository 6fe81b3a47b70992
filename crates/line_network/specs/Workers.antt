-- How many workers may make tables.
use Rattle.std.specs.Prelude.{ℕ, ◌<◌, ◌⊎◌}

-- the most workers
abbrev pub max_workers : ℕ
max_workers = 64

-- no worker, or more than 64
abbrev pub IsBadWorkerCount : ℕ → Type 0
IsBadWorkerCount workers = (workers < 1) ⊎ (max_workers < workers)
