-- How large a book may grow.
use Rattle.std.specs.Prelude.{ℕ, ◌≤◌, nat_le, ◌&&◌, if◌then◌else◌, Option, Some, None}

-- the most entries that a book may have; the fewest is 1
abbrev pub max_entries : ℕ
max_entries = 1_000_000

-- the most problems that a book may keep; the fewest is 1
abbrev pub max_kept_problems : ℕ
max_kept_problems = 64

-- how many entries a book may have, and how many problems it keeps
pub record LimitNumbers : Type 0 where
  pub entries : ℕ
  pub kept : ℕ

pub record AreLimits (entries kept : ℕ) : Type 0 where
  pub one_entry : 1 ≤ entries
  pub few_entries : entries ≤ max_entries
  pub one_problem : 1 ≤ kept
  pub few_problems : kept ≤ max_kept_problems

abbrev pub limits_of : ℕ → ℕ → Option LimitNumbers
limits_of entries kept =
    if (nat_le 1 entries && nat_le entries max_entries) && (nat_le 1 kept && nat_le kept max_kept_problems) then Some (record { entries = entries; kept = kept }) else None
