-- In which sequence the orders are taken in.
use Rattle.std.specs.Prelude.{◌≡◌, ◌*◌, ◌<◌, ◌==◌, ℕ, List}
use Rattle.std.specs.List.{count_by, All}
use Rattle.cost_table.specs.Table.{Table, lack_at}

-- how often order k is among them
abbrev pub times : ℕ → List (ℕ × ℕ) → ℕ
times k sequence = count_by (λ (entry : ℕ × ℕ). entry.1 == k) sequence

-- each of n orders once, and no other
pub record IsSequence (n : ℕ) (sequence : List (ℕ × ℕ)) : Type 0 where
  pub within : All (λ (entry : ℕ × ℕ). entry.1 < n) sequence
  pub once : (k : ℕ) → k < n → times k sequence ≡ 1

-- the units taken in when these orders are whole
abbrev pub taken_in : Table → List (ℕ × ℕ) → ℕ → ℕ
taken_in t done k = times k done * lack_at t k
