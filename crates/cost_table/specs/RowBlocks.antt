-- Rows that lie one after another in one list.
use Rattle.std.specs.Prelude.{◌≡◌, ◌≤◌, ℕ, List, [], ◌∷◌, length, slice_range}

-- the rows that lie one after another in `entries`, each from the end of the one before to its own end
abbrev pub rows_of : List (ℕ × ℕ) → ℕ → List ℕ → List (List (ℕ × ℕ))
rows_of entries start [] = []
rows_of entries start (end ∷ ends) = slice_range entries start end ∷ rows_of entries end ends

-- ends that ascend, from `start` to at most `limit`
abbrev pub AreEnds : ℕ → ℕ → List ℕ → Type 0
AreEnds limit start [] = Unit {0}
AreEnds limit start (end ∷ ends) = (start ≤ end) × (end ≤ limit) × AreEnds limit end ends

-- the last of the ends, or `start` where there is none
abbrev pub last_end : ℕ → List ℕ → ℕ
last_end start [] = start
last_end start (end ∷ ends) = last_end end ends

-- `entries` and `ends` hold these rows and nothing else
pub record HoldRows (entries : List (ℕ × ℕ)) (ends : List ℕ) (rows : List (List (ℕ × ℕ))) : Type 0 where
  pub rows_are : rows_of entries 0 ends ≡ rows
  pub ends_ascend : AreEnds (length entries) 0 ends
  pub last : last_end 0 ends ≡ length entries
