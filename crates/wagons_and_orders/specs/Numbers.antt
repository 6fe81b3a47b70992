-- Ascending lists of wagon numbers, each by its digits.
use Rattle.std.specs.Prelude.{ℕ, Bool, not, nat_eq, List, ◌∷◌, ◌++◌}
use Rattle.std.specs.List.{filter}
use Rattle.std.specs.Ordering.{is_lt, nat_cmp}
use Rattle.std.specs.Cmp.Lexicographic.{pointwise, slice_cmp}
use Rattle.std.specs.List.Sorted.{IsStrictlySortedBy}

-- whether another number is below a number
abbrev pub is_below : List ℕ → List ℕ → Bool
is_below number other = is_lt (slice_cmp nat_cmp other number)

-- whether another number is this one
abbrev pub is_number : List ℕ → List ℕ → Bool
is_number number other = pointwise nat_eq other number

-- each number is below those after it
abbrev pub IsAscending : List (List ℕ) → Type 0
IsAscending numbers = IsStrictlySortedBy (slice_cmp nat_cmp) numbers

-- the numbers with one more: those below it, then it, then the others
unfoldable pub with_number : List ℕ → List (List ℕ) → List (List ℕ)
with_number number numbers = filter (is_below number) numbers ++ number ∷ filter (λ other. not (is_below number other)) numbers

-- the numbers but this one
unfoldable pub without_number : List ℕ → List (List ℕ) → List (List ℕ)
without_number number numbers = filter (λ other. not (is_number number other)) numbers
