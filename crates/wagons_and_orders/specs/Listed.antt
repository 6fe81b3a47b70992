-- Whether a class is listed.
use Rattle.std.specs.Prelude.{ℕ, Bool, List, nat_eq}
use Rattle.std.specs.List.{list_any}
use Rattle.std.specs.Cmp.Lexicographic.{pointwise}

-- whether a class is listed, as a whole text
abbrev pub is_listed : List (List ℕ) → List ℕ → Bool
is_listed classes class = list_any (λ other. pointwise nat_eq other class) classes
