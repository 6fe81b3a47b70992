use Rattle.std.proofs.Common.{◌≡◌, ◌≢◌, ◌<◌, ℕ, List, length, get_or, set, ◌∙◌, ap, get_or-set_same, get_or-set_other}
use Rattle.std.proofs.lemmas.List.{length-set}

-- a list with one item written anew
pub same_at : {X : Type 0} (xs ys : List X) (i : ℕ) (y d : X) → i < length xs → ys ≡ set xs i y → get_or ys i d ≡ y
same_at xs ys i y d l e = ap (λ zs. get_or zs i d) e ∙ get_or-set_same xs i y d l

pub other_at : {X : Type 0} (xs ys : List X) (i : ℕ) (y d : X) (j : ℕ) → ys ≡ set xs i y → j ≢ i → get_or ys j d ≡ get_or xs j d
other_at xs ys i y d j e n = ap (λ zs. get_or zs j d) e ∙ get_or-set_other xs i j y d n

pub written_length : {X : Type 0} (xs ys : List X) (i : ℕ) (y : X) → ys ≡ set xs i y → length ys ≡ length xs
written_length xs ys i y e = ap length e ∙ length-set xs i y
