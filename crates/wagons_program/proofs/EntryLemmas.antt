-- Entries with an empty line between two, one after the other.
use Rattle.std.proofs.Common.{◌≡◌, ℕ, zero, suc, ◌+◌, ◌==◌, ◌<◌, List, [], ◌∷◌, ◌++◌, length, map, take, get_or, if◌then◌else◌, refl, sym, ap, ◌∙◌, append_assoc, arith}
use Rattle.std.proofs.Math.Dec.{eqb-suc-zero}
use Rattle.std.proofs.lemmas.List.{take_more}
use Rattle.std.specs.List.{join_with_byte}

join_more : (c : ℕ) (y : List ℕ) (ys : List (List ℕ)) (x : List ℕ) → join_with_byte c (y ∷ ys ++ x ∷ []) ≡ join_with_byte c (y ∷ ys) ++ c ∷ x
join_more c y [] x = refl
join_more c y (z ∷ zs) x = ap (λ (t : List ℕ). y ++ c ∷ t) (join_more c z zs x) ∙ sym (append_assoc y (c ∷ join_with_byte c (z ∷ zs)) (c ∷ x))

map_pushed : {X : Type 0} (f : X → List ℕ) (xs : List X) (x : X) → map f (xs ++ x ∷ []) ≡ map f xs ++ f x ∷ []
map_pushed f [] x = refl
map_pushed f (y ∷ ys) x = ap (λ (t : List (List ℕ)). f y ∷ t) (map_pushed f ys x)

-- the first entry alone, and a byte before each other
pub entry_joined : {X : Type 0} (f : X → List ℕ) (c : ℕ) (xs : List X) (i : ℕ) (d : X) (text new : List ℕ) → i < length xs
    → text ≡ join_with_byte c (map f (take i xs)) → new ≡ text ++ (if i == 0 then f (get_or xs i d) else c ∷ f (get_or xs i d))
    → new ≡ join_with_byte c (map f (take (i + 1) xs))
entry_joined f c [] i d text new within before pushed = absurd (omega arith)
entry_joined f c (y ∷ ys) zero d text new within before pushed = pushed ∙ ap (λ (t : List ℕ). t ++ f y) before
entry_joined {X} f c (y ∷ ys) (suc k) d text new within before pushed =
    let x : X = get_or (y ∷ ys) (suc k) d in
    pushed ∙ ap (λ (t : List ℕ). text ++ t) (rw (eqb-suc-zero k) refl) ∙ ap (λ (t : List ℕ). t ++ c ∷ f x) before
    ∙ sym (join_more c (f y) (map f (take k ys)) (f x))
    ∙ ap (join_with_byte c) (sym (map_pushed f (take (suc k) (y ∷ ys)) x) ∙ ap (map f) (sym (take_more (y ∷ ys) (suc k) d within)))
