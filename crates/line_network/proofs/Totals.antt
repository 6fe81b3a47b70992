-- Sums and counts over two lists, where no term of the one is above that of the other.
use Rattle.std.proofs.Common.{◌≡◌, ℕ, ◌<◌, ◌≤◌, zero, suc, Bool, true, false, cond, List, [], ◌∷◌, length, refl, arith, get_or}
use Rattle.std.specs.List.{sum_by, count_by}
use Rattle.std.proofs.lemmas.List.Sums.{sum_by-cons}

-- a sum does not fall where no term does
pub sum_by-mono : {X : Type 0} (f g : X → ℕ) (d : X) (xs ys : List X) → length ys ≡ length xs → ((k : ℕ) → k < length xs → f (get_or xs k d) ≤ g (get_or ys k d)) → sum_by f xs ≤ sum_by g ys
sum_by-mono f g d [] [] same h = omega arith
sum_by-mono f g d [] (y ∷ ys) same h = omega arith
sum_by-mono f g d (x ∷ xs) [] same h = absurd (omega arith)
sum_by-mono f g d (x ∷ xs) (y ∷ ys) same h =
    let here : f x ≤ g y = h 0 (omega arith) in
    let there : sum_by f xs ≤ sum_by g ys = sum_by-mono f g d xs ys (omega arith) (λ k l. h (suc k) (omega arith)) in
    omega (arith, sum_by-cons f x xs, sum_by-cons g y ys)

-- and it rises where one does
pub sum_by-more : {X : Type 0} (f g : X → ℕ) (d : X) (xs ys : List X) (u : ℕ) → length ys ≡ length xs → u < length xs → ((k : ℕ) → k < length xs → f (get_or xs k d) ≤ g (get_or ys k d)) → f (get_or xs u d) < g (get_or ys u d) → sum_by f xs < sum_by g ys
sum_by-more f g d [] ys u same l h more = absurd (omega arith)
sum_by-more f g d (x ∷ xs) [] u same l h more = absurd (omega arith)
sum_by-more f g d (x ∷ xs) (y ∷ ys) zero same l h more =
    let there : sum_by f xs ≤ sum_by g ys = sum_by-mono f g d xs ys (omega arith) (λ k l. h (suc k) (omega arith)) in
    omega (arith, more, sum_by-cons f x xs, sum_by-cons g y ys)
sum_by-more f g d (x ∷ xs) (y ∷ ys) (suc u) same l h more =
    let here : f x ≤ g y = h 0 (omega arith) in
    let there : sum_by f xs < sum_by g ys = sum_by-more f g d xs ys u (omega arith) (omega arith) (λ k l. h (suc k) (omega arith)) more in
    omega (arith, sum_by-cons f x xs, sum_by-cons g y ys)

cond_le : (a b : Bool) → (a ≡ true → b ≡ true) → cond a 1 0 ≤ cond b 1 0
cond_le false b h = omega arith
cond_le true false h = absurd (let e : false ≡ true = h refl in cc)
cond_le true true h = omega arith

cond_lt : (a b : Bool) → a ≡ false → b ≡ true → cond a 1 0 < cond b 1 0
cond_lt false true h k = omega arith
cond_lt false false h k = absurd (let e : false ≡ true = k in cc)
cond_lt true b h k = absurd (let e : true ≡ false = h in cc)

-- the same of a count
pub count_by-mono : {X : Type 0} (p q : X → Bool) (d : X) (xs ys : List X) → length ys ≡ length xs → ((k : ℕ) → k < length xs → p (get_or xs k d) ≡ true → q (get_or ys k d) ≡ true) → count_by p xs ≤ count_by q ys
count_by-mono p q d xs ys same h =
    sum_by-mono (λ x. cond (p x) 1 0) (λ x. cond (q x) 1 0) d xs ys same (λ k l. cond_le (p (get_or xs k d)) (q (get_or ys k d)) (h k l))

pub count_by-more : {X : Type 0} (p q : X → Bool) (d : X) (xs ys : List X) (u : ℕ) → length ys ≡ length xs → u < length xs → ((k : ℕ) → k < length xs → p (get_or xs k d) ≡ true → q (get_or ys k d) ≡ true) → p (get_or xs u d) ≡ false → q (get_or ys u d) ≡ true → count_by p xs < count_by q ys
count_by-more p q d xs ys u same l h fails passes =
    sum_by-more (λ x. cond (p x) 1 0) (λ x. cond (q x) 1 0) d xs ys u same l (λ k m. cond_le (p (get_or xs k d)) (q (get_or ys k d)) (h k m)) (cond_lt (p (get_or xs u d)) (q (get_or ys u d)) fails passes)
