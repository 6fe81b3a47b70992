use Rattle.std.proofs.Common.{◌≡◌, ◌+◌, ◌*◌, ◌<◌, ◌≤◌, ℕ, zero, suc, cond, List, [], ◌∷◌, refl, arith, inl, inr}
use Rattle.std.specs.Prelude.{◌==◌, ◌≢◌}
use Rattle.std.specs.List.{count_by, sum_by}
use Rattle.std.proofs.lemmas.List.Sums.{sum_by-cons}
use Rattle.std.proofs.lemmas.Bool.Decides.{nat_tests}
use Rattle.std.proofs.Math.Nat.{eq-or-lt_of_le}
use Rattle.cost_table.specs.Plan.{sum_below}

pub sum_below-le : (n : ℕ) (f g : ℕ → ℕ) → ((k : ℕ) → k < n → f k ≤ g k) → sum_below n f ≤ sum_below n g
sum_below-le zero f g h = omega arith
sum_below-le (suc n) f g h =
    let i : sum_below n f ≤ sum_below n g = sum_below-le n f g (λ k l. h k (omega arith)) in
    let e : f n ≤ g n = h n (omega arith) in
    omega arith

pub sum_below-same : (n : ℕ) (f g : ℕ → ℕ) → ((k : ℕ) → k < n → f k ≡ g k) → sum_below n f ≡ sum_below n g
sum_below-same zero f g h = refl
sum_below-same (suc n) f g h =
    let i : sum_below n f ≡ sum_below n g = sum_below-same n f g (λ k l. h k (omega arith)) in
    let e : f n ≡ g n = h n (omega arith) in
    omega arith

pub sum_below-add : (n : ℕ) (f g : ℕ → ℕ) → sum_below n (λ k. f k + g k) ≡ sum_below n f + sum_below n g
sum_below-add zero f g = omega arith
sum_below-add (suc n) f g = omega (arith, sum_below-add n f g)

pub sum_below-zero : (n : ℕ) (f : ℕ → ℕ) → ((k : ℕ) → k < n → f k ≡ 0) → sum_below n f ≡ 0
sum_below-zero zero f h = refl
sum_below-zero (suc n) f h =
    let i : sum_below n f ≡ 0 = sum_below-zero n f (λ k l. h k (omega arith)) in
    let e : f n ≡ 0 = h n (omega arith) in
    omega arith

-- a term that is there at one number only
term : ℕ → (ℕ → ℕ) → ℕ → ℕ
term k f j = cond (k == j) 1 0 * f j

pub term-other : (k j : ℕ) (f : ℕ → ℕ) → k ≢ j → cond (k == j) 1 0 * f j ≡ 0
term-other k j f h = grind (arith, nat_tests, h)

pub term-same : (k j : ℕ) (f : ℕ → ℕ) → k ≡ j → cond (k == j) 1 0 * f j ≡ f k
term-same k j f h = grind (arith, nat_tests, h)

pub sum_below-at : (n k : ℕ) (f : ℕ → ℕ) → k < n → sum_below n (λ j. cond (k == j) 1 0 * f j) ≡ f k
sum_below-at zero k f h = absurd (omega arith)
sum_below-at (suc n) k f h =
    let le : k ≤ n = omega arith in
    elim (eq-or-lt_of_le le) [
      | inr l ↦ let i = sum_below-at n k f l in let e = term-other k n f (λ q. omega arith) in omega arith
      | inl e ↦
          let z = sum_below-zero n (λ j. cond (k == j) 1 0 * f j) (λ j l. term-other k j f (λ q. omega arith)) in
          let t = term-same k n f e in omega arith
    ]

abbrev pub AllBelow : (ℕ × ℕ → ℕ) → ℕ → List (ℕ × ℕ) → Type 0
AllBelow key n [] = Unit {0}
AllBelow key n (p ∷ ps) = (key p < n) × AllBelow key n ps

pub distributes : (a b c : ℕ) → (a + b) * c ≡ a * c + b * c
distributes a b c = grind arith

-- each number weighed by how often it is a key, added up, is each item weighed by its key
pub double_count : (key : ℕ × ℕ → ℕ) (f : ℕ → ℕ) (n : ℕ) (ps : List (ℕ × ℕ)) → AllBelow key n ps → sum_below n (λ j. count_by (λ (p : ℕ × ℕ). key p == j) ps * f j) ≡ sum_by (λ (p : ℕ × ℕ). f (key p)) ps
double_count key f n [] h = sum_below-zero n (λ j. 0 * f j) (λ j l. omega arith)
double_count key f n (p ∷ ps) h =
    let i = double_count key f n ps h.1 in
    let each = sum_below-same n (λ j. count_by (λ (q : ℕ × ℕ). key q == j) (p ∷ ps) * f j) (λ j. cond (key p == j) 1 0 * f j + count_by (λ (q : ℕ × ℕ). key q == j) ps * f j)
    (λ j l. rw (sum_by-cons (λ (q : ℕ × ℕ). cond (key q == j) 1 0) p ps) (distributes (cond (key p == j) 1 0) (count_by (λ (q : ℕ × ℕ). key q == j) ps) (f j))) in
    let parts = sum_below-add n (λ j. cond (key p == j) 1 0 * f j) (λ j. count_by (λ (q : ℕ × ℕ). key q == j) ps * f j) in
    let one = sum_below-at n (key p) f h.0 in
    let cons = sum_by-cons (λ (q : ℕ × ℕ). f (key q)) p ps in
    omega (arith, each, parts, one, cons, i)
