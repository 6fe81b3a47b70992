use Rattle.std.proofs.Common.{◌≡◌, ◌+◌, ◌<◌, ◌≤◌, ℕ, zero, suc, Option, Some, None, refl, sym, ◌∙◌, ap, arith, inl, inr, subst}
use Rattle.std.specs.Option.{option_or}
use Rattle.std.proofs.Math.Nat.{eq-or-lt_of_le}
use Rattle.price_checker.specs.Faults.{first_below}

-- where neither of two tries finds anything
pub none_first : {A : Type 0} (a b : Option A) → option_or a b ≡ None → a ≡ None
none_first None b h = refl
none_first (Some x) b h = cc

pub none_second : {A : Type 0} (a b : Option A) → option_or a b ≡ None → b ≡ None
none_second None b h = h
none_second (Some x) b h = cc

pub none_both : {A : Type 0} (a b : Option A) → a ≡ None → b ≡ None → option_or a b ≡ None
none_both a b h k = rw h k

or_assoc : {A : Type 0} (a b c : Option A) → option_or a (option_or b c) ≡ option_or (option_or a b) c
or_assoc None b c = refl
or_assoc (Some x) b c = refl

or_none : {A : Type 0} (a : Option A) → option_or a None ≡ a
or_none None = refl
or_none (Some x) = refl

pub none_below : {A : Type 0} (n : ℕ) (f : ℕ → Option A) → first_below n f ≡ None → (k : ℕ) → k < n → f k ≡ None
none_below zero f h k l = absurd (omega arith)
none_below (suc n) f h k l =
    let le : k ≤ n = omega arith in
    elim (eq-or-lt_of_le le) [
      | inl e ↦ subst (λ (x : ℕ). f x ≡ None) (sym e) (none_second (first_below n f) (f n) h)
      | inr less ↦ none_below n f (none_first (first_below n f) (f n) h) k less
    ]

pub first_below_none : {A : Type 0} (n : ℕ) (f : ℕ → Option A) → ((k : ℕ) → k < n → f k ≡ None) → first_below n f ≡ None
first_below_none zero f h = refl
first_below_none (suc n) f h =
    none_both (first_below n f) (f n) (first_below_none n f (λ k l. h k (omega arith))) (h n (omega arith))

-- two functions that are the same below n
pub first_below-same : {A : Type 0} (n : ℕ) (f g : ℕ → Option A) → ((k : ℕ) → k < n → f k ≡ g k) → first_below n f ≡ first_below n g
first_below-same zero f g h = refl
first_below-same (suc n) f g h = rw (first_below-same n f g (λ k l. h k (omega arith)), h n (omega arith)) refl

-- what is found at k, with nothing below it
pub first_below_some : {A : Type 0} (n k : ℕ) (f : ℕ → Option A) (x : A) → k < n → first_below k f ≡ None → f k ≡ Some x → first_below n f ≡ Some x
first_below_some zero k f x l h s = absurd (omega arith)
first_below_some (suc n) k f x l h s =
    let le : k ≤ n = omega arith in
    elim (eq-or-lt_of_le le) [
      | inl e ↦
          let none : first_below n f ≡ None = subst (λ (m : ℕ). first_below m f ≡ None) e h in
          let some : f n ≡ Some x = subst (λ (m : ℕ). f m ≡ Some x) e s in
          rw none some
      | inr less ↦
          let found : first_below n f ≡ Some x = first_below_some n k f x less h s in
          rw found refl
    ]

-- nothing below k, and nothing at k
pub first_below_more : {A : Type 0} (k : ℕ) (f : ℕ → Option A) → first_below k f ≡ None → f k ≡ None → first_below (k + 1) f ≡ None
first_below_more k f h s = first_below_none (k + 1) f (λ m l.
    let le : m ≤ k = omega arith in
    elim (eq-or-lt_of_le le) [
      | inl e ↦ subst (λ (x : ℕ). f x ≡ None) (sym e) s
      | inr less ↦ none_below k f h m less
    ])

-- the same first find, from `start` up
unfoldable pub first_from : {A : Type 0} → ℕ → ℕ → (ℕ → Option A) → Option A
first_from start zero f = None
first_from start (suc n) f = option_or (f start) (first_from (suc start) n f)

pub first_below-from : {A : Type 0} (start n : ℕ) (f : ℕ → Option A) → first_below (start + n) f ≡ option_or (first_below start f) (first_from start n f)
unfolding first_from
first_below-from start zero f =
    let same : start + zero ≡ start = omega arith in
    ap (λ m. first_below m f) same ∙ sym (or_none (first_below start f))
first_below-from start (suc n) f =
    let i : first_below (suc start + n) f ≡ option_or (option_or (first_below start f) (f start)) (first_from (suc start) n f) = first_below-from (suc start) n f in
    let same : start + suc n ≡ suc start + n = omega arith in
    ap (λ m. first_below m f) same ∙ i ∙ sym (or_assoc (first_below start f) (f start) (first_from (suc start) n f))

pub first_from-same : {A : Type 0} (start n : ℕ) (f g : ℕ → Option A) → ((k : ℕ) → start ≤ k → f k ≡ g k) → first_from start n f ≡ first_from start n g
unfolding first_from
first_from-same start zero f g h = refl
first_from-same start (suc n) f g h =
    let here : f start ≡ g start = h start (omega arith) in
    let rest : first_from (suc start) n f ≡ first_from (suc start) n g = first_from-same (suc start) n f g (λ k l. h k (omega arith)) in
    rw (here, rest) refl
