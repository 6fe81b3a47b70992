-- The first pair that is spent by those before it, looked for from the front.
use Rattle.std.proofs.Common.{◌≡◌, ◌∙◌, ◌<◌, ◌+◌, ℕ, zero, suc, Bool, true, false, cond, List, [], ◌∷◌, ◌++◌, length, Option, Some, None, refl, ap, sym, arith, take, append_assoc, length-append}
use Rattle.std.specs.Prelude.{slice_get, slice_index_or}
use Rattle.std.specs.Option.{option_or}
use Rattle.std.proofs.Math.Seq.{take-append_seam}
use Rattle.cost_table.specs.Table.{Table}
use Rattle.faults.specs.declared.faults.CheckFault.{CheckFault}
use Rattle.faults.specs.declared.faults.CheckFault.TheVariants.{UsedTwice}
use Rattle.price_checker.specs.Faults.{first_below, is_spent, fault_if_spent, spent_at, used_twice}
use Rattle.price_checker.proofs.FirstBelow.{first_from, first_below-from}

-- the first of these pairs that is spent by those before it and by `before`
abbrev pub used_from : Table → List (ℕ × ℕ) → List (ℕ × ℕ) → Option CheckFault
used_from t before [] = None
used_from t before (p ∷ pairs) = cond (is_spent t before p) (Some (UsedTwice p.0 p.1)) (used_from t (before ++ p ∷ []) pairs)

slice_get-seam : {A : Type 0} (xs ys : List A) (y : A) → slice_get (xs ++ y ∷ ys) (length xs) ≡ Some y
slice_get-seam [] ys y = refl
slice_get-seam (x ∷ xs) ys y = slice_get-seam xs ys y

or_cond : {A : Type 0} (b : Bool) (x : A) (rest : Option A) → cond b (Some x) rest ≡ option_or (cond b (Some x) None) rest
or_cond true x rest = refl
or_cond false x rest = refl

here : (t : Table) (before pairs : List (ℕ × ℕ)) (p : ℕ × ℕ) → spent_at t (before ++ p ∷ pairs) (length before) ≡ fault_if_spent t before p
here t before pairs p = rw (slice_get-seam before pairs p, take-append_seam before (p ∷ pairs)) refl

pub used_from-first : (t : Table) (before pairs : List (ℕ × ℕ)) → used_from t before pairs ≡ first_from (length before) (length pairs) (spent_at t (before ++ pairs))
unfolding first_from
used_from-first t before [] = refl
used_from-first t before (p ∷ pairs) =
    let more : length (before ++ p ∷ []) ≡ suc (length before) = omega (arith, length-append before (p ∷ [])) in
    let rest : used_from t (before ++ p ∷ []) pairs ≡ first_from (suc (length before)) (length pairs) (spent_at t (before ++ p ∷ pairs)) =
    used_from-first t (before ++ p ∷ []) pairs
    ∙ ap (λ (n : ℕ). first_from n (length pairs) (spent_at t ((before ++ p ∷ []) ++ pairs))) more
    ∙ ap (λ (all : List (ℕ × ℕ)). first_from (suc (length before)) (length pairs) (spent_at t all)) (append_assoc before (p ∷ []) pairs) in
    rw (rest, here t before pairs p) (or_cond (is_spent t before p) (UsedTwice p.0 p.1) _)

pub used_from-all : (t : Table) (pairs : List (ℕ × ℕ)) → used_from t [] pairs ≡ used_twice t pairs
used_from-all t pairs =
    let none_before : 0 + length pairs ≡ length pairs = omega arith in
    used_from-first t [] pairs ∙ sym (first_below-from 0 (length pairs) (spent_at t pairs)) ∙ ap (λ (n : ℕ). first_below n (spent_at t pairs)) none_before

-- ---- a pair of the list

there : {A : Type 0} (xs : List A) (k : ℕ) (d : A) → k < length xs → slice_get xs k ≡ Some (slice_index_or xs k d)
there [] k d within = absurd (omega arith)
there (x ∷ xs) zero d within = refl
there (x ∷ xs) (suc k) d within = there xs k d (omega arith)

-- what is found at k, by whether the pair there is spent
pub spent_at-there : (t : Table) (pairs : List (ℕ × ℕ)) (k : ℕ) (d : ℕ × ℕ) (b : Bool) → k < length pairs → is_spent t (take k pairs) (slice_index_or pairs k d) ≡ b
    → spent_at t pairs k ≡ cond b (Some (UsedTwice (slice_index_or pairs k d).0 (slice_index_or pairs k d).1)) None
spent_at-there t pairs k d b within spent = rw (there pairs k d within, spent) refl
