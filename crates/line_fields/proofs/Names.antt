-- Names that differ.
use Rattle.std.proofs.Common.{◌≡◌, ℕ, Bool, true, false, nat_eq, List, refl, sym}
use Rattle.std.specs.Cmp.Lexicographic.{pointwise, same_text}

false_by : (b : Bool) → (b ≡ true → ⊥) → b ≡ false
false_by true other = absurd (other refl)
false_by false other = refl

pub differs : (a b : List ℕ) → (b ≡ a → ⊥) → pointwise nat_eq a b ≡ false
differs a b other = false_by (pointwise nat_eq a b) (λ e. other (sym (same_text a b (sym e))))
