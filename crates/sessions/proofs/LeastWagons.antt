-- The least of the wagons of which something holds.
use Rattle.std.proofs.Common.{◌≡◌, ◌≢◌, ◌∙◌, ◌+◌, ◌<◌, ◌≤◌, ◌||◌, ◌⊎◌, ◌++◌, ℕ, zero, suc, Bool, true, false, List, [], ◌∷◌, length, take, refl, sym, ap, subst, arith, inl, inr}
use Rattle.std.specs.Prelude.{Option, Some, None, IfSome, IfNone, slice_get, if◌then◌else◌, nat_eq}
use Rattle.std.specs.Cmp.Lexicographic.{pointwise, slice_cmp, bytes_decides}
use Rattle.std.specs.List.{list_any}
use Rattle.std.specs.declared.cmp.Ordering.{Ordering}
use Rattle.std.specs.Ordering.{nat_cmp, is_gt, is_lt, ordering_reverse}
use Rattle.std.specs.declared.cmp.Ordering.TheVariants.{Less, Equal, Greater}
use Rattle.std.proofs.lemmas.Cmp.{nat_list_cmp_total, tied_itself, upto}
use Rattle.wagons_and_orders.specs.Numbers.{is_below}
use Rattle.sessions.specs.inner.Crossings.{IsLeast, least_of}

-- ---- the order of wagons

below_turned : (o p : Ordering) → o ≡ ordering_reverse p → is_lt o ≡ is_gt p
below_turned Less Less h = absurd cc
below_turned Less Equal h = absurd cc
below_turned Less Greater h = refl
below_turned Equal Less h = absurd cc
below_turned Equal Equal h = refl
below_turned Equal Greater h = absurd cc
below_turned Greater Less h = refl
below_turned Greater Equal h = absurd cc
below_turned Greater Greater h = absurd cc

-- another wagon is below one where that one is above it
is_above : (wagon other : List ℕ) → is_below wagon other ≡ is_gt (slice_cmp nat_cmp wagon other)
is_above wagon other = below_turned (slice_cmp nat_cmp other wagon) (slice_cmp nat_cmp wagon other) (nat_list_cmp_total.antisymm other wagon)

pub not_below_itself : (wagon : List ℕ) → is_below wagon wagon ≡ false
not_below_itself wagon = ap is_lt (tied_itself nat_list_cmp_total wagon)

not_below : (one mid other : List ℕ) → is_below one mid ≡ false → is_below mid other ≡ false → is_below one other ≡ false
not_below one mid other h k = is_above one other ∙ upto nat_list_cmp_total one mid other (sym (is_above one mid) ∙ h) (sym (is_above mid other) ∙ k)

lt_not_gt : (o : Ordering) → is_lt o ≡ true → is_gt o ≡ false
lt_not_gt Less h = refl
lt_not_gt Equal h = absurd cc
lt_not_gt Greater h = absurd cc

-- where the second is below the first, the first isn't below the second
below_once : (first second : List ℕ) → is_below first second ≡ true → is_below second first ≡ false
below_once first second h = is_above second first ∙ lt_not_gt (slice_cmp nat_cmp second first) h

-- ---- the least of two

both_least : (P Q R : List ℕ → Type 0) (first second : List ℕ) (b : Bool) → is_below first second ≡ b → ((wagon : List ℕ) → P wagon → R wagon) → ((wagon : List ℕ) → Q wagon → R wagon)
    → ((wagon : List ℕ) → R wagon → P wagon ⊎ Q wagon) → IsLeast P (Some first) → IsLeast Q (Some second) → IsLeast R (if b then Some second else Some first)
both_least P Q R first second true is from_one from_other split one other = (
  from_other second other.0,
  λ wagon holds. elim (split wagon holds) [
    | inl p ↦ not_below second first wagon (below_once first second is) (one.1 wagon p)
    | inr q ↦ other.1 wagon q
  ],
)
both_least P Q R first second false is from_one from_other split one other = (
  from_one first one.0,
  λ wagon holds. elim (split wagon holds) [
    | inl p ↦ one.1 wagon p
    | inr q ↦ not_below first second wagon is (other.1 wagon q)
  ],
)

pub least_both : (P Q R : List ℕ → Type 0) (one other : Option (List ℕ)) → ((wagon : List ℕ) → P wagon → R wagon) → ((wagon : List ℕ) → Q wagon → R wagon)
    → ((wagon : List ℕ) → R wagon → P wagon ⊎ Q wagon) → IsLeast P one → IsLeast Q other → IsLeast R (least_of one other)
least_both P Q R None None from_one from_other split one other = λ wagon holds. elim (split wagon holds) [
  | inl p ↦ one wagon p
  | inr q ↦ other wagon q
]
least_both P Q R None (Some second) from_one from_other split one other = (
  from_other second other.0,
  λ wagon holds. elim (split wagon holds) [
    | inl p ↦ absurd (one wagon p)
    | inr q ↦ other.1 wagon q
  ],
)
least_both P Q R (Some first) None from_one from_other split one other = (
  from_one first one.0,
  λ wagon holds. elim (split wagon holds) [
    | inl p ↦ one.1 wagon p
    | inr q ↦ absurd (other wagon q)
  ],
)
least_both P Q R (Some first) (Some second) from_one from_other split one other = both_least P Q R first second (is_below first second) refl from_one from_other split one other

-- the least where the same wagons are meant
pub least_same : (P Q : List ℕ → Type 0) (least : Option (List ℕ)) → ((wagon : List ℕ) → P wagon → Q wagon) → ((wagon : List ℕ) → Q wagon → P wagon) → IsLeast P least → IsLeast Q least
least_same P Q None there back least = λ wagon holds. least wagon (back wagon holds)
least_same P Q (Some first) there back least = (there first least.0, λ wagon holds. least.1 wagon (back wagon holds))
