-- Groups that lead on are closed one after the other, until none does.
use Rattle.std.proofs.Common.{◌≡◌, ◌+◌, ◌<◌, ◌≤◌, ℕ, Bool, cond, ltb, List, length, get_or, set, refl, arith, inl, inr}
use Rattle.std.specs.List.{count_by}
use Rattle.std.proofs.lemmas.List.Sums.{sum_by-set}
use Rattle.std.proofs.lemmas.Bool.{cases_eq}
use Rattle.std.proofs.lemmas.Bool.Decides.{nat_tests}
use Rattle.assignment.specs.declared.passes.Span.{Span}
use Rattle.assignment.specs.declared.search.Search.{Search}
use Rattle.assignment.specs.inner.Passes.{IsNearest, IsSpanOf}
use Rattle.assignment.specs.inner.Search.{ahead_of}

-- a group leads on where its number isn't 0
abbrev pub leads_on : ℕ → Bool
leads_on ahead = ltb 0 ahead

abbrev one_leading : ℕ → ℕ
one_leading ahead = cond (leads_on ahead) 1 0

leading_one : (a : ℕ) → 0 < a → one_leading a ≡ 1
leading_one a h = grind (arith, nat_tests, h)

leading_none : (a : ℕ) → a ≡ 0 → one_leading a ≡ 0
leading_none a h = grind (arith, nat_tests, h)

-- one that is closed leads on no more
pub fewer_lead : (xs : List ℕ) (g : ℕ) → g < length xs → 0 < get_or xs g 0 → count_by leads_on (set xs g 0) < count_by leads_on xs
fewer_lead xs g l leads =
    let s = sum_by-set one_leading xs g 0 0 l in
    let a = leading_one (get_or xs g 0) leads in
    let b = leading_none 0 refl in
    omega (arith, s, a, b)

-- where no group of a span is at the least distance, the span doesn't begin where the groups that lead on do
pub starts_after : (f : Search) (span : Span) (onward : ℕ) → IsSpanOf f.ahead.items f.span → f.span.start ≤ span.start → span.end ≡ f.span.end → (span.start ≡ f.span.start → IsNearest (λ g. ahead_of f g) onward (length f.ahead.items)) → onward < 4294967295 → ((g : ℕ) → span.start ≤ g → g < span.end → ahead_of f g ≡ onward + 1 → ⊥) → f.span.start < span.start
starts_after f span onward whole from before nearest near none = elim (cases_eq span.start f.span.start) [
  | inl same ↦ absurd (
      let at = (nearest same).attained near in
      let is = at.is in
      let start = whole.from at.index at.within (omega (arith, is)) in
      let end = whole.before at.index at.within (omega (arith, is)) in
      none at.index (omega (arith, same, start)) (omega (arith, end, before)) is)
  | inr other ↦ omega (arith, other, from)
]
