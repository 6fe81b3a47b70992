-- The span of the groups that lead on.
use Rattle.std.proofs.Common.{◌≡◌, ◌+◌, ◌-◌, ◌<◌, ◌≤◌, ℕ, List, length, get_or, set, arith, inl, inr, ap, ◌∙◌}
use Rattle.std.proofs.lemmas.Bool.{cases_eq}
use Rattle.assignment.specs.declared.passes.Span.{Span}
use Rattle.assignment.specs.inner.Passes.{IsSpanOf}
use Rattle.assignment.proofs.Writes.{same_at, other_at, written_length}

abbrev pub span_of : ℕ → ℕ → Span
span_of start end = record { start = start; end = end }

-- the span of all groups
pub span_of_all : (numbers : List ℕ) (n : ℕ) → n ≡ length numbers → IsSpanOf numbers (span_of 0 n)
span_of_all numbers n e = record { ordered = omega arith; within = omega (arith, e); from = λ g l leads. omega arith; before = λ g l leads. omega (arith, e, l) }

-- the groups before a span, and those after it, don't lead on
pub none_before : (numbers : List ℕ) (span : Span) (g : ℕ) → IsSpanOf numbers span → g < span.start → get_or numbers g 0 ≡ 0
none_before numbers span g h l = elim (cases_eq (get_or numbers g 0) 0) [
  | inl none ↦ none
  | inr some ↦ absurd (let a = h.ordered in let b = h.within in let from = h.from g (omega (arith, l, a, b)) (omega (arith, some)) in omega (arith, from, l))
]

pub none_after : (numbers : List ℕ) (span : Span) (g : ℕ) → IsSpanOf numbers span → span.end ≤ g → g < length numbers → get_or numbers g 0 ≡ 0
none_after numbers span g h le l = elim (cases_eq (get_or numbers g 0) 0) [
  | inl none ↦ none
  | inr some ↦ absurd (let before = h.before g l (omega (arith, some)) in omega (arith, before, le))
]

-- a span holds as long as no group more leads on
pub span_kept : (old new : List ℕ) (span : Span) → IsSpanOf old span → length new ≡ length old → ((g : ℕ) → g < length old → 0 < get_or new g 0 → 0 < get_or old g 0) → IsSpanOf new span
span_kept old new span h count fewer =
    let within = h.within in
    record {
      ordered = h.ordered;
      within = omega (arith, within, count);
      from = λ g l leads. let lo : g < length old = omega (arith, l, count) in h.from g lo (fewer g lo leads);
      before = λ g l leads. let lo : g < length old = omega (arith, l, count) in h.before g lo (fewer g lo leads);
    }

-- so it does where a group is closed
pub span_closed : (old new : List ℕ) (span : Span) (group : ℕ) → IsSpanOf old span → group < length old → new ≡ set old group 0 → IsSpanOf new span
span_closed old new span group h lg e = span_kept old new span h (written_length old new group 0 e) (λ g l leads. elim (cases_eq g group) [
  | inl same ↦ absurd (let at : get_or new g 0 ≡ 0 = ap (λ x. get_or new x 0) same ∙ same_at old new group 0 0 lg e in omega (arith, at, leads))
  | inr other ↦ let at = other_at old new group 0 0 g e other in omega (arith, at, leads)
])

-- a span needs no group at its ends that doesn't lead on
pub starts_later : (numbers : List ℕ) (start end : ℕ) → IsSpanOf numbers (span_of start end) → start < end → get_or numbers start 0 ≡ 0 → IsSpanOf numbers (span_of (start + 1) end)
starts_later numbers start end h less none = record {
  ordered = omega (arith, less);
  within = h.within;
  from = λ g l leads. elim (cases_eq g start) [
    | inl same ↦ absurd (let at = ap (λ x. get_or numbers x 0) same in omega (arith, at, none, leads))
    | inr other ↦ let from = h.from g l leads in omega (arith, from, other)
  ];
  before = h.before;
}

pub ends_sooner : (numbers : List ℕ) (start end : ℕ) → IsSpanOf numbers (span_of start end) → start < end → get_or numbers (end - 1) 0 ≡ 0 → IsSpanOf numbers (span_of start (end - 1))
ends_sooner numbers start end h less none =
    let within = h.within in
    record {
      ordered = omega (arith, less);
      within = omega (arith, within);
      from = h.from;
      before = λ g l leads. elim (cases_eq g (end - 1)) [
        | inl same ↦ absurd (let at = ap (λ x. get_or numbers x 0) same in omega (arith, at, none, leads))
        | inr other ↦ let before = h.before g l leads in omega (arith, before, other)
      ];
    }
