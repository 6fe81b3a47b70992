-- Lines in the order of their origins, and those that begin at a place.
use Rattle.std.proofs.Common.{◌≡◌, ℕ, [], ◌∷◌, ◌++◌, true, false, ltb, subst, ◌+◌, ◌-◌, ◌<◌, ◌≤◌, List, length, take, drop, refl, sym, ◌∙◌, arith, ap, inl, inr, get_or, map}
use Rattle.std.specs.List.{All, AllWithin, Contains}
use Rattle.std.specs.List.Sorted.{IsPartitionPoint}
use Rattle.std.proofs.lemmas.Bool.{cases_lt, ltb-true, ltb-false}
use Rattle.std.proofs.lemmas.List.{get_or_append_left, get_or_push, length_push, get_or-take, get_or-drop, get_or_read, length-take-le, length-drop, length-map, get_or-map, take-map, drop-map}
use Rattle.std.proofs.lemmas.List.Elements.{All-map, All-same, All-weaker, Contains-get_or}
use Rattle.line_network.specs.declared.line.Line.{Line}
use Rattle.line_network.specs.declared.step.Step.{Step}
use Rattle.line_network.specs.inner.Starts.{AreStarts}
use Rattle.line_network.specs.inner.Steps.{step_along, IsStepFrom}

some_line : Line
some_line = record { from = 0; to = 0; km = 0; minutes = 0 }

-- the lines of the place k stand from s to e
module _ (lines : List Line) (starts : List ℕ) (k s e : ℕ) (h : AreStarts lines starts) (l : k + 1 < length starts) (at_s : s ≡ get_or starts k s) (at_e : e ≡ get_or starts (k + 1) e) where
  from_s : s ≡ get_or starts k 0
  from_s = get_or_read starts k s (omega arith) at_s 0

  from_e : e ≡ get_or starts (k + 1) 0
  from_e = get_or_read starts (k + 1) e l at_e 0

  pub end_within : e ≤ length lines
  end_within = omega (arith, from_e, h.within (k + 1) l)

  start_within : s ≤ length lines
  start_within = omega (arith, from_s, h.within k (omega arith))

  earlier : (j : ℕ) (d : Line) → j < s → (get_or lines j d).from < k
  earlier j d m = h.before k (omega arith) j d (omega arith) (omega (arith, from_s))

  not_earlier : (j : ℕ) (d : Line) → s ≤ j → j < length lines → k ≤ (get_or lines j d).from
  not_earlier j d m within = h.behind k (omega arith) j d (omega (arith, from_s)) within

  not_later : (j : ℕ) (d : Line) → j < e → (get_or lines j d).from < k + 1
  not_later j d m = h.before (k + 1) l j d (omega arith) (omega (arith, from_e))

  later : (j : ℕ) (d : Line) → e ≤ j → j < length lines → k + 1 ≤ (get_or lines j d).from
  later j d m within = h.behind (k + 1) l j d (omega (arith, from_e)) within

  pub start_first : s ≤ e
  start_first = elim (cases_lt e s) [
    | inl back ↦ absurd (omega (arith, start_within, earlier e some_line back, later e some_line (omega arith) (omega (arith, start_within))))
    | inr first ↦ first
  ]

  length-part : length (take (e - s) (drop s lines)) ≡ e - s
  length-part = length-take-le (e - s) (drop s lines) (omega (arith, length-drop s lines, end_within))

  part_at : (j : ℕ) (d : Line) → j < e - s → get_or (take (e - s) (drop s lines)) j d ≡ get_or lines (s + j) d
  part_at j d m = get_or-take (e - s) (drop s lines) j d m ∙ get_or-drop s lines j d

  -- they begin at that place
  pub own_lines : All (λ line. Contains lines line × (line.from ≡ k)) (take (e - s) (drop s lines))
  own_lines j d m =
      let short : j < e - s = omega (arith, length-part) in
      let most : e ≤ length lines = end_within in
      rw (part_at j d short) (Contains-get_or lines (s + j) d (omega arith), omega (arith, not_later (s + j) d (omega arith), not_earlier (s + j) d (omega arith) (omega arith)))

  -- and no other line does
  pub all_lines : (line : Line) → Contains lines line → line.from ≡ k → Contains (take (e - s) (drop s lines)) line
  all_lines line has from =
      let same : (get_or lines has.0 line).from ≡ line.from = ap (λ (x : Line). x.from) has.2 in
      elim (cases_lt has.0 s) [
        | inl early ↦ absurd (omega (arith, earlier has.0 line early))
        | inr late ↦ elim (cases_lt has.0 e) [
          | inl within ↦ (let there : s + (has.0 - s) ≡ has.0 = omega arith in
              (has.0 - s, omega (arith, length-part), part_at (has.0 - s) line (omega arith) ∙ (ap (λ (n : ℕ). get_or lines n line) there ∙ has.2)))
          | inr past ↦ absurd (omega (arith, later has.0 line past has.1))
        ]
      ]

  -- the same without their origins
  module _ (steps : List Step) (same : steps ≡ map step_along lines) where
    part_of_steps : take (e - s) (drop s steps) ≡ map step_along (take (e - s) (drop s lines))
    part_of_steps = ap (λ xs. take (e - s) (drop s xs)) same ∙ (ap (take (e - s)) (drop-map step_along s lines) ∙ take-map step_along (e - s) (drop s lines))

    pub end_of_steps : e ≤ length steps
    end_of_steps = omega (arith, end_within, ap length same, length-map lines step_along)

    pub own_steps : All (IsStepFrom lines k) (take (e - s) (drop s steps))
    own_steps =
        All-same (IsStepFrom lines k) _ _ part_of_steps
        (All-map (IsStepFrom lines k) step_along (take (e - s) (drop s lines))
        (All-weaker (λ line. Contains lines line × (line.from ≡ k)) (λ line. IsStepFrom lines k (step_along line))
        (λ line h. record { line = line; has = h.0; from = h.1; same = refl })
        (take (e - s) (drop s lines)) own_lines))

    pub all_steps : (line : Line) → Contains lines line → line.from ≡ k → Contains (take (e - s) (drop s steps)) (step_along line)
    all_steps line has from =
        let part = all_lines line has from in
        let P : List Step → Type 0 = λ xs. Contains xs (step_along line) in
        subst P (sym part_of_steps)
        (part.0, omega (arith, part.1, length-map (take (e - s) (drop s lines)) step_along), get_or-map step_along (take (e - s) (drop s lines)) part.0 line (step_along line) part.1 ∙ ap step_along part.2)

-- a fact of each start and of one more
each_start : (starts : List ℕ) (place s : ℕ) → length starts ≡ place → (P : ℕ → ℕ → Type 0) → ((k : ℕ) → k < length starts → P k (get_or starts k 0)) → P place s → (k : ℕ) → k < length (starts ++ s ∷ []) → P k (get_or (starts ++ s ∷ []) k 0)
each_start starts place s same P each here k l = elim (cases_lt k (length starts)) [
  | inl before ↦ subst (P k) (sym (get_or_append_left starts (s ∷ []) 0 k before)) (each k before)
  | inr last ↦ (let at : k ≡ place = omega (arith, length_push starts s) in
      let Q : ℕ → Type 0 = λ n. P n (get_or (starts ++ s ∷ []) n 0) in
      subst Q (sym at) (subst (P place) (sym (get_or_push starts s 0 place same)) here))
]

-- one start more: how many lines begin before the place
pub AreStarts-push : (lines : List Line) (starts : List ℕ) (place s : ℕ) → AreStarts lines starts → length starts ≡ place → s ≤ length lines → IsPartitionPoint (λ l. ltb l.from place ≡ true) (λ l. ltb l.from place ≡ false) lines s → AreStarts lines (starts ++ s ∷ [])
AreStarts-push lines starts place s h same most point = record {
  within = each_start starts place s same (λ k n. n ≤ length lines) h.within most;
  before = each_start starts place s same (λ k n. AllWithin (λ l. l.from < k) lines 0 n) h.before (λ j d low high. ltb-true _ _ (point.0 j d low high));
  behind = each_start starts place s same (λ k n. AllWithin (λ l. k ≤ l.from) lines n (length lines)) h.behind (λ j d low high. ltb-false _ _ (point.1 j d low high));
}
