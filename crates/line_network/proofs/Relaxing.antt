-- Relaxing a line: labels stay those of paths, and what is left to do falls.
use Rattle.std.proofs.Common.{◌≡◌, ℕ, suc, ◌+◌, ◌*◌, ◌^◌, ◌<◌, ◌≤◌, ◌⊎◌, true, false, List, ◌∷◌, length, refl, sym, ◌∙◌, subst, arith, inl, inr, Some, None, Option, get_or, set, length-set, get_or-set_same, get_or-set_other}
use Rattle.std.specs.List.{All, AllWithin, Contains}
use Rattle.std.specs.List.Sorted.{IsPermutation}
use Rattle.std.proofs.lemmas.Bool.{cases_eq, cases_lt}
use Rattle.std.proofs.lemmas.List.{get_or_past, get_or_default}
use Rattle.std.proofs.lemmas.Option.{none-some, same_Some}
use Rattle.std.proofs.lemmas.List.Elements.{All-cons, All-contains, AllWithin-more}
use Rattle.std.proofs.lemmas.List.Sorted.{All-permutation, Contains-permutation, length_permutation}
use Rattle.std.proofs.lemmas.List.Sums.{sum_by-set, count_by-le-length}
use Rattle.line_network.specs.declared.line.Line.{Line}
use Rattle.line_network.specs.NetworkLimits.{IsLine}
use Rattle.line_network.specs.inner.Lengths.{Distance}
use Rattle.line_network.specs.declared.step.Step.{Step}
use Rattle.line_network.specs.inner.Steps.{IsStepFrom, line_from}
use Rattle.line_network.specs.inner.Turns.{Waiting, entry}
use Rattle.line_network.specs.inner.Rows.{IsPathPair}
use Rattle.line_network.specs.inner.Search.{plus_line, label_at, LabelAtMost, LabelAbove, IsBelow, is_label_below, below_count, AreBounded, AreLabels, IsRelaxed, IsSettled, label_weight, Relaxes, stays, falls, Improves}
use Rattle.line_network.proofs.Labels.{IsBelow-plus_line, not_below_itself, fallen_below, not_below, below_more, is_below_itself_more, not_above, LabelAtMost-fallen, LabelAtMost-itself, label_weight-falls}
use Rattle.line_network.proofs.Numbering.{line_of_step}
use Rattle.line_network.proofs.Paths.{IsPathPair-plus}
use Rattle.line_network.proofs.Totals.{count_by-mono, count_by-more}

-- a place with a label is one of the places
pub reached_within : (labels : List (Option Distance)) (k : ℕ) (d : Distance) → label_at labels k ≡ Some d → k < length labels
reached_within labels k d h = elim (cases_lt k (length labels)) [
  | inl within ↦ within
  | inr past ↦ absurd (none-some d (sym (get_or_past labels k None past) ∙ h))
]

-- what one label that falls leaves
module _ (old : List (Option Distance)) (v : ℕ) (p : Distance) (in_range : v < length old) (above : LabelAbove (label_at old v) p) where
  pub fallen : label_at (set old v (Some p)) v ≡ Some p
  fallen = get_or-set_same old v (Some p) None in_range

  pub kept : (k : ℕ) → (k ≡ v → ⊥) → label_at (set old v (Some p)) k ≡ label_at old k
  kept k other = get_or-set_other old v k (Some p) None other

  -- a fact of each label, which holds of the new one and of the others as they were
  pub each_label : (P : ℕ → Option Distance → Type 0) → P v (Some p) → ((k : ℕ) → (k ≡ v → ⊥) → P k (label_at old k)) → (k : ℕ) → P k (label_at (set old v (Some p)) k)
  each_label P here there k = elim (cases_eq k v) [
    | inl same ↦ (let Q : ℕ → Type 0 = λ n. P n (label_at (set old v (Some p)) n) in subst Q (sym same) (subst (P v) (sym fallen) here))
    | inr other ↦ subst (P k) (sym (kept k other)) (there k other)
  ]

  -- no fewer labels lie below a pair
  pub below_count-fallen : (e : Distance) → below_count old e ≤ below_count (set old v (Some p)) e
  below_count-fallen e =
      count_by-mono (is_label_below e) (is_label_below e) None old (set old v (Some p)) (length-set old v (Some p))
      (λ k l. each_label (λ n o. is_label_below e (label_at old n) ≡ true → is_label_below e o ≡ true) (fallen_below (label_at old v) p e above) (λ n other h. h) k)

  -- the place that a line leads from keeps its label, and more labels lie below the new one
  module _ (u : ℕ) (d : Distance) (label : label_at old u ≡ Some d) (below : IsBelow d p) where
    pub apart : u ≡ v → ⊥
    apart same =
        let Q : ℕ → Type 0 = λ n. LabelAbove (label_at old n) p in
        not_above d p below (subst (λ (o : Option Distance). LabelAbove o p) label (subst Q (sym same) above))

    pub below_count-grows : below_count old d < below_count (set old v (Some p)) p
    below_count-grows =
        count_by-more (is_label_below d) (is_label_below p) None old (set old v (Some p)) u (length-set old v (Some p)) (reached_within old u d label)
        (λ k l. each_label (λ n o. is_label_below d (label_at old n) ≡ true → is_label_below p o ≡ true) (λ h. absurd (not_below (label_at old v) d p above below h)) (λ n other h. below_more (label_at old n) d p below h) k)
        (subst (λ (o : Option Distance). is_label_below d o ≡ false) (sym label) (not_below_itself d))
        (subst (λ (o : Option Distance). is_label_below p o ≡ true) (sym (kept u apart ∙ label)) (is_below_itself_more d p below))

    pub AreBounded-fallen : AreBounded old → p.km ≤ d.km + 10000 → p.minutes ≤ d.minutes + 10000 → AreBounded (set old v (Some p))
    AreBounded-fallen bounded few_km few_minutes = record {
      km = each_label (λ n o. (e : Distance) → o ≡ Some e → e.km ≤ 10000 * below_count (set old v (Some p)) e)
          (λ e same. let Q : Distance → Type 0 = λ x. x.km ≤ 10000 * below_count (set old v (Some p)) x in subst Q (same_Some p e same) (omega (arith, below_count-grows, bounded.km u d label)))
          (λ n other e at. omega (arith, below_count-fallen e, bounded.km n e at));
      minutes = each_label (λ n o. (e : Distance) → o ≡ Some e → e.minutes ≤ 10000 * below_count (set old v (Some p)) e)
          (λ e same. let Q : Distance → Type 0 = λ x. x.minutes ≤ 10000 * below_count (set old v (Some p)) x in subst Q (same_Some p e same) (omega (arith, below_count-grows, bounded.minutes u d label)))
          (λ n other e at. omega (arith, below_count-fallen e, bounded.minutes n e at));
    }

-- a label is of so many kilometres and minutes at most
pub few_km : (labels : List (Option Distance)) (k : ℕ) (d : Distance) → AreBounded labels → label_at labels k ≡ Some d → d.km ≤ 10000 * length labels
few_km labels k d h at = omega (arith, h.km k d at, count_by-le-length (is_label_below d) labels)

pub few_minutes : (labels : List (Option Distance)) (k : ℕ) (d : Distance) → AreBounded labels → label_at labels k ≡ Some d → d.minutes ≤ 10000 * length labels
few_minutes labels k d h at = omega (arith, h.minutes k d at, count_by-le-length (is_label_below d) labels)

Contains-first : {X : Type 0} (x : X) (xs : List X) → Contains (x ∷ xs) x
Contains-first x xs = (0, omega arith, refl)

Contains-later : {X : Type 0} (x y : X) (xs : List X) → Contains xs y → Contains (x ∷ xs) y
Contains-later x y xs h = (suc h.0, omega arith, h.2)

pub Improves-refl : (lines : List Line) (labels : List (Option Distance)) (waiting : List Waiting) → Improves lines labels labels waiting waiting
Improves-refl lines labels waiting = record {
  same_length = refl;
  lower = λ k d h. h;
  labels = λ origin h. h;
  settled = λ k h. h;
  in_range = λ h. h;
  less_work = omega arith;
}

pub Improves-trans : (lines : List Line) (first second third : List (Option Distance)) (one two three : List Waiting) → Improves lines first second one two → Improves lines second third two three → Improves lines first third one three
Improves-trans lines first second third one two three h k = record {
  same_length = k.same_length ∙ h.same_length;
  lower = λ n d low. k.lower n d (h.lower n d low);
  labels = λ origin are. k.labels origin (h.labels origin are);
  settled = λ n is. k.settled n (h.settled n is);
  in_range = λ are. k.in_range (h.in_range are);
  less_work = omega (arith, h.less_work, k.less_work);
}

-- one line from a place is relaxed
module _ (lines : List Line) (old new : List (Option Distance)) (waited waits : List Waiting) (u : ℕ) (d : Distance) (l : Line)
    (has : Contains lines l) (from : l.from ≡ u) (label : label_at old u ≡ Some d) (in_range : l.to < length old) (long : 1 ≤ l.km) where
  module _ (above : LabelAbove (label_at old l.to) (plus_line d l)) where
    lower-fallen : (k : ℕ) (e : Distance) → LabelAtMost (label_at old k) e → LabelAtMost (label_at (set old l.to (Some (plus_line d l))) k) e
    lower-fallen =
        each_label old l.to (plus_line d l) in_range above (λ n o. (e : Distance) → LabelAtMost (label_at old n) e → LabelAtMost o e)
        (λ e h. LabelAtMost-fallen (label_at old l.to) (plus_line d l) e above h)
        (λ n other e h. h)

    AreLabels-fallen : (origin : ℕ) → AreLabels lines origin old → AreLabels lines origin (set old l.to (Some (plus_line d l)))
    AreLabels-fallen origin h = record {
      paths = each_label old l.to (plus_line d l) in_range above (λ n o. (e : Distance) → o ≡ Some e → IsPathPair lines origin n e)
          (λ e same. subst (IsPathPair lines origin l.to) (same_Some (plus_line d l) e same) (IsPathPair-plus lines origin u d l (h.paths u d label) has from))
          (λ n other e at. h.paths n e at);
      started = lower-fallen origin (record { km = 0; minutes = 0 }) h.started;
    }

    IsSettled-fallen : IsPermutation (entry (plus_line d l) l.to ∷ waited) waits → (k : ℕ) → IsSettled lines old waited k → IsSettled lines (set old l.to (Some (plus_line d l))) waits k
    IsSettled-fallen moved =
        each_label old l.to (plus_line d l) in_range above (λ n o. IsSettled lines old waited n → (e : Distance) → o ≡ Some e → Contains waits (entry e n) ⊎ IsRelaxed lines (set old l.to (Some (plus_line d l))) n e)
        (λ h e same. inl (let Q : Distance → Type 0 = λ x. Contains waits (entry x l.to) in subst Q (same_Some (plus_line d l) e same) (Contains-permutation _ _ _ moved (Contains-first (entry (plus_line d l) l.to) waited))))
        (λ n other h e at. elim (h e at) [
          | inl waits' ↦ inl (Contains-permutation _ _ _ moved (Contains-later (entry (plus_line d l) l.to) (entry e n) waited waits'))
          | inr relaxed ↦ inr (λ m is leads. lower-fallen m.to (plus_line e m) (relaxed m is leads))
        ])

    Improves-fallen : d.km + l.km < 2 ^ 25 → d.minutes + l.minutes < 2 ^ 25 → IsPermutation (entry (plus_line d l) l.to ∷ waited) waits → Improves lines old (set old l.to (Some (plus_line d l))) waited waits
    Improves-fallen fits_km fits_minutes moved = record {
      same_length = length-set old l.to (Some (plus_line d l));
      lower = lower-fallen;
      labels = AreLabels-fallen;
      settled = IsSettled-fallen moved;
      in_range = λ h. let P : Waiting → Type 0 = λ e. e.place < length (set old l.to (Some (plus_line d l))) in
          let same : length (set old l.to (Some (plus_line d l))) ≡ length old = length-set old l.to (Some (plus_line d l)) in
          All-permutation P _ _ moved (All-cons P (entry (plus_line d l) l.to) waited (omega arith) (λ k e within. let q : (get_or waited k e).place < length old = h k e within in omega arith));
      less_work = omega (arith, label_weight-falls (label_at old l.to) (plus_line d l) (omega arith) (omega arith) above, sum_by-set label_weight old l.to (Some (plus_line d l)) None in_range, length_permutation (entry (plus_line d l) l.to ∷ waited) waits moved);
    }

  pub Improves-Relaxes : d.km + l.km < 2 ^ 25 → d.minutes + l.minutes < 2 ^ 25 → Relaxes old new waited waits d l → Improves lines old new waited waits
  Improves-Relaxes fits_km fits_minutes (stays same rest low) =
      let P : List (Option Distance) → Type 0 = λ xs. Improves lines old xs waited waits in
      subst P (sym same) (subst (Improves lines old old waited) (sym rest) (Improves-refl lines old waited))
  Improves-Relaxes fits_km fits_minutes (falls set' moved above) =
      let P : List (Option Distance) → Type 0 = λ xs. Improves lines old xs waited waits in
      subst P (sym set') (Improves-fallen above fits_km fits_minutes moved)

  -- the place keeps its label
  pub label-Relaxes : Relaxes old new waited waits d l → label_at new u ≡ Some d
  label-Relaxes (stays same rest low) = let P : List (Option Distance) → Type 0 = λ xs. label_at xs u ≡ Some d in subst P (sym same) label
  label-Relaxes (falls set' moved above) =
      let P : List (Option Distance) → Type 0 = λ xs. label_at xs u ≡ Some d in
      let below : IsBelow d (plus_line d l) = IsBelow-plus_line d l long in
      subst P (sym set') (kept old l.to (plus_line d l) in_range above u (apart old l.to (plus_line d l) in_range above u d label below) ∙ label)

  pub AreBounded-Relaxes : l.km ≤ 10000 → l.minutes ≤ 10000 → AreBounded old → Relaxes old new waited waits d l → AreBounded new
  AreBounded-Relaxes few_km few_minutes bounded (stays same rest low) = subst AreBounded (sym same) bounded
  AreBounded-Relaxes few_km few_minutes bounded (falls set' moved above) =
      subst AreBounded (sym set') (AreBounded-fallen old l.to (plus_line d l) in_range above u d label (IsBelow-plus_line d l long) bounded (omega arith) (omega arith))

  -- the line is relaxed
  pub LabelAtMost-Relaxes : Relaxes old new waited waits d l → LabelAtMost (label_at new l.to) (plus_line d l)
  LabelAtMost-Relaxes (stays same rest low) = let P : List (Option Distance) → Type 0 = λ xs. LabelAtMost (label_at xs l.to) (plus_line d l) in subst P (sym same) low
  LabelAtMost-Relaxes (falls set' moved above) =
      let P : List (Option Distance) → Type 0 = λ xs. LabelAtMost (label_at xs l.to) (plus_line d l) in
      let Q : Option Distance → Type 0 = λ o. LabelAtMost o (plus_line d l) in
      subst P (sym set') (subst Q (sym (fallen old l.to (plus_line d l) in_range above)) (LabelAtMost-itself (plus_line d l)))

-- what is known of a line from a place
pub record IsLineFrom (lines : List Line) (places u : ℕ) (l : Line) : Type 0 where
  pub has : Contains lines l
  pub from : l.from ≡ u
  pub is : IsLine places l

pub IsLineFrom-at : (lines : List Line) (part : List Step) (places u i : ℕ) (d : Step) → All (IsStepFrom lines u) part → All (IsLine places) lines → i < length part → IsLineFrom lines places u (line_from u (get_or part i d))
IsLineFrom-at lines part places u i d own all within =
    let here = own i d within in
    let is = All-contains (IsLine places) lines here.line all here.has in
    subst (IsLineFrom lines places u) (sym (line_of_step u (get_or part i d) here.line here.same here.from is.most_minutes)) (record { has = here.has; from = here.from; is = is })

pub fits_km : (lines : List Line) (labels : List (Option Distance)) (places u : ℕ) (d : Distance) (l : Line) → AreBounded labels → label_at labels u ≡ Some d → length labels ≡ places → places ≤ 2000 → IsLineFrom lines places u l → d.km + l.km < 2 ^ 25
fits_km lines labels places u d l bounded label same few line = omega (arith, few_km labels u d bounded label, line.is.most_km)

pub fits_minutes : (lines : List Line) (labels : List (Option Distance)) (places u : ℕ) (d : Distance) (l : Line) → AreBounded labels → label_at labels u ≡ Some d → length labels ≡ places → places ≤ 2000 → IsLineFrom lines places u l → d.minutes + l.minutes < 2 ^ 25
fits_minutes lines labels places u d l bounded label same few line = omega (arith, few_minutes labels u d bounded label, line.is.most_minutes)

-- of the lines from a place one more is relaxed
pub relaxed_more : (old new : List (Option Distance)) (part : List Step) (u i : ℕ) (d : Distance) (x : Step) → i < length part
    → ((k : ℕ) (e : Distance) → LabelAtMost (label_at old k) e → LabelAtMost (label_at new k) e)
    → AllWithin (λ s. LabelAtMost (label_at old s.to) (plus_line d (line_from u s))) part 0 i
    → LabelAtMost (label_at new (get_or part i x).to) (plus_line d (line_from u (get_or part i x)))
    → AllWithin (λ s. LabelAtMost (label_at new s.to) (plus_line d (line_from u s))) part 0 (i + 1)
relaxed_more old new part u i d x within lower before here =
    let P : Step → Type 0 = λ s. LabelAtMost (label_at new s.to) (plus_line d (line_from u s)) in
    AllWithin-more P part 0 i (λ k y low below. lower (get_or part k y).to (plus_line d (line_from u (get_or part k y))) (before k y low below)) (λ y. subst P (get_or_default part i x y within) here)
