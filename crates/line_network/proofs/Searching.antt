-- What a search keeps, and that its labels are the distances at its end.
use Rattle.std.proofs.Common.{◌≡◌, ℕ, zero, suc, ◌*◌, ◌<◌, ◌≤◌, ◌⊎◌, List, [], ◌∷◌, length, replicate, refl, sym, ◌∙◌, ap, subst, arith, inl, inr, Some, None, Option, get_or, set, length-set, take, drop, ◌++◌}
use Rattle.std.proofs.lemmas.List.{length-replicate, take-append-le, take_all}
use Rattle.std.specs.List.{Contains}
use Rattle.std.specs.List.Sorted.{IsPermutation}
use Rattle.std.proofs.lemmas.Bool.{cases_eq}
use Rattle.std.proofs.lemmas.Option.{none-some, same_Some}
use Rattle.std.proofs.lemmas.List.Elements.{All-cons, All-nil, All-tail}
use Rattle.std.proofs.lemmas.List.Sorted.{All-permutation, Contains-permutation}
use Rattle.std.proofs.lemmas.List.Sums.{count_by-le-length}
use Rattle.line_network.specs.declared.line.Line.{Line}
use Rattle.line_network.specs.inner.Lengths.{Distance}
use Rattle.line_network.specs.inner.Turns.{Waiting, entry}
use Rattle.line_network.specs.inner.Rows.{IsPathPair, IsNear, IsRow}
use Rattle.line_network.specs.inner.Search.{label_at, LabelAtMost, LabelAbove, is_label_below, below_count, AreBounded, AreLabels, IsRelaxed, IsSettled, AreInRange, Improves}
use Rattle.line_network.proofs.Paths.{IsRow-relaxed}
use Rattle.line_network.proofs.Relaxing.{each_label, fallen}

-- what the search keeps between two turns
pub record IsSearch (lines : List Line) (places origin : ℕ) (labels : List (Option Distance)) (waiting : List Waiting) : Type 0 where
  pub full : length labels ≡ places
  pub bounded : AreBounded labels
  pub are : AreLabels lines origin labels
  pub settled : (k : ℕ) → IsSettled lines labels waiting k
  pub in_range : AreInRange places waiting

no_length : Distance
no_length = record { km = 0; minutes = 0 }

unreached : (places k : ℕ) → label_at (replicate places None) k ≡ None
unreached zero k = refl
unreached (suc places) zero = refl
unreached (suc places) (suc k) = unreached places k

pub Contains-nil : {X : Type 0} (x : X) → Contains [] x → ⊥
Contains-nil x h = omega (arith, h.1)

pub Contains-cons_cases : {X : Type 0} (x y : X) (xs : List X) → Contains (x ∷ xs) y → (x ≡ y) ⊎ Contains xs y
Contains-cons_cases x y xs (zero, l, same) = inl same
Contains-cons_cases x y xs (suc k, l, same) = inr (k, omega arith, same)

-- at the start the origin alone is reached, and waits
module _ (lines : List Line) (places origin : ℕ) (within : origin < places) where
  start_in_range : origin < length {A = Option Distance} (replicate places None)
  start_in_range = omega (arith, length-replicate {A = Option Distance} places None)

  start_above : LabelAbove (label_at (replicate places None) origin) (record { km = 0; minutes = 0 })
  start_above = let P : Option Distance → Type 0 = λ o. LabelAbove o (record { km = 0; minutes = 0 }) in subst P (sym (unreached places origin)) tt

  -- what holds of the origin at no length holds of each label
  start_each : (P : ℕ → Distance → Type 0) → P origin (record { km = 0; minutes = 0 }) → (k : ℕ) (d : Distance) → label_at (set (replicate places None) origin (Some (record { km = 0; minutes = 0 }))) k ≡ Some d → P k d
  start_each P here =
      each_label (replicate places None) origin (record { km = 0; minutes = 0 }) start_in_range start_above (λ k o. (d : Distance) → o ≡ Some d → P k d)
      (λ d same. subst (P origin) (same_Some (record { km = 0; minutes = 0 }) d same) here)
      (λ k other d at. absurd (none-some d (sym (unreached places k) ∙ at)))

  pub IsSearch-start : (waiting : List Waiting) → IsPermutation (entry (record { km = 0; minutes = 0 }) origin ∷ []) waiting → IsSearch lines places origin (set (replicate places None) origin (Some (record { km = 0; minutes = 0 }))) waiting
  IsSearch-start waiting moved =
      let labels : List (Option Distance) = set (replicate places None) origin (Some (record { km = 0; minutes = 0 })) in
      let InRange : Waiting → Type 0 = λ e. e.place < places in
      let Low : Option Distance → Type 0 = λ o. LabelAtMost o (record { km = 0; minutes = 0 }) in
      record {
        full = length-set (replicate places None) origin (Some (record { km = 0; minutes = 0 })) ∙ length-replicate places None;
        bounded = record {
          km = start_each (λ k d. d.km ≤ 10000 * below_count labels d) (omega arith);
          minutes = start_each (λ k d. d.minutes ≤ 10000 * below_count labels d) (omega arith);
        };
        are = record {
          paths = start_each (λ k d. IsPathPair lines origin k d) (record { path = []; leads = refl; km = refl; minutes = refl });
          started = subst Low (sym (fallen (replicate places None) origin (record { km = 0; minutes = 0 }) start_in_range start_above)) (omega arith, λ s. omega arith);
        };
        settled = start_each (λ k d. Contains waiting (entry d k) ⊎ IsRelaxed lines labels k d)
            (inl (Contains-permutation _ _ _ moved (0, omega arith, refl)));
        in_range = All-permutation InRange _ _ moved (All-cons InRange _ [] within (All-nil InRange));
      }

-- a place whose label has fallen since is passed over
pub IsSearch-stale : (lines : List Line) (places origin : ℕ) (labels : List (Option Distance)) (waited waits : List Waiting) (d : Distance) (u : ℕ) → IsSearch lines places origin labels waited → IsPermutation waited (entry d u ∷ waits) → (label_at labels u ≡ Some d → ⊥) → IsSearch lines places origin labels waits
IsSearch-stale lines places origin labels waited waits d u h moved stale = record {
  full = h.full;
  bounded = h.bounded;
  are = h.are;
  settled = λ k e at. elim (h.settled k e at) [
    | inl waits' ↦ elim (Contains-cons_cases (entry d u) (entry e k) waits (Contains-permutation _ _ _ moved waits')) [
      | inl same ↦ (let P : Waiting → Type 0 = λ x. label_at labels x.place ≡ Some x.distance in absurd (stale (subst P (sym same) at)))
      | inr still ↦ inl still
    ]
    | inr relaxed ↦ inr relaxed
  ];
  in_range = let InRange : Waiting → Type 0 = λ e. e.place < places in All-tail InRange _ _ (All-permutation InRange _ _ moved h.in_range);
}

-- the lines of a place are relaxed
pub IsSearch-next : (lines : List Line) (places origin : ℕ) (old new : List (Option Distance)) (waited between waits : List Waiting) (d : Distance) (u : ℕ) → IsSearch lines places origin old waited → IsPermutation waited (entry d u ∷ between) → Improves lines old new between waits → AreBounded new → label_at new u ≡ Some d → IsRelaxed lines new u d → IsSearch lines places origin new waits
IsSearch-next lines places origin old new waited between waits d u h moved improves bounded label relaxed = record {
  full = improves.same_length ∙ h.full;
  bounded = bounded;
  are = improves.labels origin h.are;
  settled = λ k. elim (cases_eq k u) [
    | inl same ↦ (λ e at. inr (let P : ℕ → Type 0 = λ n. IsRelaxed lines new n e in let Q : Distance → Type 0 = λ x. IsRelaxed lines new u x in
        let L : ℕ → Type 0 = λ n. label_at new n ≡ Some e in
        subst P (sym same) (subst Q (same_Some d e (sym label ∙ subst L same at)) relaxed)))
    | inr other ↦ improves.settled k (λ e at. elim (h.settled k e at) [
      | inl waits' ↦ elim (Contains-cons_cases (entry d u) (entry e k) between (Contains-permutation _ _ _ moved waits')) [
        | inl same ↦ absurd (other (sym (ap (λ (x : Waiting). x.place) same)))
        | inr still ↦ inl still
      ]
      | inr relaxed' ↦ inr relaxed'
    ])
  ];
  in_range = let InRange : Waiting → Type 0 = λ e. e.place < places in
      let all : AreInRange (length old) between = (λ k e l. let q : (get_or between k e).place < places = All-tail InRange _ _ (All-permutation InRange _ _ moved h.in_range) k e l in omega (arith, h.full)) in
      (λ k e l. let q : (get_or waits k e).place < length new = improves.in_range all k e l in omega (arith, improves.same_length, h.full));
}

-- the place whose turn comes is one of the places
pub place_in_range : (places : ℕ) (waited waits : List Waiting) (d : Distance) (u : ℕ) → AreInRange places waited → IsPermutation waited (entry d u ∷ waits) → u < places
place_in_range places waited waits d u h moved =
    let InRange : Waiting → Type 0 = λ e. e.place < places in
    All-permutation InRange _ _ moved h 0 (entry d u) (omega arith)

-- a label is of no more lines than there are places
near : (places : ℕ) (labels : List (Option Distance)) → length labels ≡ places → AreBounded labels → (k : ℕ) (o : Option Distance) → label_at labels k ≡ o → IsNear places o
near places labels full bounded k None at = tt
near places labels full bounded k (Some d) at =
    let few : below_count labels d ≤ length labels = count_by-le-length (is_label_below d) labels in
    (omega (arith, bounded.km k d at), omega (arith, bounded.minutes k d at))

-- where none waits, the labels are the distances
pub IsRow-search : (lines : List Line) (places origin : ℕ) (labels : List (Option Distance)) (waiting : List Waiting) → IsSearch lines places origin labels waiting → length waiting ≡ 0 → IsRow lines places origin labels
IsRow-search lines places origin labels waiting h none =
    IsRow-relaxed lines places origin labels h.full h.are (λ k d at. elim (h.settled k d at) [ inl waits ↦ absurd (omega (arith, waits.1)) | inr relaxed ↦ relaxed ])
    (λ k. near places labels h.full h.bounded k (label_at labels k) refl)

-- what a slice of a whole vector gives back
pub whole_slice : {X : Type 0} (n : ℕ) (xs ys : List X) → length xs ≡ n → length ys ≡ n → take n (ys ++ drop (length ys) xs) ≡ ys
whole_slice n xs ys old new = take-append-le n ys (drop (length ys) xs) (omega arith) ∙ take_all n ys (omega arith)
