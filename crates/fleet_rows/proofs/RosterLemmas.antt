-- On ascending rows: what a search finds, one more row at its index, and that rows ascend in one way only.
use Rattle.std.proofs.Common.{◌≡◌, ◌∙◌, ℕ, zero, suc, ◌<◌, ◌≤◌, true, false, List, [], ◌∷◌, length, get_or, Result, Ok, Err, IfErr, OnOk, All, refl, ap, sym, subst, inl, inr, ◌⊎◌, arith}
use Rattle.std.proofs.lemmas.Bool.{cases_lt}
use Rattle.std.proofs.lemmas.Cmp.{alike_right, nat_list_cmp_total, on_total, tied_back, tied_itself}
use Rattle.std.proofs.lemmas.List.Edits.{length-insert}
use Rattle.std.proofs.lemmas.List.Elements.{All-cons, All-contains, All-contains_itself, All-from_recursion, All-nil, All-tail, recursion_from_All}
use Rattle.std.proofs.lemmas.List.Folds.{list_any_at, list_any_none}
use Rattle.std.proofs.lemmas.List.Sorted.{All-permutation, IsPermutation-insert, IsPermutation-sym}
use Rattle.std.proofs.lemmas.Map.Keys.{Less-from_sorted, sorted_head, sorted_tail}
use Rattle.std.specs.Cmp.{IsTotalOrder}
use Rattle.std.specs.Cmp.Lexicographic.{texts_ties}
use Rattle.std.specs.List.{AllWithin, Contains, insert}
use Rattle.std.specs.List.Sorted.{IsBinarySearchResult, IsNonDecreasingBy, IsPermutation, IsSearchInRange, IsStrictlySortedBy}
use Rattle.std.specs.Ordering.{is_eq, ordering_index, ordering_reverse}
use Rattle.std.specs.declared.cmp.Ordering.{Ordering}
use Rattle.std.specs.declared.cmp.Ordering.TheVariants.{Less, Equal, Greater}
use Rattle.wagons_and_orders.specs.declared.wagon_row.WagonRow.{WagonRow}
use Rattle.fleet_rows.specs.Roster.{IsRoster, IsRosterRow}
use Rattle.fleet_rows.specs.Kept.{by_number, compare_numbers, max_roster_wagons}
use Rattle.fleet_rows.specs.SameWagons.{has_wagon, is_same_number}
use Rattle.fleet_rows.specs.inner.Gaps.{IsGapFor}

pub by_number_total : IsTotalOrder by_number
by_number_total = on_total (λ (row : WagonRow). row.number) nat_list_cmp_total

-- what comparing two numbers says of their being the same
pub same_from_equal : (a b : List ℕ) → compare_numbers a b ≡ Equal → is_same_number b a ≡ true
same_from_equal a b h = texts_ties b a ∙ ap is_eq (tied_back nat_list_cmp_total a b h)

pub other_from_less : (a b : List ℕ) → compare_numbers a b ≡ Less → is_same_number b a ≡ false
other_from_less a b h = texts_ties b a ∙ ap is_eq (nat_list_cmp_total.antisymm b a ∙ ap ordering_reverse h)

pub other_from_greater : (a b : List ℕ) → compare_numbers a b ≡ Greater → is_same_number b a ≡ false
other_from_greater a b h = texts_ties b a ∙ ap is_eq (nat_list_cmp_total.antisymm b a ∙ ap ordering_reverse h)

-- what comes later compares no lower
pub rises : {K : Type 0} {R : K → K → Ordering} (o : IsTotalOrder R) (x y z : K) (later : Ordering) → R x y ≡ Less → R y z ≡ later
    → ordering_index (R x z) ≤ ordering_index later
rises {R = R} o x y z Less h e = let less : R x z ≡ Less = o.trans x y z h e in rw less (omega arith)
rises {R = R} o x y z Equal h e = let less : R x z ≡ Less = sym (alike_right o y z x e) ∙ h in rw less (omega arith)
rises {R = R} o x y z Greater h e = at_most (R x z)
  where
    at_most : (r : Ordering) → ordering_index r ≤ ordering_index Greater
    at_most Less = omega arith
    at_most Equal = omega arith
    at_most Greater = omega arith

-- the comparisons with a number rise along ascending rows, as a binary search asks
comparisons_rise : (rows : List WagonRow) (number : List ℕ) → IsStrictlySortedBy by_number rows → IsNonDecreasingBy (λ row. ordering_index (compare_numbers row.number number)) rows
comparisons_rise rows number sorted i j d le within = elim (cases_lt i j) [
  | inl lt ↦ rises nat_list_cmp_total (get_or rows i d).number (get_or rows j d).number number _ (Less-from_sorted by_number rows i j d sorted lt within) refl
  | inr ge ↦ let same : i ≡ j = omega arith in rw same (omega arith)
]

pub record Searched (rows : List WagonRow) (number : List ℕ) (r : Result ℕ ℕ) : Type 0 where
  pub found : OnOk r (has_wagon rows number ≡ true)
  pub absent : IfErr r (IsGapFor rows number)

found_at : (rows : List WagonRow) (number : List ℕ) (at : ℕ) → at < length rows → ((d : WagonRow) → compare_numbers (get_or rows at d).number number ≡ Equal) → has_wagon rows number ≡ true
found_at [] number at within equal = absurd (omega arith)
found_at (row ∷ rows) number at within equal =
    list_any_at (λ (r : WagonRow). is_same_number number r.number) (row ∷ rows) at row within
    (same_from_equal (get_or (row ∷ rows) at row).number number (equal row))

-- a search by number ends at the wagon, or at the gap for it
pub searched : (rows : List WagonRow) (number : List ℕ) (r : Result ℕ ℕ) → IsStrictlySortedBy by_number rows → IsSearchInRange r (length rows)
    → IsBinarySearchResult (λ row. compare_numbers row.number number) rows r → Searched rows number r
searched rows number (Ok at) sorted within equal = record { found = found_at rows number at within equal; absent = tt }
searched rows number (Err at) sorted within parted =
    let (before, after) = parted (comparisons_rise rows number sorted) in
    record { found = tt; absent = record { within = within; before = before; after = after } }

-- where there is a gap for a number, no row has it
pub none_at_gap : (rows : List WagonRow) (number : List ℕ) (at : ℕ) → IsGapFor rows number at → has_wagon rows number ≡ false
none_at_gap rows number at gap = list_any_none (λ (r : WagonRow). is_same_number number r.number) rows (λ k d below. elim (cases_lt k at) [
  | inl lt ↦ other_from_less (get_or rows k d).number number (gap.before k d (omega arith) lt)
  | inr ge ↦ other_from_greater (get_or rows k d).number number (gap.after k d ge below)
])

module _ {K : Type 0} {R : K → K → Ordering} (o : IsTotalOrder R) where
  -- one more key in its gap
  pub sorted_insert : (y : K) (xs : List K) (i : ℕ) → IsStrictlySortedBy R xs → AllWithin (λ x. R x y ≡ Less) xs 0 i → AllWithin (λ x. R x y ≡ Greater) xs i (length xs)
      → IsStrictlySortedBy R (insert xs i y)
  unfolding IsStrictlySortedBy
  sorted_insert y xs zero sorted before after =
      (recursion_from_All (λ x. R y x ≡ Less) xs (λ k d below. o.antisymm y (get_or xs k d) ∙ ap ordering_reverse (after k d (omega arith) below)), sorted)
  sorted_insert y [] (suc i) sorted before after = (tt, tt)
  sorted_insert y (x ∷ xs) (suc i) sorted before after =
      let above = All-cons (λ z. R x z ≡ Less) y xs (before 0 x (omega arith) (omega arith)) (All-from_recursion (λ z. R x z ≡ Less) xs sorted.0) in
      let all = All-permutation (λ z. R x z ≡ Less) (y ∷ xs) (insert xs i y) (IsPermutation-insert xs i y) above in (
        recursion_from_All (λ z. R x z ≡ Less) (insert xs i y) all,
        sorted_insert y xs i sorted.1 (λ k d from below. before (suc k) d (omega arith) (omega arith)) (λ k d from below. after (suc k) d (omega arith) (omega arith)),
      )

  first_or_later : (x y : K) (ys : List K) → Contains (y ∷ ys) x → (y ≡ x) ⊎ Contains ys x
  first_or_later x y ys (zero, below, is) = inl is
  first_or_later x y ys (suc k, below, is) = inr (k, omega arith, is)

  -- what is above the first is among the others
  among_others : (x : K) (xs ys : List K) → All (λ z. R x z ≡ Less) xs → All (Contains (x ∷ ys)) xs → All (Contains ys) xs
  among_others x xs ys above all k d below = elim (first_or_later (get_or xs k d) x ys (all k d below)) [
    | inl first ↦ let same : R x x ≡ Less = subst (λ z. R x z ≡ Less) (sym first) (above k d below) in cc (same, tied_itself o x)
    | inr later ↦ later
  ]

  -- the first keys of two ascending lists of the same keys are one
  same_first : (x y : K) (xs ys : List K) → IsStrictlySortedBy R (x ∷ xs) → IsStrictlySortedBy R (y ∷ ys) → Contains (y ∷ ys) x → Contains (x ∷ xs) y → x ≡ y
  same_first x y xs ys up vp has had = elim (first_or_later x y ys has) [
    | inl first ↦ sym first
    | inr later ↦ elim (first_or_later y x xs had) [
      | inl first ↦ first
      | inr after ↦
          let less : R y x ≡ Less = All-contains (λ z. R y z ≡ Less) ys x (All-from_recursion (λ z. R y z ≡ Less) ys (sorted_head R y ys vp)) later in
          let more : R x y ≡ Less = All-contains (λ z. R x z ≡ Less) xs y (All-from_recursion (λ z. R x z ≡ Less) xs (sorted_head R x xs up)) after in
          let back : R y x ≡ Greater = o.antisymm y x ∙ ap ordering_reverse more in
          cc (less, back)
    ]
  ]

  same_keys : (xs ys : List K) → IsStrictlySortedBy R xs → IsStrictlySortedBy R ys → All (Contains ys) xs → All (Contains xs) ys → xs ≡ ys
  same_keys [] [] up vp all back = refl
  same_keys [] (y ∷ ys) up vp all back = let (k, below, is) = back 0 y (omega arith) in absurd (omega arith)
  same_keys (x ∷ xs) [] up vp all back = let (k, below, is) = all 0 x (omega arith) in absurd (omega arith)
  same_keys (x ∷ xs) (y ∷ ys) up vp all back =
      let first : x ≡ y = same_first x y xs ys up vp (all 0 x (omega arith)) (back 0 y (omega arith)) in
      let here = All-tail (Contains (y ∷ ys)) x xs all in
      let there = All-tail (Contains (x ∷ xs)) y ys back in
      let above = All-from_recursion (λ z. R x z ≡ Less) xs (sorted_head R x xs up) in
      let beyond = All-from_recursion (λ z. R y z ≡ Less) ys (sorted_head R y ys vp) in
      let rest : xs ≡ ys = same_keys xs ys (sorted_tail R x xs up) (sorted_tail R y ys vp)
      (among_others x xs ys above (subst (λ z. All (Contains (z ∷ ys)) xs) (sym first) here))
      (among_others y ys xs beyond (subst (λ z. All (Contains (z ∷ xs)) ys) first there)) in
      rw (first, rest) refl

  -- a list can be put into ascending order in one way only
  pub same_order : (xs ys : List K) → IsStrictlySortedBy R xs → IsStrictlySortedBy R ys → IsPermutation xs ys → xs ≡ ys
  same_order xs ys up vp same =
      same_keys xs ys up vp (All-permutation (Contains ys) ys xs (IsPermutation-sym xs ys same) (All-contains_itself ys))
      (All-permutation (Contains xs) xs ys same (All-contains_itself xs))

pub IsRoster-empty : IsRoster []
unfolding IsStrictlySortedBy
IsRoster-empty = record { few = omega arith; ascending = tt; each = All-nil IsRosterRow }

-- a roster with the row of one more wagon in its gap
pub IsRoster-insert : (rows : List WagonRow) (row : WagonRow) (at : ℕ) → IsRoster rows → IsRosterRow row → length rows < max_roster_wagons → IsGapFor rows row.number at
    → IsRoster (insert rows at row)
IsRoster-insert rows row at roster one few gap = record {
  few = omega (arith, length-insert rows at row gap.within);
  ascending = sorted_insert by_number_total row rows at roster.ascending gap.before gap.after;
  each = All-permutation IsRosterRow (row ∷ rows) (insert rows at row) (IsPermutation-insert rows at row) (All-cons IsRosterRow row rows one roster.each);
}
