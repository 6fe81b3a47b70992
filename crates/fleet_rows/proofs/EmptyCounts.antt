-- Of the list of the empty wagons that nobody holds, those of a class at a place; and how many of them are free.
use Rattle.std.proofs.Common.{◌≡◌, ◌∙◌, ℕ, zero, suc, ◌+◌, ◌<◌, ◌≤◌, Bool, true, false, cond, not, ◌&&◌, ◌||◌, nat_eq, nat_lt, List, [], ◌∷◌, length, take, drop, count_by, refl, ap, sym, subst, inl, inr, arith}
use Rattle.std.specs.Prelude.{Option, Some, None, is_some, option_map, slice_get}
use Rattle.std.specs.BTreeMap.{is_at}
use Rattle.std.specs.BTreeSet.{BTreeSet}
use Rattle.std.specs.Cmp.Lexicographic.{bytes_decides, slice_cmp, texts_ties}
use Rattle.std.specs.List.{AllByRecursion, AllWithin, cons_option, filter, filter_map, list_any}
use Rattle.std.specs.List.Sorted.{IsStrictlySortedBy}
use Rattle.std.specs.Option.{option_cmp}
use Rattle.std.specs.Ordering.{is_eq, is_lt, nat_cmp, ordering_then}
use Rattle.std.specs.declared.cmp.Ordering.{Ordering}
use Rattle.std.specs.declared.cmp.Ordering.TheVariants.{Less, Equal, Greater}
use Rattle.std.proofs.Math.Bool.{and-false, and-true, and_comm}
use Rattle.std.proofs.lemmas.Bool.{cases_Bool, lt-ltb}
use Rattle.std.proofs.lemmas.Bool.Decides.{nat_tests}
use Rattle.std.proofs.lemmas.Cmp.{tied_itself}
use Rattle.std.proofs.lemmas.List.Kept.{IsStrictlySortedBy-filter}
use Rattle.std.proofs.lemmas.List.Sums.{sum_by-cons}
use Rattle.std.proofs.lemmas.Map.Lookups.{CmpEqualImpliesEq, btree_set_from_contains}
use Rattle.std.proofs.lemmas.Map.Views.{any-filter_same}
use Rattle.std.proofs.lemmas.Option.{slice_get_within}
use Rattle.wagons_and_orders.specs.Free.{free_by, free_of}
use Rattle.wagons_and_orders.specs.StatusTable.{place_of}
use Rattle.wagons_and_orders.specs.declared.free_wagon.FreeWagon.{FreeWagon}
use Rattle.wagons_and_orders.specs.declared.status.Status.{Status}
use Rattle.wagons_and_orders.specs.declared.status.Status.TheVariants.{Empty, Loading, Ready, Journey, Yard, Arrived, Unloading}
use Rattle.wagons_and_orders.specs.declared.wagon_row.WagonRow.{WagonRow}
use Rattle.fleet_rows.specs.EmptyWagons.{empty_at, empty_in, empty_of, empty_wagons, indexes_from, is_empty, is_empty_at}
use Rattle.fleet_rows.specs.FreeWagons.{is_free_at, is_of_class_at, is_one_at}
use Rattle.fleet_rows.specs.declared.empty_wagons.Stand.{Stand}
use Rattle.fleet_rows.specs.inner.EmptyList.{AreListed, compare_indexes, compare_keys, compare_stands, is_before, is_empty_row, is_on, is_unpromised, key_at, stand_of, standing_so}
use Rattle.fleet_rows.proofs.EmptyList.{all_on, itself, on_list, same_index, same_number, stands_total, total, true_or_false}
use Rattle.fleet_rows.proofs.Named.{is_same}

-- ---- parts of a list

pub parts_are : (p : ℕ → Bool) (xs : List ℕ) (i : ℕ) → AllWithin (λ x. p x ≡ true) xs 0 i → AllWithin (λ x. p x ≡ false) xs i (length xs) → i ≤ length xs
    → (take i xs ≡ filter p xs) × (drop i xs ≡ filter (λ x. not (p x)) xs)
parts_are p [] zero before after within = (refl, refl)
parts_are p [] (suc i) before after within = absurd (omega (arith, within))
parts_are p (x ∷ xs) zero before after within =
    let here : p x ≡ false = after 0 x (omega arith) (omega arith) in
    let (first, rest) = parts_are p xs zero (λ k d from below. absurd (omega (arith, below))) (λ k d from below. after (suc k) d (omega arith) (omega arith)) (omega arith) in
    (rw here first, rw here (ap (λ ys. x ∷ ys) rest))
parts_are p (x ∷ xs) (suc i) before after within =
    let here : p x ≡ true = before 0 x (omega arith) (omega arith) in
    let (first, rest) = parts_are p xs i (λ k d from below. before (suc k) d (omega arith) (omega arith)) (λ k d from below. after (suc k) d (omega arith) (omega arith)) (omega (arith, within)) in
    (rw here (ap (λ ys. x ∷ ys) first), rw here rest)

-- ---- those of a class at a place, row after row

abbrev test_row : (WagonRow → Bool) → Option WagonRow → Bool
test_row test None = false
test_row test (Some row) = test row

abbrev AllFrom : ℕ → List ℕ → Type 0
AllFrom least indexes = AllByRecursion (λ index. least ≤ index) indexes

from_step : (least first : ℕ) (b : Bool) (rest : List ℕ) → least ≤ first → AllFrom least rest → AllFrom least (cond b (first ∷ rest) rest)
from_step least first true rest h later = (h, later)
from_step least first false rest h later = later

all_from : (test : WagonRow → Bool) (least first : ℕ) (rows : List WagonRow) → least ≤ first → AllFrom least (indexes_from test first rows)
all_from test least first [] h = tt
all_from test least first (row ∷ rows) h = from_step least first (test row) (indexes_from test (first + 1) rows) h (all_from test least (first + 1) rows (omega (arith, h)))

above : (k : ℕ) (xs : List ℕ) → AllFrom (k + 1) xs → AllByRecursion (λ y. nat_cmp k y ≡ Less) xs
above k [] h = tt
above k (x ∷ xs) h = (let lt : nat_lt k x ≡ true = lt-ltb k x (let far = h.0 in omega (arith, far)) in rw lt refl, above k xs h.1)

ascend_step : (first : ℕ) (b : Bool) (rest : List ℕ) → AllFrom (first + 1) rest → IsStrictlySortedBy nat_cmp rest → IsStrictlySortedBy nat_cmp (cond b (first ∷ rest) rest)
unfolding IsStrictlySortedBy
ascend_step first true rest all sorted = (above first rest all, sorted)
ascend_step first false rest all sorted = sorted

ascend : (test : WagonRow → Bool) (first : ℕ) (rows : List WagonRow) → IsStrictlySortedBy nat_cmp (indexes_from test first rows)
unfolding IsStrictlySortedBy
ascend test first [] = tt
ascend test first (row ∷ rows) = ascend_step first (test row) (indexes_from test (first + 1) rows) (all_from test (first + 1) (first + 1) rows (omega arith)) (ascend test (first + 1) rows)

none_early : (test : WagonRow → Bool) (first : ℕ) (rows : List WagonRow) (k : ℕ) → k < first → is_on (indexes_from test first rows) k ≡ false
none_early test first rows k lt = elim (cases_Bool (is_on (indexes_from test first rows) k)) [
  | inl on ↦ let far : first ≤ k = on_list (λ index. first ≤ index) (indexes_from test first rows) k (all_from test first first rows (omega arith)) on in absurd (omega (arith, far, lt))
  | inr off ↦ off
]

first_on : (b : Bool) (first k : ℕ) (rest : List ℕ) → nat_eq k first ≡ true → is_on rest k ≡ false → is_on (cond b (first ∷ rest) rest) k ≡ b
first_on true first k rest same none = ap (λ t. t || is_on rest k) same
first_on false first k rest same none = none

later_on : (b : Bool) (first k : ℕ) (rest : List ℕ) → nat_eq k first ≡ false → is_on (cond b (first ∷ rest) rest) k ≡ is_on rest k
later_on true first k rest other = ap (λ t. t || is_on rest k) other
later_on false first k rest other = refl

on_from : (test : WagonRow → Bool) (first : ℕ) (rows : List WagonRow) (j k : ℕ) → k ≡ first + j → is_on (indexes_from test first rows) k ≡ test_row test (slice_get rows j)
on_from test first [] j k e = refl
on_from test first (row ∷ rows) zero k e =
    first_on (test row) first k (indexes_from test (first + 1) rows) (grind (arith, nat_tests, e)) (none_early test (first + 1) rows k (omega (arith, e)))
on_from test first (row ∷ rows) (suc j) k e =
    later_on (test row) first k (indexes_from test (first + 1) rows) (grind (arith, nat_tests, e)) ∙ on_from test (first + 1) rows j k (omega (arith, e))

-- ---- whether a row's wagon is one of them

equal_first : (o q : Ordering) → is_eq (ordering_then o q) ≡ (is_eq o && is_eq q)
equal_first Less q = refl
equal_first Equal q = refl
equal_first Greater q = refl

abbrev is_stand : Stand → WagonRow → Bool
is_stand stand row = is_same row.class stand.class && is_same (place_of row.status) stand.place

stand_ties : (stand : Stand) (row : WagonRow) → is_eq (compare_stands (stand_of row) stand) ≡ is_stand stand row
stand_ties stand row =
    equal_first (slice_cmp nat_cmp (place_of row.status) stand.place) (slice_cmp nat_cmp row.class stand.class)
    ∙ (ap (λ b. b && is_eq (slice_cmp nat_cmp row.class stand.class)) (sym (texts_ties (place_of row.status) stand.place))
    ∙ (ap (λ b. is_same (place_of row.status) stand.place && b) (sym (texts_ties row.class stand.class)) ∙ and_comm (is_same (place_of row.status) stand.place) (is_same row.class stand.class)))

one_by : (stand : Stand) (row : WagonRow) (status : Status) (held : Bool)
    → ((is_same row.class stand.class && is_same (place_of status) stand.place) && is_some (free_by row status held None)) ≡ is_one_at stand.class stand.place (free_by row status held None)
one_by stand row (Empty place ready) false = and-true (is_same row.class stand.class && is_same place stand.place)
one_by stand row (Empty place ready) true = and-false (is_same row.class stand.class && is_same place stand.place)
one_by stand row (Loading place) held = and-false (is_same row.class stand.class && is_same place stand.place)
one_by stand row (Ready place) held = and-false (is_same row.class stand.class && is_same place stand.place)
one_by stand row (Journey load place) held = and-false (is_same row.class stand.class && is_same place stand.place)
one_by stand row (Yard load place) held = and-false (is_same row.class stand.class && is_same place stand.place)
one_by stand row (Arrived load place) held = and-false (is_same row.class stand.class && is_same place stand.place)
one_by stand row (Unloading place) held = and-false (is_same row.class stand.class && is_same place stand.place)

within_both : (o p q : Ordering) → p ≡ Less → is_lt q ≡ false → (is_lt (ordering_then o p) && not (is_lt (ordering_then o q))) ≡ is_eq o
within_both Less p q h g = refl
within_both Equal p q h g = rw (h, g) refl
within_both Greater p q h g = refl

-- what stands between the first index there and the end
lies : (rows : List WagonRow) (stand : Stand) (k : ℕ) (r : Option WagonRow) → r ≡ slice_get rows k
    → (is_before rows stand (length rows) k && (not (is_before rows stand 0 k) && is_empty_row r)) ≡ test_row (is_empty_at stand.class stand.place) r
lies rows stand k None e = ap (λ b. is_before rows stand (length rows) k && b) (and-false (not (is_before rows stand 0 k))) ∙ and-false (is_before rows stand (length rows) k)
lies rows stand k (Some row) e =
    let within : k < length rows = slice_get_within rows k row (sym e) in
    let here : key_at rows k ≡ (Some (stand_of row), k) = ap (λ (r : Option WagonRow). (option_map stand_of r, k)) (sym e) in
    let low : nat_cmp k (length rows) ≡ Less = (let lt : nat_lt k (length rows) ≡ true = lt-ltb k (length rows) within in rw lt refl) in
    let high : is_lt (nat_cmp k 0) ≡ false = grind (arith, nat_tests) in
    let both : (is_before rows stand (length rows) k && not (is_before rows stand 0 k)) ≡ is_stand stand row =
    ap (λ (q : Option Stand × ℕ). is_lt (compare_keys q (Some stand, length rows)) && not (is_lt (compare_keys q (Some stand, 0)))) here
    ∙ (within_both (compare_stands (stand_of row) stand) (nat_cmp k (length rows)) (nat_cmp k 0) low high ∙ stand_ties stand row) in
    regroup (is_before rows stand (length rows) k) (not (is_before rows stand 0 k)) (is_empty row)
    ∙ (ap (λ b. b && is_empty row) both ∙ one_by stand row row.status row.held)
  where
    regroup : (a b c : Bool) → (a && (b && c)) ≡ ((a && b) && c)
    regroup true b c = refl
    regroup false b c = refl

-- ---- the same list

any_agree : (p q : ℕ → Bool) (xs : List ℕ) → ((x : ℕ) → p x ≡ q x) → list_any p xs ≡ list_any q xs
any_agree p q [] h = refl
any_agree p q (x ∷ xs) h = ap (λ b. b || list_any p xs) (h x) ∙ ap (λ b. q x || b) (any_agree p q xs h)

tie_is : (rows : List WagonRow) (k j : ℕ) → is_eq (compare_indexes rows k j) ≡ nat_eq k j
tie_is rows k j = elim (cases_Bool (nat_eq k j)) [
  | inl here ↦ ap is_eq (ap (compare_indexes rows k) (sym (same_number k j here)) ∙ tied_itself (total rows) k) ∙ sym here
  | inr other ↦ elim (cases_Bool (is_eq (compare_indexes rows k j))) [
    | inl tied ↦ absurd (true_or_false (nat_eq k j) (ap (nat_eq k) (sym (same_index rows k j (equal (compare_indexes rows k j) tied))) ∙ itself k) other)
    | inr differ ↦ differ ∙ sym other
  ]
]
  where
    equal : (o : Ordering) → is_eq o ≡ true → o ≡ Equal
    equal Less h = cc h
    equal Equal h = refl
    equal Greater h = cc h

exact : (rows : List WagonRow) → CmpEqualImpliesEq (compare_indexes rows)
exact rows a b e = same_index rows a b e

module _ (rows : List WagonRow) (stand : Stand) where
  abbrev Stands : ℕ → Type 0
  Stands k = option_map stand_of (slice_get rows k) ≡ Some stand

  by_index : (k j : ℕ) → Stands k → Stands j → nat_cmp k j ≡ Less → compare_indexes rows k j ≡ Less
  by_index k j one other less =
      ap (λ (s : Option Stand). ordering_then (option_cmp compare_stands s (option_map stand_of (slice_get rows j))) (nat_cmp k j)) one
      ∙ (ap (λ (s : Option Stand). ordering_then (option_cmp compare_stands (Some stand) s) (nat_cmp k j)) other
      ∙ (ap (λ o. ordering_then o (nat_cmp k j)) (tied_itself stands_total stand) ∙ less))

  all_less : (k : ℕ) (xs : List ℕ) → Stands k → AllByRecursion Stands xs → AllByRecursion (λ y. nat_cmp k y ≡ Less) xs → AllByRecursion (λ y. compare_indexes rows k y ≡ Less) xs
  all_less k [] here all less = tt
  all_less k (x ∷ xs) here all less = (by_index k x here all.0 less.0, all_less k xs here all.1 less.1)

  in_order : (xs : List ℕ) → AllByRecursion Stands xs → IsStrictlySortedBy nat_cmp xs → IsStrictlySortedBy (compare_indexes rows) xs
  unfolding IsStrictlySortedBy
  in_order [] all sorted = tt
  in_order (x ∷ xs) all sorted = (all_less x xs all.0 all.1 sorted.0, in_order xs all.1 sorted.1)

  both : (a b : Bool) → (a && b) ≡ true → (a ≡ true) × (b ≡ true)
  both true b h = (refl, h)
  both false b h = cc h

  row_stands : (k : ℕ) (r : Option WagonRow) → r ≡ slice_get rows k → test_row (is_empty_at stand.class stand.place) r ≡ true → Stands k
  row_stands k None e h = cc h
  row_stands k (Some row) e h =
      let (here, empty) = both (is_stand stand row) (is_empty row) (one_by stand row row.status row.held ∙ h) in
      let (first, second) = both (is_same row.class stand.class) (is_same (place_of row.status) stand.place) here in
      let class : row.class ≡ stand.class = (bytes_decides row.class stand.class).0 first in
      let place : place_of row.status ≡ stand.place = (bytes_decides (place_of row.status) stand.place).0 second in
      let same : ◌≡◌ {A = Stand} (stand_of row) stand = rw (class, place) refl in
      ap (option_map stand_of) (sym e) ∙ ap Some same

  pub standing_are : (xs : List ℕ) (room : ℕ) → AreListed rows xs room → standing_so rows stand xs ≡ empty_at rows stand.class stand.place
  standing_are xs room h =
      let part : BTreeSet ℕ = record { keys = standing_so rows stand xs } in
      let all : BTreeSet ℕ = record { keys = empty_at rows stand.class stand.place } in
      btree_set_from_contains (total rows) part all
      (IsStrictlySortedBy-filter (compare_indexes rows) (is_before rows stand (length rows)) _ (IsStrictlySortedBy-filter (compare_indexes rows) (λ other. not (is_before rows stand 0 other)) xs h.ascending))
      (in_order (empty_at rows stand.class stand.place) (all_on Stands (empty_at rows stand.class stand.place) (λ k on.
      row_stands k (slice_get rows k) refl (sym (on_from (is_empty_at stand.class stand.place) 0 rows k k (omega arith)) ∙ on)))
      (ascend (is_empty_at stand.class stand.place) 0 rows))
      same (exact rows)
    where
      on_part : (k : ℕ) → is_on (standing_so rows stand xs) k ≡ (is_before rows stand (length rows) k && (not (is_before rows stand 0 k) && is_on xs k))
      on_part k =
          any-filter_same (nat_eq k) (is_before rows stand (length rows)) (is_before rows stand (length rows) k) (λ j tied. ap (is_before rows stand (length rows)) (sym (same_number k j tied))) _
          ∙ ap (λ b. is_before rows stand (length rows) k && b)
          (any-filter_same (nat_eq k) (λ other. not (is_before rows stand 0 other)) (not (is_before rows stand 0 k)) (λ j tied. ap (λ n. not (is_before rows stand 0 n)) (sym (same_number k j tied))) xs)

      same : (k : ℕ) → list_any (is_at (compare_indexes rows k)) (standing_so rows stand xs) ≡ list_any (is_at (compare_indexes rows k)) (empty_at rows stand.class stand.place)
      same k =
          any_agree (is_at (compare_indexes rows k)) (nat_eq k) (standing_so rows stand xs) (tie_is rows k)
          ∙ (on_part k
          ∙ (ap (λ b. is_before rows stand (length rows) k && (not (is_before rows stand 0 k) && b)) (h.exactly k)
          ∙ (lies rows stand k (slice_get rows k) refl
          ∙ (sym (on_from (is_empty_at stand.class stand.place) 0 rows k k (omega arith))
          ∙ sym (any_agree (is_at (compare_indexes rows k)) (nat_eq k) (empty_at rows stand.class stand.place) (tie_is rows k))))))

-- ---- their wagons

module _ (class place : List ℕ) (wagon_at : ℕ → Option FreeWagon) where
  one_kept : (wagon : FreeWagon) (first : ℕ) (rest : List ℕ) (wagons : List FreeWagon) (b : Bool) → wagon_at first ≡ Some wagon → filter_map wagon_at rest ≡ wagons
      → filter_map wagon_at (cond b (first ∷ rest) rest) ≡ cond b (wagon ∷ wagons) wagons
  one_kept wagon first rest wagons true here later = ap (λ o. cons_option o (filter_map wagon_at rest)) here ∙ ap (λ ws. wagon ∷ ws) later
  one_kept wagon first rest wagons false here later = later

  kept_step : (o : Option FreeWagon) (first : ℕ) (rest : List ℕ) (wagons : List FreeWagon) → wagon_at first ≡ o → filter_map wagon_at rest ≡ filter (is_of_class_at class place) wagons
      → filter_map wagon_at (cond (is_one_at class place o) (first ∷ rest) rest) ≡ filter (is_of_class_at class place) (cons_option o wagons)
  kept_step None first rest wagons here later = later
  kept_step (Some wagon) first rest wagons here later = one_kept wagon first rest (filter (is_of_class_at class place) wagons) (is_of_class_at class place wagon) here later

wagons_from : (class place : List ℕ) (first : ℕ) (rows all : List WagonRow) → ((k : ℕ) → slice_get all (first + k) ≡ slice_get rows k)
    → filter_map (λ k. empty_in (slice_get all k)) (indexes_from (is_empty_at class place) first rows) ≡ empty_wagons rows class place
wagons_from class place first [] all h = refl
wagons_from class place first (row ∷ rows) all h =
    let next : first ≡ first + 0 = omega arith in
    kept_step class place (λ k. empty_in (slice_get all k)) (empty_of row) first (indexes_from (is_empty_at class place) (first + 1) rows) (filter_map empty_of rows) (ap empty_in (ap (slice_get all) next ∙ h 0))
    (wagons_from class place (first + 1) rows all (λ k. let same : first + 1 + k ≡ first + suc k = omega arith in ap (slice_get all) same ∙ h (suc k)))

pub wagons_are : (class place : List ℕ) (rows : List WagonRow) → filter_map (λ k. empty_in (slice_get rows k)) (empty_at rows class place) ≡ empty_wagons rows class place
wagons_are class place rows = wagons_from class place 0 rows rows (λ k. let same : 0 + k ≡ k = omega arith in ap (slice_get rows) same)

-- ---- counted

abbrev pub unpromised_at : List WagonRow → ℕ → Bool
unpromised_at rows k = is_unpromised (slice_get rows k)

free_by_promise : (class place : List ℕ) (row : WagonRow) (status : Status) (held : Bool) (promise : Option (List ℕ))
    → (is_one_at class place (free_by row status held None) && not (is_some promise)) ≡ is_one_at class place (free_by row status held promise)
free_by_promise class place row (Empty at ready) false None = and-true _
free_by_promise class place row (Empty at ready) false (Some order) = and-false _
free_by_promise class place row (Empty at ready) true promise = refl
free_by_promise class place row (Loading at) held promise = refl
free_by_promise class place row (Ready at) held promise = refl
free_by_promise class place row (Journey load at) held promise = refl
free_by_promise class place row (Yard load at) held promise = refl
free_by_promise class place row (Arrived load at) held promise = refl
free_by_promise class place row (Unloading at) held promise = refl

free_is : (class place : List ℕ) (row : WagonRow) → (is_empty_at class place row && not (is_some row.promise)) ≡ is_free_at class place row
unfolding free_of
free_is class place row = free_by_promise class place row row.status row.held row.promise

count_step : (f : ℕ → Bool) (b free : Bool) (k : ℕ) (rest : List ℕ) → f k ≡ free → count_by f (cond b (k ∷ rest) rest) ≡ cond (b && free) 1 0 + count_by f rest
count_step f true free k rest h = sum_by-cons (λ (x : ℕ). cond (f x) 1 0) k rest ∙ ap (λ t. cond t 1 0 + count_by f rest) h
count_step f false free k rest h = let same : count_by f rest ≡ 0 + count_by f rest = omega arith in same

counted_from : (class place : List ℕ) (first : ℕ) (rows all : List WagonRow) → ((k : ℕ) → slice_get all (first + k) ≡ slice_get rows k)
    → count_by (unpromised_at all) (indexes_from (is_empty_at class place) first rows) ≡ count_by (is_free_at class place) rows
counted_from class place first [] all h = refl
counted_from class place first (row ∷ rows) all h =
    let next : first ≡ first + 0 = omega arith in
    let here : unpromised_at all first ≡ not (is_some row.promise) = ap is_unpromised (ap (slice_get all) next ∙ h 0) in
    let later = counted_from class place (first + 1) rows all (λ k. let same : first + 1 + k ≡ first + suc k = omega arith in ap (slice_get all) same ∙ h (suc k)) in
    count_step (unpromised_at all) (is_empty_at class place row) (not (is_some row.promise)) first (indexes_from (is_empty_at class place) (first + 1) rows) here
    ∙ (ap (λ b. cond b 1 0 + count_by (unpromised_at all) (indexes_from (is_empty_at class place) (first + 1) rows)) (free_is class place row)
    ∙ (ap (λ n. cond (is_free_at class place row) 1 0 + n) later ∙ sym (sum_by-cons (λ (r : WagonRow). cond (is_free_at class place r) 1 0) row rows)))

-- ---- cut out of the list

module _ (rows : List WagonRow) (stand : Stand) (xs : List ℕ) where
  pub rest_is : (i : ℕ) → i ≤ length xs → AllWithin (λ x. is_before rows stand 0 x ≡ true) xs 0 i → AllWithin (λ x. is_before rows stand 0 x ≡ false) xs i (length xs)
      → drop i xs ≡ filter (λ other. not (is_before rows stand 0 other)) xs
  rest_is i within before after = (parts_are (is_before rows stand 0) xs i before after within).1

  pub rest_ascends : (i : ℕ) → i ≤ length xs → AllWithin (λ x. is_before rows stand 0 x ≡ true) xs 0 i → AllWithin (λ x. is_before rows stand 0 x ≡ false) xs i (length xs)
      → IsStrictlySortedBy (compare_indexes rows) xs → IsStrictlySortedBy (compare_indexes rows) (drop i xs)
  rest_ascends i within before after sorted =
      subst (IsStrictlySortedBy (compare_indexes rows)) (sym (rest_is i within before after)) (IsStrictlySortedBy-filter (compare_indexes rows) (λ other. not (is_before rows stand 0 other)) xs sorted)

  pub cut_out : (i j : ℕ) (ys : List ℕ) → i ≤ length xs → AllWithin (λ x. is_before rows stand 0 x ≡ true) xs 0 i → AllWithin (λ x. is_before rows stand 0 x ≡ false) xs i (length xs)
      → ys ≡ drop i xs → j ≤ length ys → AllWithin (λ x. is_before rows stand (length rows) x ≡ true) ys 0 j → AllWithin (λ x. is_before rows stand (length rows) x ≡ false) ys j (length ys)
      → take j ys ≡ standing_so rows stand xs
  cut_out i j ys within before after is few first last =
      (parts_are (is_before rows stand (length rows)) ys j first last few).0 ∙ ap (filter (is_before rows stand (length rows))) (is ∙ rest_is i within before after)

pub free_counted : (class place : List ℕ) (rows : List WagonRow) → count_by (unpromised_at rows) (empty_at rows class place) ≡ count_by (is_free_at class place) rows
free_counted class place rows = counted_from class place 0 rows rows (λ k. let same : 0 + k ≡ k = omega arith in ap (slice_get rows) same)
