-- The list of the empty wagons that nobody holds.
use Rattle.std.proofs.Common.{◌≡◌, ◌∙◌, ℕ, zero, suc, ◌<◌, Bool, true, false, cond, not, ◌&&◌, ◌||◌, nat_eq, List, [], ◌∷◌, length, get_or, refl, ap, sym, subst, inl, inr, arith}
use Rattle.std.specs.Prelude.{Option, Some, None, option_map, slice_get}
use Rattle.std.specs.Cmp.{IsTotalOrder, unsigned_ties}
use Rattle.std.specs.List.{AllByRecursion, AllWithin, insert, remove}
use Rattle.std.specs.List.Sorted.{IsPartitionedBy, IsPartitionPoint, IsStrictlySortedBy}
use Rattle.std.specs.Cmp.Lexicographic.{bytes_decides, options_total}
use Rattle.std.specs.Ordering.{is_eq, is_lt, nat_cmp, ordering_then}
use Rattle.std.specs.declared.cmp.Ordering.{Ordering}
use Rattle.std.specs.declared.cmp.Ordering.TheVariants.{Less, Equal, Greater}
use Rattle.std.proofs.lemmas.Bool.{cases_Bool, cases_lt}
use Rattle.std.proofs.lemmas.Bool.Decides.{nat_tests}
use Rattle.std.proofs.lemmas.Cmp.{nat_cmp_total, nat_list_cmp_total, on_total, then_total, tied_itself}
use Rattle.std.proofs.lemmas.List.Folds.{list_any_at}
use Rattle.std.proofs.lemmas.Map.Keys.{Less-from_sorted, sorted_head, sorted_tail}
use Rattle.std.proofs.lemmas.Map.Views.{any-filter_same}
use Rattle.std.proofs.lemmas.Option.{slice_get-get_or}
use Rattle.wagons_and_orders.specs.declared.wagon_row.WagonRow.{WagonRow}
use Rattle.fleet_rows.specs.EmptyWagons.{is_empty}
use Rattle.fleet_rows.specs.declared.empty_wagons.Stand.{Stand}
use Rattle.fleet_rows.specs.inner.EmptyList.{compare_indexes, compare_keys, compare_stands, empty_stand, is_before, is_empty_row, is_on, key_at, stand_of}
use Rattle.fleet_rows.specs.inner.Indexed.{without_index}
use Rattle.fleet_rows.proofs.Named.{is_same}
use Rattle.fleet_rows.proofs.RosterLemmas.{sorted_insert}

-- ---- the order

pub stands_total : IsTotalOrder compare_stands
stands_total = then_total (on_total (λ (s : Stand). s.place) nat_list_cmp_total) (on_total (λ (s : Stand). s.class) nat_list_cmp_total)

keys_total : IsTotalOrder compare_keys
keys_total =
    then_total (on_total (λ (k : Option Stand × ℕ). k.0) (options_total stands_total))
    (on_total (λ (k : Option Stand × ℕ). k.1) nat_cmp_total)

pub total : (rows : List WagonRow) → IsTotalOrder (compare_indexes rows)
total rows = on_total (key_at rows) keys_total

last_equal : (o p : Ordering) → ordering_then o p ≡ Equal → p ≡ Equal
last_equal Less p h = cc h
last_equal Equal p h = h
last_equal Greater p h = cc h

equal_numbers : (i j : ℕ) → nat_cmp i j ≡ Equal → i ≡ j
equal_numbers i j h = let e : nat_eq i j ≡ true = unsigned_ties i j ∙ ap is_eq h in grind (arith, nat_tests, e)

pub same_index : (rows : List WagonRow) (i j : ℕ) → compare_indexes rows i j ≡ Equal → i ≡ j
same_index rows i j h = equal_numbers i j (last_equal _ (nat_cmp i j) h)

is_less : (o : Ordering) → is_lt o ≡ true → o ≡ Less
is_less Less h = refl
is_less Equal h = cc h
is_less Greater h = cc h

is_greater : (o : Ordering) → is_lt o ≡ false → (o ≡ Equal → ⊥) → o ≡ Greater
is_greater Less h other = cc h
is_greater Equal h other = absurd (other refl)
is_greater Greater h other = refl

no_less : (o : Ordering) → is_lt o ≡ false → o ≡ Less → ⊥
no_less o h e = cc (rw e at h)

-- ---- those before an index

pub parted : (rows : List WagonRow) (stand : Stand) (index : ℕ) (xs : List ℕ) → IsStrictlySortedBy (compare_indexes rows) xs → IsPartitionedBy (is_before rows stand index) xs
parted rows stand index xs sorted i j d le within h = elim (cases_lt i j) [
  | inl lt ↦
      ap is_lt
      (keys_total.trans (key_at rows (get_or xs i d)) (key_at rows (get_or xs j d)) (Some stand, index) (Less-from_sorted (compare_indexes rows) xs i j d sorted lt within)
      (is_less (compare_keys (key_at rows (get_or xs j d)) (Some stand, index)) h))
  | inr ge ↦ let same : i ≡ j = omega arith in rw same h
]

pub same_number : (i j : ℕ) → nat_eq i j ≡ true → i ≡ j
same_number i j h = grind (arith, nat_tests, h)

pub itself : (i : ℕ) → nat_eq i i ≡ true
itself i = grind (arith, nat_tests)

pub apart : (i j : ℕ) → (i ≡ j → ⊥) → nat_eq i j ≡ false
apart i j differ = elim (cases_Bool (nat_eq i j)) [
  | inl same ↦ absurd (differ (same_number i j same))
  | inr other ↦ other
]

pub true_or_false : (b : Bool) → b ≡ true → b ≡ false → ⊥
true_or_false b h e = cc (h, e)

-- what is on a list has what all on it have
pub on_list : (P : ℕ → Type 0) (xs : List ℕ) (k : ℕ) → AllByRecursion P xs → is_on xs k ≡ true → P k
on_list P [] k all on = cc on
on_list P (x ∷ xs) k all on = elim (cases_Bool (nat_eq k x)) [
  | inl here ↦ subst P (sym (same_number k x here)) all.0
  | inr later ↦ on_list P xs k all.1 (rw later at on)
]

-- and the other way round
pub all_on : (P : ℕ → Type 0) (xs : List ℕ) → ((k : ℕ) → is_on xs k ≡ true → P k) → AllByRecursion P xs
all_on P [] h = tt
all_on P (x ∷ xs) h = (h x (ap (λ b. b || is_on xs x) (itself x)), all_on P xs (λ k on. h k (later (nat_eq k x) (is_on xs k) on)))
  where
    later : (a b : Bool) → b ≡ true → (a || b) ≡ true
    later true b e = refl
    later false b e = e

module _ (rows : List WagonRow) (stand : Stand) (index : ℕ) (at : option_map stand_of (slice_get rows index) ≡ Some stand) (xs : List ℕ) (sorted : IsStrictlySortedBy (compare_indexes rows) xs)
    (i : ℕ) (parts : IsPartitionPoint (λ other. is_before rows stand index other ≡ true) (λ other. is_before rows stand index other ≡ false) xs i) where
  before_is : (other : ℕ) → is_before rows stand index other ≡ is_lt (compare_indexes rows other index)
  before_is other = ap (λ (s : Option Stand). is_lt (compare_keys (key_at rows other) (s, index))) (sym at)

  less_before : AllWithin (λ x. compare_indexes rows x index ≡ Less) xs 0 i
  less_before k d from below = is_less (compare_indexes rows (get_or xs k d) index) (sym (before_is (get_or xs k d)) ∙ parts.0 k d from below)

  not_less : AllWithin (λ x. is_lt (compare_indexes rows x index) ≡ false) xs i (length xs)
  not_less k d from below = sym (before_is (get_or xs k d)) ∙ parts.1 k d from below

  greater_from : is_on xs index ≡ false → AllWithin (λ x. compare_indexes rows x index ≡ Greater) xs i (length xs)
  greater_from absent k d from below = is_greater (compare_indexes rows (get_or xs k d) index) (not_less k d from below) (λ e.
      let same : nat_eq index (get_or xs k d) ≡ true = ap (nat_eq index) (same_index rows (get_or xs k d) index e) ∙ itself index in
      true_or_false (is_on xs index) (list_any_at (nat_eq index) xs k d below same) absent)

  -- one more in its place
  pub sorted_with : is_on xs index ≡ false → IsStrictlySortedBy (compare_indexes rows) (insert xs i index)
  sorted_with absent = sorted_insert (total rows) index xs i sorted less_before (greater_from absent)

-- ---- one more, and one less

or_swap : (a b c : Bool) → (a || (b || c)) ≡ (b || (a || c))
or_swap true true c = refl
or_swap true false c = refl
or_swap false true c = refl
or_swap false false c = refl

pub on-insert : (k : ℕ) (xs : List ℕ) (i y : ℕ) → is_on (insert xs i y) k ≡ (nat_eq k y || is_on xs k)
on-insert k xs zero y = refl
on-insert k [] (suc i) y = refl
on-insert k (x ∷ xs) (suc i) y = ap (λ b. nat_eq k x || b) (on-insert k xs i y) ∙ or_swap (nat_eq k x) (nat_eq k y) (is_on xs k)

pub on-without : (k j : ℕ) (xs : List ℕ) → is_on (without_index k xs) j ≡ (not (nat_eq j k) && is_on xs j)
on-without k j xs = any-filter_same (nat_eq j) (λ other. not (nat_eq other k)) (not (nat_eq j k)) (λ other same. ap (λ n. not (nat_eq n k)) (sym (same_number j other same))) xs

pub absent_stays : (k : ℕ) (xs : List ℕ) → is_on xs k ≡ false → without_index k xs ≡ xs
absent_stays k [] h = refl
absent_stays k (x ∷ xs) h =
    let other : nat_eq x k ≡ false = apart x k (λ e. true_or_false (is_on (x ∷ xs) k) (ap (λ b. b || is_on xs k) (ap (nat_eq k) e ∙ itself k)) h) in
    rw other (ap (λ rest. x ∷ rest) (absent_stays k xs (later (nat_eq k x) (is_on xs k) h)))
  where
    later : (a b : Bool) → (a || b) ≡ false → b ≡ false
    later true b e = cc e
    later false b e = e

module _ (rows : List WagonRow) (k : ℕ) where
  none_less : (xs : List ℕ) → AllByRecursion (λ y. compare_indexes rows k y ≡ Less) xs → is_on xs k ≡ false
  none_less xs all = elim (cases_Bool (is_on xs k)) [
    | inl on ↦
        let less : compare_indexes rows k k ≡ Less = on_list (λ y. compare_indexes rows k y ≡ Less) xs k all on in
        cc (less, tied_itself (total rows) k)
    | inr off ↦ off
  ]

  pub removed_is : (xs : List ℕ) (i : ℕ) → IsStrictlySortedBy (compare_indexes rows) xs → is_on xs k ≡ true → AllWithin (λ x. compare_indexes rows x k ≡ Less) xs 0 i
      → AllWithin (λ x. is_lt (compare_indexes rows x k) ≡ false) xs i (length xs) → (i < length xs) × (remove xs i ≡ without_index k xs)
  removed_is [] i sorted on before after = cc on
  removed_is (x ∷ xs) zero sorted on before after = elim (cases_Bool (nat_eq k x)) [
    | inl here ↦
        let same : k ≡ x = same_number k x here in
        let back : nat_eq x k ≡ true = ap (λ n. nat_eq n k) (sym same) ∙ itself k in
        let above : AllByRecursion (λ y. compare_indexes rows k y ≡ Less) xs = subst (λ n. AllByRecursion (λ y. compare_indexes rows n y ≡ Less) xs) (sym same) (sorted_head (compare_indexes rows) x xs sorted) in
        (omega arith, rw back (sym (absent_stays k xs (none_less xs above))))
    | inr later ↦
        let less : compare_indexes rows x k ≡ Less = on_list (λ y. compare_indexes rows x y ≡ Less) xs k (sorted_head (compare_indexes rows) x xs sorted) (rw later at on) in
        absurd (no_less (compare_indexes rows x k) (after 0 x (omega arith) (omega arith)) less)
  ]
  removed_is (x ∷ xs) (suc i) sorted on before after =
      let less : compare_indexes rows x k ≡ Less = before 0 x (omega arith) (omega arith) in
      let other : nat_eq x k ≡ false = apart x k (λ e. let itself_less : compare_indexes rows k k ≡ Less = subst (λ n. compare_indexes rows n k ≡ Less) e less in cc (itself_less, tied_itself (total rows) k)) in
      let front : nat_eq k x ≡ false = apart k x (λ e. true_or_false (nat_eq x k) (ap (nat_eq x) e ∙ itself x) other) in
      let (within, rest) = removed_is xs i (sorted_tail (compare_indexes rows) x xs sorted) (rw front at on) (λ n d from below. before (suc n) d (omega arith) (omega arith)) (λ n d from below. after (suc n) d (omega arith) (omega arith)) in
      (omega (arith, within), rw other (ap (λ ys. x ∷ ys) rest))

-- ---- the wagon of a row

both : (a b : Bool) → (a && b) ≡ true → (a ≡ true) × (b ≡ true)
both true b h = (refl, h)
both false b h = cc h

pub one_stand : (a b : Stand) → (is_same a.place b.place && is_same a.class b.class) ≡ true → a ≡ b
one_stand a b h =
    let (first, second) = both (is_same a.place b.place) (is_same a.class b.class) h in
    let place : a.place ≡ b.place = (bytes_decides a.place b.place).0 first in
    let class : a.class ≡ b.class = (bytes_decides a.class b.class).0 second in
    let fields : ◌≡◌ {A = Stand} (record { place = a.place; class = a.class }) (record { place = b.place; class = b.class }) = rw (place, class) refl in
    fields

pub stands : (b : Bool) (s t : Stand) → cond b (Some s) None ≡ Some t → (b ≡ true) × (s ≡ t)
stands true s t h = (refl, cc h)
stands false s t h = cc h

pub stands_not : (b : Bool) (s : Stand) → cond b (Some s) None ≡ None → b ≡ false
stands_not true s h = cc h
stands_not false s h = refl

pub row_stands : (rows : List WagonRow) (k : ℕ) (row : WagonRow) (stand : Stand) → slice_get rows k ≡ Some row → empty_stand row ≡ Some stand
    → (is_empty_row (slice_get rows k) ≡ true) × (option_map stand_of (slice_get rows k) ≡ Some stand)
row_stands rows k row stand there h =
    let (empty, same) = stands (is_empty row) (stand_of row) stand h in
    (ap is_empty_row there ∙ empty, ap (option_map stand_of) there ∙ ap Some same)

pub row_stands_not : (rows : List WagonRow) (k : ℕ) (row : WagonRow) → slice_get rows k ≡ Some row → empty_stand row ≡ None → is_empty_row (slice_get rows k) ≡ false
row_stands_not rows k row there h = ap is_empty_row there ∙ stands_not (is_empty row) (stand_of row) h

-- ---- taken off, put on

module _ (rows : List WagonRow) (k : ℕ) (row : WagonRow) (r : Option Stand) (xs : List ℕ) (within : k < length rows) (read : row ≡ get_or rows k row) (is : r ≡ empty_stand row) where
  there : slice_get rows k ≡ Some row
  there = slice_get-get_or rows k row within ∙ ap Some (sym read)

  pub empty_there : (stand : Stand) → r ≡ Some stand → is_empty_row (slice_get rows k) ≡ true
  empty_there stand h = (row_stands rows k row stand there (sym is ∙ h)).0

  pub not_there : r ≡ None → is_empty_row (slice_get rows k) ≡ false
  not_there h = row_stands_not rows k row there (sym is ∙ h)

  pub taken_off : (stand : Stand) (i : ℕ) → r ≡ Some stand → IsStrictlySortedBy (compare_indexes rows) xs → is_on xs k ≡ is_empty_row (slice_get rows k)
      → IsPartitionPoint (λ other. is_before rows stand k other ≡ true) (λ other. is_before rows stand k other ≡ false) xs i → (i < length xs) × (remove xs i ≡ without_index k xs)
  taken_off stand i h sorted on parts =
      let (empty, at) = row_stands rows k row stand there (sym is ∙ h) in
      removed_is rows k xs i sorted (on ∙ empty) (less_before rows stand k at xs sorted i parts) (not_less rows stand k at xs sorted i parts)

  pub put_there : (stand : Stand) (i : ℕ) → r ≡ Some stand → IsStrictlySortedBy (compare_indexes rows) xs → is_on xs k ≡ false
      → IsPartitionPoint (λ other. is_before rows stand k other ≡ true) (λ other. is_before rows stand k other ≡ false) xs i → IsStrictlySortedBy (compare_indexes rows) (insert xs i k)
  put_there stand i h sorted absent parts =
      let (empty, at) = row_stands rows k row stand there (sym is ∙ h) in
      sorted_with rows stand k at xs sorted i parts absent

-- which are on the list then
pub with_it : (a b c : Bool) → b ≡ true → (a || c) ≡ ((a && b) || c)
with_it true b c h = rw h refl
with_it false b c h = refl

pub without_it : (a b c : Bool) → b ≡ false → c ≡ ((a && b) || c)
without_it true b c h = rw h refl
without_it false b c h = refl
