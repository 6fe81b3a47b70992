-- The list of the empty wagons that nobody holds, once a row is put in the place of another, and row after row.
use Rattle.std.proofs.Common.{◌≡◌, ◌∙◌, ℕ, zero, suc, ◌+◌, ◌<◌, ◌≤◌, Bool, true, false, cond, not, ◌&&◌, ◌||◌, nat_eq, nat_lt, List, [], ◌∷◌, length, take, get_or, count_by, refl, ap, sym, subst, inl, inr, arith}
use Rattle.std.specs.Prelude.{Option, Some, None, option_map, slice_get}
use Rattle.std.specs.List.{AllByRecursion, slice_set}
use Rattle.std.specs.List.Sorted.{IsStrictlySortedBy}
use Rattle.std.specs.declared.cmp.Ordering.TheVariants.{Less}
use Rattle.std.proofs.lemmas.Bool.{cases_Bool, cases_lt, le-ltb, lt-ltb}
use Rattle.std.proofs.lemmas.Bool.Decides.{nat_tests}
use Rattle.std.proofs.lemmas.List.{length-set, length-take-le}
use Rattle.std.proofs.lemmas.List.Kept.{IsStrictlySortedBy-filter}
use Rattle.std.proofs.lemmas.List.Sums.{count_by-le-length, count_by_more_no, count_by_more_yes, sum_by-set}
use Rattle.std.proofs.lemmas.Option.{slice_get-get_or, slice_get_past}
use Rattle.std.proofs.Math.Bool.{or-false}
use Rattle.std.proofs.Math.Seq.{take-length}
use Rattle.wagons_and_orders.specs.declared.wagon_row.WagonRow.{WagonRow}
use Rattle.fleet_rows.specs.EmptyWagons.{is_empty}
use Rattle.fleet_rows.specs.declared.empty_wagons.Stand.{Stand}
use Rattle.fleet_rows.specs.inner.EmptyList.{AreListed, compare_indexes, compare_keys, empty_stand, is_empty_row, is_on, key_at, stand_of}
use Rattle.fleet_rows.specs.inner.Indexed.{without_index}
use Rattle.fleet_rows.proofs.EmptyList.{all_on, itself, on-without, same_number, true_or_false}

-- ---- rows where a row was put in the place of another

get_here : {X : Type 0} (xs : List X) (k : ℕ) (y : X) → k < length xs → slice_get (slice_set xs k y) k ≡ Some y
get_here [] k y h = absurd (omega (arith, h))
get_here (x ∷ xs) zero y h = refl
get_here (x ∷ xs) (suc k) y h = get_here xs k y (omega (arith, h))

get_other : {X : Type 0} (xs : List X) (k j : ℕ) (y : X) → (j ≡ k → ⊥) → slice_get (slice_set xs k y) j ≡ slice_get xs j
get_other [] k j y h = refl
get_other (x ∷ xs) zero zero y h = absurd (h refl)
get_other (x ∷ xs) zero (suc j) y h = refl
get_other (x ∷ xs) (suc k) zero y h = refl
get_other (x ∷ xs) (suc k) (suc j) y h = get_other xs k j y (λ e. h (ap suc e))

-- what is in order stays so where no wagon on the list has moved
less_still : (rows rows' : List WagonRow) (x : ℕ) (xs : List ℕ) → key_at rows' x ≡ key_at rows x → AllByRecursion (λ i. key_at rows' i ≡ key_at rows i) xs
    → AllByRecursion (λ y. compare_indexes rows x y ≡ Less) xs → AllByRecursion (λ y. compare_indexes rows' x y ≡ Less) xs
less_still rows rows' x [] e same all = tt
less_still rows rows' x (y ∷ ys) e same all =
    (ap (λ k. compare_keys k (key_at rows' y)) e ∙ (ap (compare_keys (key_at rows x)) same.0 ∙ all.0), less_still rows rows' x ys e same.1 all.1)

in_order_still : (rows rows' : List WagonRow) (xs : List ℕ) → AllByRecursion (λ i. key_at rows' i ≡ key_at rows i) xs → IsStrictlySortedBy (compare_indexes rows) xs → IsStrictlySortedBy (compare_indexes rows') xs
unfolding IsStrictlySortedBy
in_order_still rows rows' [] same sorted = tt
in_order_still rows rows' (x ∷ xs) same sorted = (less_still rows rows' x xs same.0 same.1 sorted.0, in_order_still rows rows' xs same.1 sorted.1)

stays_equal : (b c : Bool) (s t : Stand) → cond b (Some s) None ≡ cond c (Some t) None → (b ≡ c) × (b ≡ true → s ≡ t)
stays_equal true true s t h = (refl, λ _. cc h)
stays_equal true false s t h = cc h
stays_equal false true s t h = cc h
stays_equal false false s t h = (refl, λ e. cc e)

abbrev one_if : Bool → ℕ
one_if b = cond b 1 0

first_is : (a b : Bool) → (not a && b) ≡ true → a ≡ false
first_is true b h = cc h
first_is false b h = refl

come_and_gone : (q e e' r r' : Bool) → (q ≡ true → r' ≡ e') → (q ≡ false → r' ≡ r) → ((q && e') || (not q && r)) ≡ r'
come_and_gone true e e' r r' h o = or-false e' ∙ sym (h refl)
come_and_gone false e e' r r' h o = sym (o refl)

module _ (rows : List WagonRow) (k : ℕ) (old new : WagonRow) (xs : List ℕ) (room : ℕ) (within : k < length rows) (read : old ≡ get_or rows k old) (h : AreListed rows xs room) where
  there : slice_get rows k ≡ Some old
  there = slice_get-get_or rows k old within ∙ ap Some (sym read)

  row_at : (j : ℕ) → (j ≡ k → ⊥) → slice_get (slice_set rows k new) j ≡ slice_get rows j
  row_at j differ = get_other rows k j new differ

  now_there : slice_get (slice_set rows k new) k ≡ Some new
  now_there = get_here rows k new within

  counts : count_by is_empty (slice_set rows k new) + cond (is_empty old) 1 0 ≡ count_by is_empty rows + cond (is_empty new) 1 0
  counts =
      subst (λ (r : WagonRow). count_by is_empty (slice_set rows k new) + cond (is_empty r) 1 0 ≡ count_by is_empty rows + cond (is_empty new) 1 0) (sym read)
      (sum_by-set (λ (r : WagonRow). cond (is_empty r) 1 0) rows k new old within)

  room_for_all : length (slice_set rows k new) ≤ room
  room_for_all = omega (arith, length-set rows k new, h.room_for_all)

  -- where its wagon stands as before, or both times not
  pub listed_still : empty_stand old ≡ empty_stand new → AreListed (slice_set rows k new) xs room
  listed_still same =
      let (as_before, stand) = stays_equal (is_empty old) (is_empty new) (stand_of old) (stand_of new) same in
      record {
        ascending = in_order_still rows (slice_set rows k new) xs (all_on (λ i. key_at (slice_set rows k new) i ≡ key_at rows i) xs (λ i on. elim (cases_Bool (nat_eq i k)) [
          | inl here ↦
              let e : i ≡ k = same_number i k here in
              let empty : is_empty old ≡ true = sym (ap is_empty_row there) ∙ (ap (λ n. is_empty_row (slice_get rows n)) (sym e) ∙ (sym (h.exactly i) ∙ on)) in
              let rows_here : option_map stand_of (slice_get (slice_set rows k new) i) ≡ option_map stand_of (slice_get rows i) =
              ap (λ n. option_map stand_of (slice_get (slice_set rows k new) n)) e ∙ (ap (option_map stand_of) now_there
              ∙ (ap Some (sym (stand empty)) ∙ (sym (ap (option_map stand_of) there) ∙ ap (λ n. option_map stand_of (slice_get rows n)) (sym e)))) in
              ap (λ (s : Option Stand). (s, i)) rows_here
          | inr other ↦ ap (λ (r : Option WagonRow). (option_map stand_of r, i)) (row_at i (λ e. true_or_false (nat_eq i k) (ap (nat_eq i) (sym e) ∙ itself i) other))
        ])) h.ascending;
        exactly = λ i. h.exactly i ∙ elim (cases_Bool (nat_eq i k)) [
          | inl here ↦
              let e : i ≡ k = same_number i k here in
              ap (λ n. is_empty_row (slice_get rows n)) e ∙ (ap is_empty_row there ∙ (as_before ∙ (sym (ap is_empty_row now_there) ∙ ap (λ n. is_empty_row (slice_get (slice_set rows k new) n)) (sym e))))
          | inr other ↦ ap is_empty_row (sym (row_at i (λ e. true_or_false (nat_eq i k) (ap (nat_eq i) (sym e) ∙ itself i) other)))
        ];
        counted = let all = counts in let alike : one_if (is_empty old) ≡ one_if (is_empty new) = ap one_if as_before in omega (arith, h.counted, all, alike);
        room_for_all = room_for_all;
      }

  -- the others are in order
  pub others_ascend : IsStrictlySortedBy (compare_indexes (slice_set rows k new)) (without_index k xs)
  others_ascend =
      in_order_still rows (slice_set rows k new) (without_index k xs)
      (all_on (λ i. key_at (slice_set rows k new) i ≡ key_at rows i) (without_index k xs) (λ i on.
      let other : nat_eq i k ≡ false = first_is (nat_eq i k) (is_on xs i) (sym (on-without k i xs) ∙ on) in
      ap (λ (r : Option WagonRow). (option_map stand_of r, i)) (row_at i (λ e. true_or_false (nat_eq i k) (ap (nat_eq i) (sym e) ∙ itself i) other))))
      (IsStrictlySortedBy-filter (compare_indexes rows) (λ other. not (nat_eq other k)) xs h.ascending)

  pub gone : is_on (without_index k xs) k ≡ false
  gone = on-without k k xs ∙ ap (λ b. not b && is_on xs k) (itself k)

  counted_with : (n : ℕ) → n + cond (is_empty_row (slice_get rows k)) 1 0 ≡ length xs → n + cond (is_empty_row (slice_get (slice_set rows k new) k)) 1 0 ≡ count_by is_empty (slice_set rows k new)
  counted_with n fewer =
      let all = counts in
      let was : one_if (is_empty_row (slice_get rows k)) ≡ one_if (is_empty old) = ap (λ r. one_if (is_empty_row r)) there in
      let is : one_if (is_empty_row (slice_get (slice_set rows k new) k)) ≡ one_if (is_empty new) = ap (λ r. one_if (is_empty_row r)) now_there in
      omega (arith, fewer, h.counted, all, was, is)

  -- there is room for it
  pub room_there : (n : ℕ) → n + cond (is_empty_row (slice_get rows k)) 1 0 ≡ length xs → n + cond (is_empty_row (slice_get (slice_set rows k new) k)) 1 0 ≤ room
  room_there n fewer =
      let all = counted_with n fewer in
      let few : count_by is_empty (slice_set rows k new) ≤ length (slice_set rows k new) = count_by-le-length is_empty (slice_set rows k new) in
      let enough = room_for_all in
      omega (arith, all, few, enough)

  pub listed_again : (ys : List ℕ) (more : ℕ) (n : ℕ) → n + cond (is_empty_row (slice_get rows k)) 1 0 ≡ length xs
      → IsStrictlySortedBy (compare_indexes (slice_set rows k new)) ys
      → ((i : ℕ) → is_on ys i ≡ ((nat_eq i k && is_empty_row (slice_get (slice_set rows k new) k)) || is_on (without_index k xs) i))
      → length ys ≡ n + cond (is_empty_row (slice_get (slice_set rows k new) k)) 1 0 → room ≤ more → AreListed (slice_set rows k new) ys more
  listed_again ys more n fewer sorted on long enough = record {
    ascending = sorted;
    exactly = λ i.
        on i ∙ (ap (λ b. (nat_eq i k && is_empty_row (slice_get (slice_set rows k new) k)) || b) (on-without k i xs ∙ ap (λ b. not (nat_eq i k) && b) (h.exactly i))
        ∙ come_and_gone (nat_eq i k) (is_empty_row (slice_get rows k)) (is_empty_row (slice_get (slice_set rows k new) k)) (is_empty_row (slice_get rows i)) (is_empty_row (slice_get (slice_set rows k new) i))
        (λ here. ap (λ n. is_empty_row (slice_get (slice_set rows k new) n)) (same_number i k here))
        (λ other. ap is_empty_row (row_at i (λ e. true_or_false (nat_eq i k) (ap (nat_eq i) (sym e) ∙ itself i) other))));
    counted = long ∙ counted_with n fewer;
    room_for_all = let all = room_for_all in omega (arith, all, enough);
  }

-- ---- row after row

-- the list of those before an index
pub record AreListedBefore (rows : List WagonRow) (n : ℕ) (xs : List ℕ) (room : ℕ) : Type 0 where
  pub within : n ≤ length rows
  pub ascending : IsStrictlySortedBy (compare_indexes rows) xs
  pub exactly : (i : ℕ) → is_on xs i ≡ (nat_lt i n && is_empty_row (slice_get rows i))
  pub counted : length xs ≡ count_by is_empty (take n rows)
  pub room_for_all : length rows ≤ room

pub none_before : (rows : List WagonRow) (room : ℕ) → length rows ≤ room → AreListedBefore rows 0 [] room
unfolding IsStrictlySortedBy
none_before rows room enough = record {
  within = omega arith;
  ascending = tt;
  exactly = λ i. let past : nat_lt i 0 ≡ false = grind (arith, nat_tests) in ap (λ b. b && is_empty_row (slice_get rows i)) (sym past);
  counted = refl;
  room_for_all = enough;
}

more_counted : (rows : List WagonRow) (n : ℕ) → n < length rows → count_by is_empty (take (n + 1) rows) ≡ count_by is_empty (take n rows) + cond (is_empty_row (slice_get rows n)) 1 0
more_counted [] n h = absurd (omega (arith, h))
more_counted (row ∷ rows) n h =
    let here : slice_get (row ∷ rows) n ≡ Some (get_or (row ∷ rows) n row) = slice_get-get_or (row ∷ rows) n row h in
    elim (cases_Bool (is_empty (get_or (row ∷ rows) n row))) [
      | inl empty ↦ count_by_more_yes is_empty (row ∷ rows) n row h empty ∙ sym (ap (λ b. count_by is_empty (take n (row ∷ rows)) + cond b 1 0) (ap is_empty_row here ∙ empty))
      | inr not_so ↦
          count_by_more_no is_empty (row ∷ rows) n row h not_so
          ∙ (let none : count_by is_empty (take n (row ∷ rows)) ≡ count_by is_empty (take n (row ∷ rows)) + 0 = omega arith in none)
          ∙ sym (ap (λ b. count_by is_empty (take n (row ∷ rows)) + cond b 1 0) (ap is_empty_row here ∙ not_so))
    ]

pub absent_yet : (rows : List WagonRow) (n : ℕ) (xs : List ℕ) (room : ℕ) → AreListedBefore rows n xs room → is_on xs n ≡ false
absent_yet rows n xs room h = let past : nat_lt n n ≡ false = grind (arith, nat_tests) in h.exactly n ∙ ap (λ b. b && is_empty_row (slice_get rows n)) past

pub room_yet : (rows : List WagonRow) (n : ℕ) (xs : List ℕ) (room : ℕ) → AreListedBefore rows n xs room → n < length rows → length xs + cond (is_empty_row (slice_get rows n)) 1 0 ≤ room
room_yet rows n xs room h within =
    let more = more_counted rows n within in
    let few : count_by is_empty (take (n + 1) rows) ≤ length (take (n + 1) rows) = count_by-le-length is_empty (take (n + 1) rows) in
    let long : length (take (n + 1) rows) ≡ n + 1 = length-take-le (n + 1) rows (omega (arith, within)) in
    omega (arith, h.counted, more, few, long, within, h.room_for_all)

one_further : (q e lt lt' er : Bool) → (q ≡ true → (e ≡ er) × ((lt ≡ false) × (lt' ≡ true))) → (q ≡ false → lt ≡ lt') → ((q && e) || (lt && er)) ≡ (lt' && er)
one_further true e lt lt' er h o = let (same, all) = h refl in rw (same, all.0, all.1) (or-false er)
one_further false e lt lt' er h o = rw (o refl) refl

pub one_more : (rows : List WagonRow) (n : ℕ) (xs ys : List ℕ) (room more : ℕ) → AreListedBefore rows n xs room → n < length rows → IsStrictlySortedBy (compare_indexes rows) ys
    → ((i : ℕ) → is_on ys i ≡ ((nat_eq i n && is_empty_row (slice_get rows n)) || is_on xs i)) → length ys ≡ length xs + cond (is_empty_row (slice_get rows n)) 1 0 → room ≤ more → AreListedBefore rows (n + 1) ys more
one_more rows n xs ys room more h within sorted on long enough = record {
  within = omega (arith, within);
  ascending = sorted;
  exactly = λ i.
      on i ∙ (ap (λ b. (nat_eq i n && is_empty_row (slice_get rows n)) || b) (h.exactly i)
      ∙ one_further (nat_eq i n) (is_empty_row (slice_get rows n)) (nat_lt i n) (nat_lt i (n + 1)) (is_empty_row (slice_get rows i))
      (λ here. let e : i ≡ n = same_number i n here in (ap (λ m. is_empty_row (slice_get rows m)) (sym e), (grind (arith, nat_tests, e), grind (arith, nat_tests, e))))
      (λ other. grind (arith, nat_tests, other)));
  counted = long ∙ (ap (λ m. m + cond (is_empty_row (slice_get rows n)) 1 0) h.counted ∙ sym (more_counted rows n within));
  room_for_all = omega (arith, h.room_for_all, enough);
}

pub all_before : (rows : List WagonRow) (n : ℕ) (xs : List ℕ) (room : ℕ) → n ≡ length rows → AreListedBefore rows n xs room → AreListed rows xs room
all_before rows n xs room all h = record {
  ascending = h.ascending;
  exactly = λ i. h.exactly i ∙ (ap (λ m. nat_lt i m && is_empty_row (slice_get rows i)) all ∙ elim (cases_lt i (length rows)) [
    | inl lt ↦ ap (λ b. b && is_empty_row (slice_get rows i)) (lt-ltb i (length rows) lt)
    | inr ge ↦ ap (λ b. b && is_empty_row (slice_get rows i)) (le-ltb i (length rows) ge) ∙ sym (ap is_empty_row (slice_get_past rows i ge))
  ]);
  counted = h.counted ∙ (ap (λ m. count_by is_empty (take m rows)) all ∙ ap (count_by is_empty) (take-length rows));
  room_for_all = h.room_for_all;
}
