-- The rows of the wagons.
use Rattle.std.proofs.Common.{◌≡◌, ◌∙◌, ◌≤◌, ℕ, Bool, true, false, not, cond, if◌then◌else◌, List, [], ◌∷◌, length, map, get_or, Option, Some, None, Result, Ok, Err, IfSome, IfNone, IsSomeAnd, All, option_map, refl, ap, sym, subst, inl, inr, arith}
use Rattle.std.specs.Cmp.Lexicographic.{bytes_decides, slice_cmp, texts_ties}
use Rattle.std.specs.List.{AllByRecursion, IsDistinct, slice_get, slice_set}
use Rattle.std.specs.List.Sorted.{IsBinarySearchResult, IsSearchInRange, IsStrictlySortedBy}
use Rattle.std.specs.Ordering.{eq_by_cmp, is_eq, nat_cmp}
use Rattle.std.specs.Result.{result_ok}
use Rattle.std.specs.declared.cmp.Ordering.TheVariants.{Less, Equal}
use Rattle.std.proofs.lemmas.Bool.{cases_Bool}
use Rattle.std.proofs.lemmas.List.{length-set}
use Rattle.std.proofs.lemmas.List.Elements.{All-head, All-set, All-tail}
use Rattle.std.proofs.lemmas.Map.Keys.{IsDistinct-from_sorted}
use Rattle.std.proofs.lemmas.Option.{get_or_from_slice_get, slice_get-get_or, slice_get_within}
use Rattle.std.proofs.Math.Bool.{beq}
use Rattle.std.proofs.Math.Seq.{map-set, map-set_same}
use Rattle.move_messages.specs.MaxLoad.{max_load}
use Rattle.fleet_rows.specs.FreeWagons.{is_free}
use Rattle.fleet_rows.specs.Roster.{IsReadySince, IsRoster, IsRosterRow}
use Rattle.fleet_rows.specs.SameWagons.{has_wagon}
use Rattle.fleet_rows.proofs.RosterLemmas.{none_at_gap, searched}
use Rattle.wagons_and_orders.proofs.Possible.{possible_promised, possible_unpromised}
use Rattle.wagons_and_orders.specs.PossibleRows.{IsPossibleRow, IsReadyBy}
use Rattle.wagons_and_orders.specs.declared.status.Status.{Status}
use Rattle.wagons_and_orders.specs.declared.status.Status.TheVariants.{Empty, Loading, Ready, Journey, Yard, Arrived, Unloading}
use Rattle.wagons_and_orders.specs.declared.wagon_row.WagonRow.{WagonRow}
use Rattle.fleet_rows.specs.Kept.{IsWagonRows, by_number, compare_numbers}
use Rattle.fleet_rows.specs.Rows.{at_wagon, is_wagon, wagon_in, with_promise}
use Rattle.fleet_rows.proofs.Named.{changed_at, find-changed, found_by_name, has_name, is_same, length_map, names-changed}

-- the numbers of the wagons
abbrev pub numbers_of : List WagonRow → List (List ℕ)
numbers_of rows = map (λ row. row.number) rows

-- ---- ascending rows are ascending numbers

all_numbers : (number : List ℕ) (rows : List WagonRow) → AllByRecursion (λ (row : WagonRow). compare_numbers number row.number ≡ Less) rows → AllByRecursion (λ other. compare_numbers number other ≡ Less) (numbers_of rows)
all_numbers number [] all = tt
all_numbers number (row ∷ rows) all = (all.0, all_numbers number rows all.1)

all_rows : (number : List ℕ) (rows : List WagonRow) → AllByRecursion (λ other. compare_numbers number other ≡ Less) (numbers_of rows) → AllByRecursion (λ (row : WagonRow). compare_numbers number row.number ≡ Less) rows
all_rows number [] all = tt
all_rows number (row ∷ rows) all = (all.0, all_rows number rows all.1)

numbers_ascend : (rows : List WagonRow) → IsStrictlySortedBy by_number rows → IsStrictlySortedBy (slice_cmp nat_cmp) (numbers_of rows)
unfolding IsStrictlySortedBy
numbers_ascend [] h = tt
numbers_ascend (row ∷ rows) h = (all_numbers row.number rows h.0, numbers_ascend rows h.1)

rows_ascend : (rows : List WagonRow) → IsStrictlySortedBy (slice_cmp nat_cmp) (numbers_of rows) → IsStrictlySortedBy by_number rows
unfolding IsStrictlySortedBy
rows_ascend [] h = tt
rows_ascend (row ∷ rows) h = (all_rows row.number rows h.0, rows_ascend rows h.1)

-- ---- no two of them are one

all_other : (number : List ℕ) (others : List (List ℕ)) → AllByRecursion (λ other. eq_by_cmp (slice_cmp nat_cmp) number other ≡ false) others → AllByRecursion (λ other. is_same number other ≡ false) others
all_other number [] all = tt
all_other number (other ∷ others) all = (texts_ties number other ∙ all.0, all_other number others all.1)

distinct : (numbers : List (List ℕ)) → IsDistinct (eq_by_cmp (slice_cmp nat_cmp)) numbers → IsDistinct is_same numbers
unfolding IsDistinct
distinct [] h = tt
distinct (number ∷ numbers) h = (all_other number numbers h.0, distinct numbers h.1)

-- numbers that ascend are each there once
pub ascending_distinct : (numbers : List (List ℕ)) → IsStrictlySortedBy (slice_cmp nat_cmp) numbers → IsDistinct is_same numbers
ascending_distinct numbers h = distinct numbers (IsDistinct-from_sorted (slice_cmp nat_cmp) numbers h)

-- no two rows that ascend are of one wagon
pub numbers_distinct : (rows : List WagonRow) → IsStrictlySortedBy by_number rows → IsDistinct is_same (numbers_of rows)
numbers_distinct rows h = ascending_distinct (numbers_of rows) (numbers_ascend rows h)

-- the row that stands in ascending rows is that of its wagon
pub wagon_in-there : (rows : List WagonRow) (k : ℕ) (row : WagonRow) → IsStrictlySortedBy by_number rows → slice_get rows k ≡ Some row → wagon_in rows row.number ≡ Some row
wagon_in-there rows k row h e = found_by_name (λ (row : WagonRow). row.number) rows k row (numbers_distinct rows h) e

-- the row of a wagon has its number
pub number-wagon_in : (rows : List WagonRow) (number : List ℕ) (row : WagonRow) → wagon_in rows number ≡ Some row → row.number ≡ number
number-wagon_in rows number row e = has_name (λ (row : WagonRow). row.number) number rows row e

-- ---- a change at one wagon

pub wagon_in-at_wagon : (number : List ℕ) (change : WagonRow → WagonRow) → ((row : WagonRow) → row.number ≡ number → (change row).number ≡ number)
    → (rows : List WagonRow) (other : List ℕ) → wagon_in (at_wagon number change rows) other ≡ (if is_same other number then option_map change (wagon_in rows other) else wagon_in rows other)
wagon_in-at_wagon number change keeps rows other = find-changed (λ (row : WagonRow). row.number) change number keeps rows other

pub numbers-at_wagon : (number : List ℕ) (change : WagonRow → WagonRow) → ((row : WagonRow) → row.number ≡ number → (change row).number ≡ number)
    → (rows : List WagonRow) → numbers_of (at_wagon number change rows) ≡ numbers_of rows
numbers-at_wagon number change keeps rows = names-changed (λ (row : WagonRow). row.number) change number keeps rows

pub length-at_wagon : (number : List ℕ) (change : WagonRow → WagonRow) (rows : List WagonRow) → length (at_wagon number change rows) ≡ length rows
length-at_wagon number change rows = length_map (λ (row : WagonRow). if is_wagon number row then change row else row) rows

pub ascending-at_wagon : (number : List ℕ) (change : WagonRow → WagonRow) → ((row : WagonRow) → row.number ≡ number → (change row).number ≡ number)
    → (rows : List WagonRow) → IsStrictlySortedBy by_number rows → IsStrictlySortedBy by_number (at_wagon number change rows)
ascending-at_wagon number change keeps rows h =
    rows_ascend (at_wagon number change rows) (subst (IsStrictlySortedBy (slice_cmp nat_cmp)) (sym (numbers-at_wagon number change keeps rows)) (numbers_ascend rows h))

-- ---- what a search finds

pub record Placed (rows : List WagonRow) (number : List ℕ) (r : Option ℕ) : Type 0 where
  pub found : IfSome r (λ index. (row : WagonRow) × (slice_get rows index ≡ Some row) × (row.number ≡ number))
  pub absent : IfNone r (wagon_in rows number ≡ None)

find_none : (number : List ℕ) (rows : List WagonRow) → has_wagon rows number ≡ false → wagon_in rows number ≡ None
find_none number [] h = refl
find_none number (row ∷ rows) h = elim (cases_Bool (is_wagon number row)) [
  | inl here ↦ cc (rw here at h)
  | inr other ↦ rw other (find_none number rows (rw other at h))
]

equal_numbers : (a b : List ℕ) → compare_numbers a b ≡ Equal → a ≡ b
equal_numbers a b h = (bytes_decides a b).0 (texts_ties a b ∙ ap is_eq h)

pub placed : (rows : List WagonRow) (number : List ℕ) (r : Result ℕ ℕ) → IsStrictlySortedBy by_number rows → IsSearchInRange r (length rows)
    → IsBinarySearchResult (λ row. compare_numbers row.number number) rows r → Placed rows number (result_ok r)
placed [] number (Ok at) sorted within equal = absurd (omega arith)
placed (row ∷ rows) number (Ok at) sorted within equal = record {
  found = (get_or (row ∷ rows) at row, slice_get-get_or (row ∷ rows) at row within, equal_numbers (get_or (row ∷ rows) at row).number number (equal row));
  absent = tt;
}
placed rows number (Err at) sorted within parted = record {
  found = tt;
  absent = find_none number rows (none_at_gap rows number at (searched rows number (Err at) sorted within parted).absent);
}

-- ---- a row put in the place of another of its wagon

pub put_is : (rows : List WagonRow) (k : ℕ) (old new : WagonRow) → IsStrictlySortedBy by_number rows → slice_get rows k ≡ Some old → old.number ≡ new.number
    → slice_set rows k new ≡ at_wagon new.number (λ _. new) rows
put_is rows k old new h e same =
    changed_at (λ (row : WagonRow). row.number) (λ _. new) rows k old (numbers_distinct rows h) e ∙ ap (λ number. at_wagon number (λ _. new) rows) same

pub rows_with : (rows : List WagonRow) (k : ℕ) (old new : WagonRow) → IsWagonRows rows → slice_get rows k ≡ Some old → old.number ≡ new.number → new.load_limit ≤ max_load → IsPossibleRow new → IsWagonRows (slice_set rows k new)
rows_with rows k old new h e same light possible =
    let at : get_or rows k new ≡ old = get_or_from_slice_get rows k old new e in
    let numbers : numbers_of (slice_set rows k new) ≡ numbers_of rows =
    map-set_same (λ (row : WagonRow). row.number) rows k new new (sym same ∙ sym (ap (λ (row : WagonRow). row.number) at)) in
    record {
      few = omega (arith, length-set rows k new, h.few);
      ascending = rows_ascend (slice_set rows k new) (subst (IsStrictlySortedBy (slice_cmp nat_cmp)) (sym numbers) (numbers_ascend rows h.ascending));
      few_kg = All-set (λ (row : WagonRow). row.load_limit ≤ max_load) rows k new light h.few_kg;
      possible = All-set IsPossibleRow rows k new possible h.possible;
    }

-- what the wagon of a row carries
pub light_at : (rows : List WagonRow) (k : ℕ) (row : WagonRow) → IsWagonRows rows → slice_get rows k ≡ Some row → row.load_limit ≤ max_load
light_at rows k row h there =
    subst (λ (row : WagonRow). row.load_limit ≤ max_load) (get_or_from_slice_get rows k row row there) (h.few_kg k row (slice_get_within rows k row there))

-- ---- an office can have the rows of a roster

ready_by : (moment : ℕ) (status : Status) → IsReadySince moment status → IsReadyBy moment status
ready_by moment (Empty place ready) h = omega arith
ready_by moment (Loading place) h = tt
ready_by moment (Ready place) h = tt
ready_by moment (Journey load place) h = tt
ready_by moment (Yard load place) h = tt
ready_by moment (Arrived load place) h = tt
ready_by moment (Unloading place) h = tt

possible_in_roster : (row : WagonRow) → IsRosterRow row → IsPossibleRow row
possible_in_roster row h = record {
  held = λ held. cc;
  ready = ready_by row.last row.status h.ready;
  promised = λ some. cc (rw h.not_promised at some);
}

-- the rows of a roster
pub IsWagonRows-roster : (roster : List WagonRow) → IsRoster roster → IsWagonRows roster
IsWagonRows-roster roster h = record {
  few = h.few;
  ascending = h.ascending;
  few_kg = λ k d within. (h.each k d within).few_kg;
  possible = λ k d within. possible_in_roster (get_or roster k d) (h.each k d within);
}

-- ---- promises that an office can have

first_or_later : (P : WagonRow → Type 0) (here : Bool) (row : WagonRow) (later : Option WagonRow) → P row → IfSome later P → IfSome (cond here (Some row) later) P
first_or_later P true row later h rest = h
first_or_later P false row later h rest = rest

-- the row of a wagon is as all rows are
pub found_is : (P : WagonRow → Type 0) (number : List ℕ) (rows : List WagonRow) → All P rows → IfSome (wagon_in rows number) P
found_is P number [] all = tt
found_is P number (row ∷ rows) all = first_or_later P (is_wagon number row) row (wagon_in rows number) (All-head P row rows all) (found_is P number rows (All-tail P row rows all))

-- a promise may end
pub unpromised_possible : (number : List ℕ) (rows : List WagonRow) → IsWagonRows rows → IfSome (wagon_in rows number) (λ row. IsPossibleRow (with_promise None row))
unpromised_possible number rows h = found_is (λ row. IsPossibleRow (with_promise None row)) number rows (λ k d within. possible_unpromised (get_or rows k d) (h.possible k d within))

both_found : (id : List ℕ) (found : Option WagonRow) → IsSomeAnd found (λ row. is_free row ≡ true) → IfSome found IsPossibleRow → IfSome found (λ row. IsPossibleRow (with_promise (Some id) row))
both_found id None free possible = tt
both_found id (Some row) free possible = possible_promised row id free possible

-- a free wagon may be promised
pub promised_possible : (number id : List ℕ) (rows : List WagonRow) → IsSomeAnd (wagon_in rows number) (λ row. is_free row ≡ true) → IsWagonRows rows → IfSome (wagon_in rows number) (λ row. IsPossibleRow (with_promise (Some id) row))
promised_possible number id rows free h = both_found id (wagon_in rows number) free (found_is IsPossibleRow number rows h.possible)

-- with its new promise the row of a wagon is one that an office can have
pub still_possible : (rows : List WagonRow) (k : ℕ) (row : WagonRow) (number : List ℕ) (promise : Option (List ℕ)) → IsWagonRows rows → slice_get rows k ≡ Some row → row.number ≡ number
    → IfSome (wagon_in rows number) (λ row. IsPossibleRow (with_promise promise row)) → IsPossibleRow (with_promise promise row)
still_possible rows k row number promise h there named possible =
    let found : wagon_in rows number ≡ Some row = ap (wagon_in rows) (sym named) ∙ wagon_in-there rows k row h.ascending there in
    rw found at possible

-- what is read at the index of a row
pub found_in : (rows : List WagonRow) (index : ℕ) (row : WagonRow) (number : List ℕ) (r : Option WagonRow) → IsStrictlySortedBy by_number rows → slice_get rows index ≡ Some row → row.number ≡ number
    → r ≡ slice_get rows index → r ≡ wagon_in rows number
found_in rows index row number r h there named e = e ∙ there ∙ sym (wagon_in-there rows index row h there) ∙ ap (wagon_in rows) named

-- where no row is that of the wagon, nothing changes
missing_step : (number : List ℕ) (change : WagonRow → WagonRow) (row : WagonRow) (rows : List WagonRow) (b : Bool) → cond b (Some row) (wagon_in rows number) ≡ None → (wagon_in rows number ≡ None → at_wagon number change rows ≡ rows)
    → cond b (change row) row ∷ at_wagon number change rows ≡ row ∷ rows
missing_step number change row rows true h rest = cc h
missing_step number change row rows false h rest = ap (λ (rs : List WagonRow). row ∷ rs) (rest h)

pub missing_stays : (number : List ℕ) (change : WagonRow → WagonRow) (rows : List WagonRow) → wagon_in rows number ≡ None → at_wagon number change rows ≡ rows
missing_stays number change [] h = refl
missing_stays number change (row ∷ rows) h = missing_step number change row rows (is_wagon number row) h (missing_stays number change rows)

-- a row changed at its index
pub change_is : (rows : List WagonRow) (k : ℕ) (row : WagonRow) (number : List ℕ) (change : WagonRow → WagonRow) → IsStrictlySortedBy by_number rows → slice_get rows k ≡ Some row → row.number ≡ number
    → slice_set rows k (change row) ≡ at_wagon number change rows
change_is rows k row number change h there named =
    changed_at (λ (row : WagonRow). row.number) change rows k row (numbers_distinct rows h) there ∙ ap (λ n. at_wagon n change rows) named

-- what is read at the index of a wagon's row is that row
pub read_row : (rows : List WagonRow) (k : ℕ) (number : List ℕ) (read : WagonRow) → ((row : WagonRow) × (slice_get rows k ≡ Some row) × (row.number ≡ number)) → read ≡ get_or rows k read → (slice_get rows k ≡ Some read) × (read.number ≡ number)
read_row rows k number read found value =
    let (row, there, named) = found in
    let same : read ≡ row = value ∙ get_or_from_slice_get rows k row read there in
    (there ∙ ap Some (sym same), ap (λ (row : WagonRow). row.number) same ∙ named)

-- ---- which wagons are free, once a row is put in the place of another

pub free_put : (rows : List WagonRow) (k : ℕ) (row : WagonRow) (are_free : List Bool) → are_free ≡ map is_free rows → slice_set are_free k (is_free row) ≡ map is_free (slice_set rows k row)
free_put rows k row are_free h = ap (λ (free : List Bool). slice_set free k (is_free row)) h ∙ sym (map-set is_free rows k row)

one_answer : (a b : Bool) → not (beq a b) ≡ false → a ≡ b
one_answer true true h = refl
one_answer false false h = refl
one_answer true false h = cc h
one_answer false true h = cc h

-- nothing changes there where both rows are free, or neither
pub free_stays : (rows : List WagonRow) (k : ℕ) (row read : WagonRow) (are_free : List Bool) (was now : Bool) → are_free ≡ map is_free rows → read ≡ get_or rows k read → was ≡ is_free read → now ≡ is_free row
    → not (beq was now) ≡ false → are_free ≡ map is_free (slice_set rows k row)
free_stays rows k row read are_free was now h there before after same =
    let stays : is_free row ≡ is_free (get_or rows k read) = sym after ∙ sym (one_answer was now same) ∙ before ∙ ap is_free there in
    h ∙ sym (map-set_same is_free rows k row read stays)
