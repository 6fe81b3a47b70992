-- What a row of an order keeps through each change.
use Rattle.std.proofs.Common.{◌≡◌, ◌∙◌, ℕ, ◌+◌, ◌<◌, ◌≤◌, Bool, true, false, cond, not, ◌&&◌, List, [], ◌∷◌, ◌++◌, length, refl, sym, inl, inr, arith, count_by, length-append, zero, suc}
use Rattle.std.specs.List.{filter, insert, list_all, list_any, AllByRecursion, Contains, slice_index_or}
use Rattle.std.specs.List.Sorted.{IsStrictlySortedBy}
use Rattle.std.specs.Cmp.Lexicographic.{bytes_decides, slice_cmp, nat_list_cmp_total}
use Rattle.std.specs.Ordering.{eq_by_cmp, is_lt, nat_cmp}
use Rattle.std.specs.declared.cmp.Ordering.{Ordering}
use Rattle.std.specs.declared.cmp.Ordering.TheVariants.{Less, Equal, Greater}
use Rattle.std.proofs.lemmas.Bool.{cases_Bool}
use Rattle.std.proofs.lemmas.List.Filters.{length-filter_both}
use Rattle.std.proofs.lemmas.List.Kept.{IsStrictlySortedBy-filter}
use Rattle.std.proofs.lemmas.List.Sums.{length-filter, sum_by-cons}
use Rattle.std.proofs.lemmas.Map.Text.{is_eq-slice_cmp}
use Rattle.std.proofs.lemmas.Map.Views.{Contains-from_any}
use Rattle.move_messages.specs.Order.{Order}
use Rattle.wagons_and_orders.specs.Lack.{lack_of}
use Rattle.wagons_and_orders.specs.Numbers.{IsAscending, is_below, is_number, with_number, without_number}
use Rattle.wagons_and_orders.specs.OrderRow.{OrderRowValue, IsOrderRow, placed_row}
use Rattle.wagons_and_orders.specs.RowParts.{is_ascending}
use Rattle.wagons_and_orders.proofs.Ascending.{parted-insert, sorted-insert}

-- ---- a number more, a number less

same_number : (x y : List ℕ) → eq_by_cmp (slice_cmp nat_cmp) x y ≡ true → x ≡ y
same_number x y h = (bytes_decides x y).0 (sym (is_eq-slice_cmp x y) ∙ h)

none_same : (number : List ℕ) (numbers : List (List ℕ)) → ¬ Contains numbers number → list_any (eq_by_cmp (slice_cmp nat_cmp) number) numbers ≡ false
none_same number numbers other = elim (cases_Bool (list_any (eq_by_cmp (slice_cmp nat_cmp) number) numbers)) [
  | inl there ↦ absurd (other (Contains-from_any same_number number numbers there))
  | inr new ↦ new
]

-- of ascending numbers, the one more goes in behind as many as are below it
pub with_number-insert : (number : List ℕ) (numbers : List (List ℕ)) → ¬ Contains numbers number → IsAscending numbers → with_number number numbers ≡ insert numbers (count_by (is_below number) numbers) number
unfolding with_number
with_number-insert number numbers other h = parted-insert nat_list_cmp_total number numbers (none_same number numbers other) h

pub ascending-with : (number : List ℕ) (numbers : List (List ℕ)) → ¬ Contains numbers number → IsAscending numbers → IsAscending (with_number number numbers)
ascending-with number numbers other h =
    rw (with_number-insert number numbers other h) (sorted-insert nat_list_cmp_total number numbers (none_same number numbers other) h)

pub length-with : (number : List ℕ) (numbers : List (List ℕ)) → length (with_number number numbers) ≡ length numbers + 1
unfolding with_number
length-with number numbers =
    let both = length-filter_both (is_below number) (λ other. not (is_below number other)) (λ x. refl) numbers in
    omega (arith, length-append (filter (is_below number) numbers) (number ∷ filter (λ other. not (is_below number other)) numbers), both)

pub ascending-without : (number : List ℕ) (numbers : List (List ℕ)) → IsAscending numbers → IsAscending (without_number number numbers)
unfolding without_number
ascending-without number numbers h = IsStrictlySortedBy-filter (slice_cmp nat_cmp) (λ other. not (is_number number other)) numbers h

pub length-without : (number : List ℕ) (numbers : List (List ℕ)) → length (without_number number numbers) + count_by (is_number number) numbers ≡ length numbers
unfolding without_number
length-without number numbers =
    let both : length (filter (is_number number) numbers) + length (filter (λ other. not (is_number number other)) numbers) ≡ length numbers =
    length-filter_both (is_number number) (λ other. not (is_number number other)) (λ x. refl) numbers in
    let counted : length (filter (is_number number) numbers) ≡ count_by (is_number number) numbers = length-filter (is_number number) numbers in
    omega arith

counts : (b : Bool) (n : ℕ) → b ≡ true → 1 ≤ cond b 1 0 + n
counts true n h = omega arith
counts false n h = cc h

counted : (p : List ℕ → Bool) (xs : List (List ℕ)) (k : ℕ) (d : List ℕ) → k < length xs → p (slice_index_or xs k d) ≡ true → 1 ≤ count_by p xs
counted p [] k d below h = absurd (omega arith)
counted p (x ∷ xs) zero d below h = rw (sum_by-cons (λ y. cond (p y) 1 0) x xs) (counts (p x) (count_by p xs) h)
counted p (x ∷ xs) (suc k) d below h =
    let later : 1 ≤ count_by p xs = counted p xs k d (omega arith) h in
    omega (arith, sum_by-cons (λ y. cond (p y) 1 0) x xs)

pub counted_where_there : (number : List ℕ) (numbers : List (List ℕ)) → Contains numbers number → 1 ≤ count_by (is_number number) numbers
counted_where_there number numbers h =
    counted (is_number number) numbers h.0 number h.1 ((bytes_decides (slice_index_or numbers h.0 number) number).1 h.2)

-- ---- rows

pub row_placed : (order : Order) → IsOrderRow (placed_row order)
unfolding IsStrictlySortedBy
row_placed order = record { no_more = omega arith; ascending = tt; withdrawn = λ h. refl }

-- an order that is taken back lacks no wagon
lacks_none : (row : OrderRowValue) → row.withdrawn ≡ true → 0 < lack_of row → ⊥
lacks_none row gone lacking = let none : lack_of row ≡ 0 = rw gone refl in omega arith

-- no number is left of none
none_left : (number : List ℕ) (numbers : List (List ℕ)) → numbers ≡ [] → without_number number numbers ≡ []
unfolding without_number
none_left number numbers h = rw h refl

pub row_with : (row : OrderRowValue) (number : List ℕ) → 0 < lack_of row → ¬ Contains row.promised number → IsOrderRow row → IsOrderRow (record row { promised = with_number number row.promised })
row_with row number lacking other h = record {
  no_more = let more : length (with_number number row.promised) ≡ length row.promised + 1 = length-with number row.promised in grind (arith, more, lacking);
  ascending = ascending-with number row.promised other h.ascending;
  withdrawn = λ gone. absurd (lacks_none row gone lacking);
}

pub row_without : (row : OrderRowValue) (number : List ℕ) → IsOrderRow row → IsOrderRow (record row { promised = without_number number row.promised })
row_without row number h = record {
  no_more = let fewer : length (without_number number row.promised) + count_by (is_number number) row.promised ≡ length row.promised = length-without number row.promised in omega arith;
  ascending = ascending-without number row.promised h.ascending;
  withdrawn = λ gone. none_left number row.promised (h.withdrawn gone);
}

pub row_filled : (row : OrderRowValue) (number : List ℕ) → Contains row.promised number → IsOrderRow row → IsOrderRow (record row { promised = without_number number row.promised; filled = row.filled ++ number ∷ [] })
row_filled row number there h = record {
  no_more =
      let fewer : length (without_number number row.promised) + count_by (is_number number) row.promised ≡ length row.promised = length-without number row.promised in
      let one : 1 ≤ count_by (is_number number) row.promised = counted_where_there number row.promised there in
      omega (arith, length-append row.filled (number ∷ []));
  ascending = ascending-without number row.promised h.ascending;
  withdrawn = λ gone. none_left number row.promised (h.withdrawn gone);
}

pub row_withdrawn : (row : OrderRowValue) → IsOrderRow row → IsOrderRow (record row { promised = []; withdrawn = true })
unfolding IsStrictlySortedBy
row_withdrawn row h = record { no_more = omega arith; ascending = tt; withdrawn = λ gone. refl }

-- ---- a row of parts

less_is : (o : Ordering) → is_lt o ≡ true → o ≡ Less
less_is Less h = refl
less_is Equal h = cc h
less_is Greater h = cc h

both_true : (a b : Bool) → a && b ≡ true → (a ≡ true) × (b ≡ true)
both_true true b h = (refl, h)
both_true false b h = cc h

all_above : (number : List ℕ) (numbers : List (List ℕ)) → list_all (λ other. is_below other number) numbers ≡ true → AllByRecursion (λ other. slice_cmp nat_cmp number other ≡ Less) numbers
all_above number [] h = tt
all_above number (other ∷ numbers) h = let both = both_true _ _ h in (less_is _ both.0, all_above number numbers both.1)

ascending-is : (numbers : List (List ℕ)) → is_ascending numbers ≡ true → IsAscending numbers
unfolding IsStrictlySortedBy
ascending-is [] h = tt
ascending-is (number ∷ numbers) h = let both = both_true _ _ h in (all_above number numbers both.0, ascending-is numbers both.1)

pub row_of : (text : Order) (promised filled : List (List ℕ)) → length promised + length filled ≤ text.wagons → is_ascending promised ≡ true
    → IsOrderRow (record { text = text; promised = promised; filled = filled; withdrawn = false })
row_of text promised filled few ascending = record { no_more = few; ascending = ascending-is promised ascending; withdrawn = λ h. cc h }
