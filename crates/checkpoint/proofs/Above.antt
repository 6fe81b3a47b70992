-- A wagon's number above that of the last row.
use Rattle.std.proofs.Common.{◌≡◌, ◌∙◌, ℕ, suc, ◌-◌, true, List, [], ◌∷◌, ◌++◌, length, refl, sym, ap, arith, Option}
use Rattle.std.specs.Cmp.Lexicographic.{nat_list_cmp_total}
use Rattle.std.specs.List.{AllByRecursion, slice_get}
use Rattle.std.specs.List.Sorted.{IsStrictlySortedBy}
use Rattle.std.specs.Ordering.{is_lt}
use Rattle.std.specs.declared.cmp.Ordering.{Ordering}
use Rattle.std.specs.declared.cmp.Ordering.TheVariants.{Less, Equal, Greater}
use Rattle.wagons_and_orders.specs.declared.wagon_row.WagonRow.{WagonRow}
use Rattle.fleet_rows.specs.Kept.{by_number, compare_numbers}
use Rattle.checkpoint.specs.Taking.{is_above_last, is_above_row}

is_less : (o : Ordering) → is_lt o ≡ true → o ≡ Less
is_less Less h = refl
is_less Equal h = cc
is_less Greater h = cc

-- the last of two rows and more is the last but for the first
last_later : (a b : WagonRow) (rows : List WagonRow) → slice_get (a ∷ b ∷ rows) (length (a ∷ b ∷ rows) - 1) ≡ slice_get (b ∷ rows) (length (b ∷ rows) - 1)
last_later a b rows =
    let one : length (a ∷ b ∷ rows) - 1 ≡ suc (length rows) = omega arith in
    let other : length (b ∷ rows) - 1 ≡ length rows = omega arith in
    ap (slice_get (a ∷ b ∷ rows)) one ∙ sym (ap (slice_get (b ∷ rows)) other)

above_later : (a b : WagonRow) (rows : List WagonRow) (number : List ℕ) → is_above_last (a ∷ b ∷ rows) number ≡ is_above_last (b ∷ rows) number
above_later a b rows number = ap (λ (o : Option WagonRow). is_above_row o number) (last_later a b rows)

-- it is above the first row too, where the rows ascend
above_first : (row : WagonRow) (rows : List WagonRow) (number : List ℕ) → IsStrictlySortedBy by_number (row ∷ rows) → is_above_last (row ∷ rows) number ≡ true → compare_numbers row.number number ≡ Less
unfolding IsStrictlySortedBy
above_first row [] number sorted above = is_less (compare_numbers row.number number) above
above_first row (next ∷ rows) number sorted above =
    let later : compare_numbers next.number number ≡ Less = above_first next rows number sorted.1 (sym (above_later row next rows number) ∙ above) in
    nat_list_cmp_total.trans row.number next.number number sorted.0.0 later

all_push : (P : WagonRow → Type 0) (rows : List WagonRow) (row : WagonRow) → AllByRecursion P rows → P row → AllByRecursion P (rows ++ row ∷ [])
all_push P [] row all one = (one, tt)
all_push P (first ∷ rows) row all one = (all.0, all_push P rows row all.1 one)

-- rows that ascend, and one above the last
pub ascending_push : (rows : List WagonRow) (row : WagonRow) → IsStrictlySortedBy by_number rows → is_above_last rows row.number ≡ true → IsStrictlySortedBy by_number (rows ++ row ∷ [])
unfolding IsStrictlySortedBy
ascending_push [] row sorted above = (tt, tt)
ascending_push (first ∷ []) row sorted above = ((above_first first [] row.number sorted above, tt), (tt, tt))
ascending_push (first ∷ next ∷ rows) row sorted above = (
  all_push (λ (other : WagonRow). by_number first other ≡ Less) (next ∷ rows) row sorted.0 (above_first first (next ∷ rows) row.number sorted above),
  ascending_push (next ∷ rows) row sorted.1 (sym (above_later first next rows row.number) ∙ above),
)

-- each row is above those before it
pub above_before : (front : List WagonRow) (row : WagonRow) (back : List WagonRow) → IsStrictlySortedBy by_number (front ++ row ∷ back) → is_above_last front row.number ≡ true
unfolding IsStrictlySortedBy
above_before [] row back sorted = refl
above_before (first ∷ []) row back sorted = ap is_lt sorted.0.0
above_before (first ∷ next ∷ front) row back sorted = above_later first next front row.number ∙ above_before (next ∷ front) row back sorted.1
