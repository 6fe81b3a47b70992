-- The row of an order by its parts.
use Rattle.std.proofs.Common.{◌≡◌, ℕ, ◌+◌, Bool, true, false, cond, ◌&&◌, List, [], ◌∷◌, length, refl, sym, ap, subst, Some, None, arith}
use Rattle.std.specs.Prelude.{nat_le}
use Rattle.std.specs.Cmp.Lexicographic.{slice_cmp}
use Rattle.std.specs.List.{AllByRecursion, list_all}
use Rattle.std.specs.List.Sorted.{IsStrictlySortedBy}
use Rattle.std.specs.Ordering.{is_lt, nat_cmp}
use Rattle.std.specs.declared.cmp.Ordering.{Ordering}
use Rattle.std.specs.declared.cmp.Ordering.TheVariants.{Less, Equal, Greater}
use Rattle.std.proofs.lemmas.Bool.Decides.{nat_tests}
use Rattle.move_messages.specs.Order.{Order}
use Rattle.wagons_and_orders.specs.Numbers.{IsAscending, is_below}
use Rattle.wagons_and_orders.specs.OrderRow.{IsOrderRow, OrderRowValue}
use Rattle.wagons_and_orders.specs.RowParts.{is_ascending, row_of_parts}
use Rattle.checkpoint.proofs.Tests.{and_left, and_right, both}

less_is : (o : Ordering) → is_lt o ≡ true → o ≡ Less
less_is Less h = refl
less_is Equal h = cc
less_is Greater h = cc

all_above : (number : List ℕ) (others : List (List ℕ)) → list_all (λ other. is_below other number) others ≡ true → AllByRecursion (λ other. slice_cmp nat_cmp number other ≡ Less) others
all_above number [] h = tt
all_above number (other ∷ others) h = (
  less_is (slice_cmp nat_cmp number other) (and_left (is_below other number) (list_all (λ other. is_below other number) others) h),
  all_above number others (and_right (is_below other number) (list_all (λ other. is_below other number) others) h),
)

test_above : (number : List ℕ) (others : List (List ℕ)) → AllByRecursion (λ other. slice_cmp nat_cmp number other ≡ Less) others → list_all (λ other. is_below other number) others ≡ true
test_above number [] h = refl
test_above number (other ∷ others) h = both (is_below other number) (list_all (λ other. is_below other number) others) (ap is_lt h.0) (test_above number others h.1)

ascends : (numbers : List (List ℕ)) → is_ascending numbers ≡ true → IsAscending numbers
unfolding IsStrictlySortedBy
ascends [] h = tt
ascends (number ∷ numbers) h = (
  all_above number numbers (and_left (list_all (λ other. is_below other number) numbers) (is_ascending numbers) h),
  ascends numbers (and_right (list_all (λ other. is_below other number) numbers) (is_ascending numbers) h),
)

pub test_ascends : (numbers : List (List ℕ)) → IsAscending numbers → is_ascending numbers ≡ true
unfolding IsStrictlySortedBy
test_ascends [] h = refl
test_ascends (number ∷ numbers) h = both (list_all (λ other. is_below other number) numbers) (is_ascending numbers) (test_above number numbers h.0) (test_ascends numbers h.1)

-- a row made of these parts
pub record OfParts (text : Order) (promised filled : List (List ℕ)) (row : OrderRowValue) : Type 0 where
  pub is : row ≡ record { text = text; promised = promised; filled = filled; withdrawn = false }
  pub valid : IsOrderRow row

made : (b : Bool) (x y : OrderRowValue) → cond b (Some x) None ≡ Some y → (b ≡ true) × (y ≡ x)
made true x y h = (refl, cc)
made false x y h = cc

pub of_parts : (text : Order) (promised filled : List (List ℕ)) (row : OrderRowValue) → row_of_parts text promised filled ≡ Some row → OfParts text promised filled row
of_parts text promised filled row h =
    let (tested, is) = made (nat_le (length promised + length filled) text.wagons && is_ascending promised) _ row h in
    let few : nat_le (length promised + length filled) text.wagons ≡ true = and_left (nat_le (length promised + length filled) text.wagons) (is_ascending promised) tested in
    let ascending : IsAscending promised = ascends promised (and_right (nat_le (length promised + length filled) text.wagons) (is_ascending promised) tested) in
    record {
      is = is;
      valid = subst IsOrderRow (sym is) (record { no_more = grind (arith, nat_tests); ascending = ascending; withdrawn = λ e. cc });
    }

-- the parts of a row that isn't withdrawn
pub parts_of : (row : OrderRowValue) → IsOrderRow row → row.withdrawn ≡ false → row_of_parts row.text row.promised row.filled ≡ Some row
parts_of row h stays =
    let few : nat_le (length row.promised + length row.filled) row.text.wagons ≡ true = let most = h.no_more in grind (arith, nat_tests) in
    rw (few, test_ascends row.promised h.ascending) (ap (λ (b : Bool). Some (record { text = row.text; promised = row.promised; filled = row.filled; withdrawn = b })) (sym stays))
