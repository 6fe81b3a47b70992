-- The rows of the orders.
use Rattle.std.proofs.Common.{◌≡◌, ◌∙◌, ℕ, ◌+◌, ◌-◌, ◌<◌, ◌≤◌, Bool, true, false, not, cond, ◌&&◌, zero, suc, take, nat_lt, if◌then◌else◌, List, [], ◌∷◌, ◌++◌, length, get_or, Option, Some, None, IfSome, IsSome, option_map, position, refl, ap, sym, subst, inl, inr, arith, length-append, zero-add}
use Rattle.std.specs.BTreeMap.{BTreeMap, get}
use Rattle.std.specs.Cmp.Lexicographic.{bytes_decides, slice_cmp, texts_ties}
use Rattle.std.specs.List.{AllByRecursion, IsDistinct, list_any, slice_get, slice_set}
use Rattle.std.specs.Ordering.{is_eq, nat_cmp}
use Rattle.std.proofs.lemmas.Bool.{cases_Bool, cases_lt, le-ltb, lt-ltb}
use Rattle.std.proofs.lemmas.List.Elements.{All-append, All-cons, All-nil, All-set}
use Rattle.std.proofs.lemmas.List.{map-append, take_more}
use Rattle.std.proofs.lemmas.List.Sums.{sum_by-append, sum_by-cons, sum_by-set}
use Rattle.std.proofs.lemmas.Map.Keys.{IsDistinct-push}
use Rattle.std.proofs.lemmas.Option.{slice_get-get_or}
use Rattle.std.proofs.Math.Seq.{map-set_same}
use Rattle.move_messages.specs.Order.{Order}
use Rattle.wagons_and_orders.specs.OrderRow.{IsOrderRow, OrderRowValue, placed_row}
use Rattle.fleet_rows.specs.KeptOrders.{IsOrderRows}
use Rattle.fleet_rows.specs.Rows.{names_of, at_order, filled_by, is_order, max_open_wagons, open_wagons, order_in, taken_back, wanted_open}
use Rattle.fleet_rows.specs.inner.Indexed.{IsIndexed}
use Rattle.fleet_rows.proofs.Named.{changed_at, find-changed, found_at_place, found_by_name, has_name, is_same, length_map, names-changed, no_place, not_found, nothing_named, position-new, position-push, position-set, same_name}

-- the row of an order has its name
pub id-order_in : (rows : List OrderRowValue) (id : List ℕ) (row : OrderRowValue) → order_in rows id ≡ Some row → row.text.id ≡ id
id-order_in rows id row e = has_name (λ (row : OrderRowValue). row.text.id) id rows row e

-- the row that stands among rows of distinct names is that of its order
pub order_in-there : (rows : List OrderRowValue) (k : ℕ) (row : OrderRowValue) → IsDistinct is_same (names_of rows) → slice_get rows k ≡ Some row → order_in rows row.text.id ≡ Some row
order_in-there rows k row h e = found_by_name (λ (row : OrderRowValue). row.text.id) rows k row h e

-- ---- a change at one order

pub order_in-at_order : (id : List ℕ) (change : OrderRowValue → OrderRowValue) → ((row : OrderRowValue) → row.text.id ≡ id → (change row).text.id ≡ id)
    → (rows : List OrderRowValue) (other : List ℕ) → order_in (at_order id change rows) other ≡ (if is_same other id then option_map change (order_in rows other) else order_in rows other)
order_in-at_order id change keeps rows other = find-changed (λ (row : OrderRowValue). row.text.id) change id keeps rows other

pub names-at_order : (id : List ℕ) (change : OrderRowValue → OrderRowValue) → ((row : OrderRowValue) → row.text.id ≡ id → (change row).text.id ≡ id)
    → (rows : List OrderRowValue) → names_of (at_order id change rows) ≡ names_of rows
names-at_order id change keeps rows = names-changed (λ (row : OrderRowValue). row.text.id) change id keeps rows

pub length-at_order : (id : List ℕ) (change : OrderRowValue → OrderRowValue) (rows : List OrderRowValue) → length (at_order id change rows) ≡ length rows
length-at_order id change rows = length_map (λ (row : OrderRowValue). if is_order id row then change row else row) rows

-- ---- one more order

pub order_in-push : (rows : List OrderRowValue) (row : OrderRowValue) (id : List ℕ) → order_in rows row.text.id ≡ None
    → order_in (rows ++ row ∷ []) id ≡ (if is_same id row.text.id then Some row else order_in rows id)
order_in-push [] row id new = refl
order_in-push (other ∷ rows) row id new = elim (cases_Bool (is_same row.text.id other.text.id)) [
  | inl same ↦ cc (rw same at new)
  | inr apart ↦
      let later = order_in-push rows row id (rw apart at new) in
      elim (cases_Bool (is_same id other.text.id)) [
        | inl here ↦
            let away : is_same id row.text.id ≡ false = same_name.congr id other.text.id row.text.id here ∙ same_name.symm other.text.id row.text.id ∙ apart in
            rw (here, away) refl
        | inr elsewhere ↦ rw elsewhere later
      ]
]

-- ---- where the row of an order stands

pub record IsRowAt (rows : List OrderRowValue) (id : List ℕ) (k : ℕ) (row : OrderRowValue) : Type 0 where
  pub within : k < length rows
  pub there : slice_get rows k ≡ Some row
  pub found : order_in rows id ≡ Some row
  pub named : row.text.id ≡ id
  pub valid : IsOrderRow row

pub row_at : (rows : List OrderRowValue) (id : List ℕ) (r : Option ℕ) (k : ℕ) (row : OrderRowValue)
    → IsOrderRows rows → r ≡ position (is_order id) rows → r ≡ Some k → row ≡ get_or rows k row → IsRowAt rows id k row
row_at rows id r k row h indexed is read =
    let (found, within) = found_at_place (is_order id) rows k (sym indexed ∙ is) in
    let there : slice_get rows k ≡ Some row = slice_get-get_or rows k row within ∙ ap Some (sym read) in
    record {
      within = within;
      there = there;
      found = found ∙ there;
      named = id-order_in rows id row (found ∙ there);
      valid = subst IsOrderRow (sym read) (h.each k row within);
    }

-- the row that stands at an index is that of its order
pub row_there : (rows : List OrderRowValue) (k : ℕ) (row : OrderRowValue) → IsOrderRows rows → k < length rows → row ≡ get_or rows k row → IsRowAt rows row.text.id k row
row_there rows k row h within read =
    let there : slice_get rows k ≡ Some row = slice_get-get_or rows k row within ∙ ap Some (sym read) in
    record {
      within = within;
      there = there;
      found = order_in-there rows k row h.distinct there;
      named = refl;
      valid = subst IsOrderRow (sym read) (h.each k row within);
    }

pub known_at : (rows : List OrderRowValue) (id : List ℕ) (r : Option ℕ) → r ≡ position (is_order id) rows → IsSome (order_in rows id) → IsSome r
known_at rows id (Some k) indexed known = refl
known_at rows id None indexed known =
    let none : order_in rows id ≡ None = not_found (is_order id) rows (sym indexed) in
    rw none at known

-- ---- a row in the place of another of its order

pub changed_is : (rows : List OrderRowValue) (id : List ℕ) (k : ℕ) (row : OrderRowValue) (change : OrderRowValue → OrderRowValue)
    → IsOrderRows rows → IsRowAt rows id k row → slice_set rows k (change row) ≡ at_order id change rows
changed_is rows id k row change h at =
    changed_at (λ (row : OrderRowValue). row.text.id) change rows k row h.distinct at.there ∙ ap (λ name. at_order name change rows) at.named

-- the same by the row that stands at the index
pub set_at : (rows : List OrderRowValue) (k : ℕ) (row : OrderRowValue) (change : OrderRowValue → OrderRowValue)
    → IsOrderRows rows → IsRowAt rows row.text.id k row → IfSome (slice_get rows k) (λ old. slice_set rows k (change row) ≡ at_order old.text.id change rows)
set_at rows k row change h at = rw at.there (changed_is rows row.text.id k row change h at)

pub indexed_with : (rows : List OrderRowValue) (index : List ℕ → Option ℕ) (n m : ℕ) (id : List ℕ) (k : ℕ) (row new : OrderRowValue)
    → IsIndexed rows index n → IsRowAt rows id k row → new.text.id ≡ row.text.id → IsOrderRow new → m + wanted_open row ≡ n + wanted_open new → m ≤ n
    → IsIndexed (slice_set rows k new) index m
indexed_with rows index n m id k row new h at same valid count fewer =
    let is : get_or rows k row ≡ row = cc (slice_get-get_or rows k row at.within, at.there) in
    let names_same : names_of (slice_set rows k new) ≡ names_of rows = map-set_same (λ (row : OrderRowValue). row.text.id) rows k new row (same ∙ ap (λ (row : OrderRowValue). row.text.id) (sym is)) in
    let sum : open_wagons (slice_set rows k new) + wanted_open row ≡ open_wagons rows + wanted_open new =
    subst (λ r. open_wagons (slice_set rows k new) + wanted_open r ≡ open_wagons rows + wanted_open new) is (sum_by-set wanted_open rows k new row at.within) in
    let counted : n ≡ open_wagons rows = h.counted in
    let few : open_wagons rows ≤ max_open_wagons = h.kept.few_open in
    let total : m ≡ open_wagons (slice_set rows k new) = count_same m n (open_wagons (slice_set rows k new)) (open_wagons rows) (wanted_open row) (wanted_open new) count sum counted in
    record {
      kept = record {
        distinct = subst (IsDistinct is_same) (sym names_same) h.kept.distinct;
        each = All-set IsOrderRow rows k new valid h.kept.each;
        few_open = at_most m n (open_wagons (slice_set rows k new)) (open_wagons rows) max_open_wagons total fewer counted few;
      };
      indexed = λ q. h.indexed q ∙ sym (position-set (is_order q) rows k new row (ap (is_same q) (same ∙ ap (λ (row : OrderRowValue). row.text.id) (sym is))));
      counted = total;
    }
  where
    count_same : (m n a b v w : ℕ) → m + v ≡ n + w → a + v ≡ b + w → n ≡ b → m ≡ a
    count_same m n a b v w p q r = omega arith

    at_most : (m n a b most : ℕ) → m ≡ a → m ≤ n → n ≡ b → b ≤ most → a ≤ most
    at_most m n a b most p q r s = omega arith

-- ---- what an order wants while it is open, before and after a change

wanted_while : (b : Bool) (m n w : ℕ) → m ≤ n → cond (b && nat_lt n w) w 0 ≤ cond (b && nat_lt m w) w 0
wanted_while false m n w h = omega arith
wanted_while true m n w h = elim (cases_lt n w) [
  | inl lt ↦ let less : m < w = omega arith in rw (lt-ltb n w lt, lt-ltb m w less) (omega arith)
  | inr ge ↦ rw (le-ltb n w ge) (omega arith)
]

pub wanted-filled : (number : List ℕ) (row : OrderRowValue) → wanted_open (filled_by number row) ≤ wanted_open row
wanted-filled number row = wanted_while (not row.withdrawn) (length row.filled) (length (row.filled ++ number ∷ [])) row.text.wagons (omega (arith, length-append row.filled (number ∷ [])))

wanted_all : (w : ℕ) → cond (nat_lt 0 w) w 0 ≡ w
wanted_all w = elim (cases_lt 0 w) [ inl lt ↦ rw (lt-ltb 0 w lt) refl | inr ge ↦ rw (le-ltb 0 w ge) (omega arith) ]

pub wanted-placed : (text : Order) → wanted_open (placed_row text) ≡ text.wagons
wanted-placed text = wanted_all text.wagons

-- no order wants more than all of them
pub wanted_within : (rows : List OrderRowValue) (index : List ℕ → Option ℕ) (n : ℕ) (id : List ℕ) (k : ℕ) (row : OrderRowValue) → IsIndexed rows index n → IsRowAt rows id k row → wanted_open row ≤ n
wanted_within rows index n id k row h at =
    let is : get_or rows k row ≡ row = cc (slice_get-get_or rows k row at.within, at.there) in
    let gone : OrderRowValue = taken_back row in
    let sum : open_wagons (slice_set rows k gone) + wanted_open row ≡ open_wagons rows + wanted_open gone =
    subst (λ r. open_wagons (slice_set rows k gone) + wanted_open r ≡ open_wagons rows + wanted_open gone) is (sum_by-set wanted_open rows k gone row at.within) in
    omega (arith, h.counted)

-- ---- one more row

pub open_wagons-cons : (row : OrderRowValue) (rows : List OrderRowValue) → open_wagons (row ∷ rows) ≡ wanted_open row + open_wagons rows
open_wagons-cons row rows = sum_by-cons wanted_open row rows

pub open_wagons-push : (rows : List OrderRowValue) (row : OrderRowValue) → open_wagons (rows ++ row ∷ []) ≡ open_wagons rows + wanted_open row
open_wagons-push rows row = sum_by-append wanted_open rows (row ∷ []) ∙ ap (λ n. open_wagons rows + n) (zero-add (wanted_open row))

pub indexed_new : (rows : List OrderRowValue) (indexes : BTreeMap (List ℕ) ℕ) → rows ≡ [] → indexes.entries ≡ [] → IsIndexed rows (get (slice_cmp nat_cmp) indexes) 0
unfolding IsDistinct
indexed_new rows indexes none empty = record {
  kept = rw none (record { distinct = tt; each = All-nil IsOrderRow; few_open = omega arith });
  indexed = λ q. rw (none, empty) refl;
  counted = rw none refl;
}

pub indexed_push : (rows : List OrderRowValue) (index index' : List ℕ → Option ℕ) (n : ℕ) (row : OrderRowValue) → IsIndexed rows index n → order_in rows row.text.id ≡ None → IsOrderRow row → n + wanted_open row ≤ max_open_wagons
    → ((q : List ℕ) → index' q ≡ cond (is_eq (slice_cmp nat_cmp row.text.id q)) (Some (length rows)) (index q))
    → IsIndexed (rows ++ row ∷ []) index' (n + wanted_open row)
indexed_push rows index index' n row h new valid few with_row =
    let others : list_any (is_same row.text.id) (names_of rows) ≡ false = nothing_named (λ (row : OrderRowValue). row.text.id) row.text.id rows new in
    let added : names_of (rows ++ row ∷ []) ≡ names_of rows ++ row.text.id ∷ [] = map-append (λ (row : OrderRowValue). row.text.id) rows (row ∷ []) in
    let total : n + wanted_open row ≡ open_wagons (rows ++ row ∷ []) = counted_all n (open_wagons rows) (wanted_open row) _ h.counted (open_wagons-push rows row) in
    record {
      kept = record {
        distinct = subst (IsDistinct is_same) (sym added) (IsDistinct-push same_name (names_of rows) row.text.id h.kept.distinct others);
        each = All-append IsOrderRow rows (row ∷ []) h.kept.each (All-cons IsOrderRow row [] valid (All-nil IsOrderRow));
        few_open = subst (λ m. m ≤ max_open_wagons) total few;
      };
      indexed = λ q. with_row q ∙ index_in q (is_same q row.text.id) refl;
      counted = total;
    }
  where
    counted_all : (n b v a : ℕ) → n ≡ b → a ≡ b + v → n + v ≡ a
    counted_all n b v a p r = omega arith

    -- the name is the new one, or it is not
    index_in : (q : List ℕ) (b : Bool) → is_same q row.text.id ≡ b → cond (is_eq (slice_cmp nat_cmp row.text.id q)) (Some (length rows)) (index q) ≡ position (is_order q) (rows ++ row ∷ [])
    index_in q true is =
        let equal : q ≡ row.text.id = (bytes_decides q row.text.id).0 is in
        let here : is_eq (slice_cmp nat_cmp row.text.id q) ≡ true = sym (texts_ties row.text.id q) ∙ (same_name.symm row.text.id q ∙ is) in
        let none : position (is_order q) rows ≡ None = no_place (is_order q) rows (ap (order_in rows) equal ∙ new) in
        rw here (sym (position-new (is_order q) rows row is none))
    index_in q false is =
        let other : is_eq (slice_cmp nat_cmp row.text.id q) ≡ false = sym (texts_ties row.text.id q) ∙ (same_name.symm row.text.id q ∙ is) in
        rw other (h.indexed q ∙ sym (position-push (is_order q) rows row is))

-- ---- copies, row by row

-- the open orders of the first rows want no more than all of them
taken_wants : (rows : List OrderRowValue) (k : ℕ) (d : OrderRowValue) → k < length rows → open_wagons (take k rows) + wanted_open (get_or rows k d) ≤ open_wagons rows
taken_wants rows k d within =
    let more : open_wagons (take (k + 1) rows) ≡ open_wagons (take k rows) + wanted_open (get_or rows k d) = ap open_wagons (take_more rows k d within) ∙ open_wagons-push (take k rows) (get_or rows k d) in
    omega (arith, more, taken_fewer rows (k + 1))
  where
    taken_fewer : (rows : List OrderRowValue) (n : ℕ) → open_wagons (take n rows) ≤ open_wagons rows
    taken_fewer rows zero = omega arith
    taken_fewer [] (suc n) = omega arith
    taken_fewer (row ∷ rows) (suc n) = omega (arith, taken_fewer rows n, open_wagons-cons row rows, open_wagons-cons row (take n rows))

other_name : (row : OrderRowValue) (rows : List OrderRowValue) (k : ℕ) (d : OrderRowValue) → AllByRecursion (λ name. is_same row.text.id name ≡ false) (names_of rows) → k < length rows → is_same (get_or rows k d).text.id row.text.id ≡ false
other_name row [] k d apart within = absurd (omega arith)
other_name row (next ∷ rows) zero d apart within = same_name.symm next.text.id row.text.id ∙ apart.0
other_name row (next ∷ rows) (suc k) d apart within = other_name row rows k d apart.1 (omega arith)

none_before : (rows : List OrderRowValue) (k : ℕ) (d : OrderRowValue) → IsDistinct is_same (names_of rows) → k < length rows → order_in (take k rows) (get_or rows k d).text.id ≡ None
unfolding IsDistinct
none_before rows zero d distinct within = refl
none_before [] (suc k) d distinct within = absurd (omega arith)
none_before (row ∷ rows) (suc k) d distinct within = rw (other_name row rows k d distinct.0 (omega arith)) (none_before rows k d distinct.1 (omega arith))

-- what a row at an index needs to be added behind those before it
pub record MayFollow (rows : List OrderRowValue) (k : ℕ) (d : OrderRowValue) : Type 0 where
  pub new : order_in (take k rows) (get_or rows k d).text.id ≡ None
  pub few_open : open_wagons (take k rows) + wanted_open (get_or rows k d) ≤ max_open_wagons

pub may_follow : (rows : List OrderRowValue) (k : ℕ) (d : OrderRowValue) → IsOrderRows rows → k < length rows → MayFollow rows k d
may_follow rows k d h within = record {
  new = none_before rows k d h.distinct within;
  few_open = omega (arith, taken_wants rows k d within, h.few_open);
}

-- the same of a copy so far and of a copied row
pub copy_follows : (rows items copy : List OrderRowValue) (k : ℕ) (row : OrderRowValue) → IsOrderRows rows → items ≡ rows → k < length items → row ≡ get_or items k row → copy ≡ take k items
    → (order_in copy row.text.id ≡ None) × (open_wagons copy + wanted_open row ≤ max_open_wagons)
copy_follows rows items copy k row h same within is so_far =
    let may = may_follow rows k row h (rw (← same) within) in
    let row_is : get_or rows k row ≡ row = ap (λ list. get_or list k row) (sym same) ∙ sym is in
    let copy_is : take k rows ≡ copy = ap (take k) (sym same) ∙ sym so_far in
    (rw (copy_is, row_is) at may.new, rw (copy_is, row_is) at may.few_open)

-- the count less what an order wants no more
pub less_wanted : (n before after old new : ℕ) → before ≡ old → after ≡ new → new ≤ old → old ≤ n → n - (before - after) + old ≡ n + new
less_wanted n before after old new p q r s = omega arith

pub less_all : (n before old : ℕ) → before ≡ old → old ≤ n → n - before + old ≡ n + 0
less_all n before old p s = omega arith
