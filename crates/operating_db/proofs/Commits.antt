-- Pairs that can be promised together can be promised one after the other.
use Rattle.std.proofs.Common.{◌≡◌, ◌∙◌, ℕ, ◌+◌, ◌-◌, ◌<◌, ◌≤◌, Bool, true, false, cond, List, [], ◌∷◌, ◌++◌, length, take, drop, get_or, ◌&&◌, refl, ap, sym, subst, arith, zero, suc}
use Rattle.std.specs.Prelude.{◌↔◌, IsTrue, nat_le, Option, Some, None, option_map, is_some, IsSome, IsSomeAnd, IfSome, All}
use Rattle.std.specs.List.{Contains, list_all, slice_index_or, sum_by}
use Rattle.std.proofs.lemmas.List.Elements.{All-head, All-tail, All-weaker}
use Rattle.std.proofs.lemmas.Bool.Decides.{nat_tests}
use Rattle.std.proofs.lemmas.List.{drop_more, take_more}
use Rattle.std.proofs.lemmas.List.Sums.{AllPass-from_list_all, list_all-from_AllPass, sum_by-cons}
use Rattle.wagons_and_orders.specs.declared.status.Status.{Status}
use Rattle.wagons_and_orders.specs.declared.status.Status.TheVariants.{Empty, Loading, Ready, Journey, Yard, Arrived, Unloading}
use Rattle.wagons_and_orders.specs.declared.wagon_row.WagonRow.{WagonRow}
use Rattle.wagons_and_orders.specs.Free.{free_of, free_by}
use Rattle.wagons_and_orders.specs.Lack.{lack_of}
use Rattle.wagons_and_orders.specs.Numbers.{with_number}
use Rattle.wagons_and_orders.specs.OrderRow.{OrderRowValue}
use Rattle.wagons_and_orders.proofs.Rows.{length-with}
use Rattle.fleet_rows.specs.FreeWagons.{is_free}
use Rattle.fleet_rows.specs.Rows.{wagon_in, order_in, promised_to}
use Rattle.operating_db.specs.Commits.{Pair, times_of_wagon, times_of_order, is_free_row, lack_in, IsPromisable, CanPromise, given_to, promise_pair, promise_all}
use Rattle.operating_db.specs.inner.EventParts.{IsNext, is_promisable}
use Rattle.operating_db.specs.Office.{Office}
use Rattle.operating_db.specs.State.{StateValue}
use Rattle.operating_db.specs.Promises.{is_among, is_promise_to, promise_of, promised_of, SidesAgree}
use Rattle.operating_db.proofs.Agree.{promised_agree}
use Rattle.operating_db.proofs.Lookups.{wagon_in-at, order_in-at}
use Rattle.operating_db.proofs.Names.{same, same_is, same_self, same_sym, contains_among}

-- what pairs need that are promised one after the other
abbrev pub AreNext : Office → List Pair → Type 0
AreNext office [] = Unit {0}
AreNext office (pair ∷ pairs) = IsNext office pair × AreNext (promise_pair office pair) pairs

-- what all pairs need, said of their names, so that it lasts while they are promised
record Each (office : Office) (pairs : List Pair) : Type 0 where
  once : (n : List ℕ) → times_of_wagon n pairs ≤ 1
  free : (n : List ℕ) → 0 < times_of_wagon n pairs → is_free_row (wagon_in office.wagons n) ≡ true
  lacking : (id : List ℕ) → times_of_order id pairs ≤ lack_in (order_in office.orders id)

wagon-cons : (n : List ℕ) (p : Pair) (ps : List Pair) → times_of_wagon n (p ∷ ps) ≡ cond (same n p.0) 1 0 + times_of_wagon n ps
wagon-cons n p ps = sum_by-cons (λ (q : Pair). cond (same n q.0) 1 0) p ps

order-cons : (id : List ℕ) (p : Pair) (ps : List Pair) → times_of_order id (p ∷ ps) ≡ cond (same id p.1) 1 0 + times_of_order id ps
order-cons id p ps = sum_by-cons (λ (q : Pair). cond (same id q.1) 1 0) p ps

-- ---- from each pair to each name

-- what holds of the name in each pair holds of each name that stands in one
module _ (name_in : Pair → List ℕ) (P : List ℕ → Type 0) where
  among_step : (n m : List ℕ) (b : Bool) (count : ℕ) → same n m ≡ b → P m → (0 < count → P n) → 0 < cond b 1 0 + count → P n
  among_step n m true count is h rest more = subst P (sym (same_is n m is)) h
  among_step n m false count is h rest more = rest (omega (arith, more))

  among : (pairs : List Pair) → All (λ pair. P (name_in pair)) pairs → (n : List ℕ) → 0 < sum_by (λ pair. cond (same n (name_in pair)) 1 0) pairs → P n
  among [] all n more = absurd (omega (arith, more))
  among (p ∷ ps) all n more =
      let count = λ (q : Pair). cond (same n (name_in q)) 1 0 in
      let head = All-head (λ (q : Pair). P (name_in q)) p ps all in
      let tail = All-tail (λ (q : Pair). P (name_in q)) p ps all in
      among_step n (name_in p) (same n (name_in p)) (sum_by count ps) refl head (among ps tail n) (subst (λ (k : ℕ). 0 < k) (sum_by-cons count p ps) more)

abbrev OfWagon : Office → List Pair → List ℕ → Type 0
OfWagon office pairs n = (times_of_wagon n pairs ≤ 1) × (is_free_row (wagon_in office.wagons n) ≡ true)

wagon_among : (office : Office) (pairs : List Pair) → CanPromise office pairs → (n : List ℕ) → 0 < times_of_wagon n pairs → OfWagon office pairs n
wagon_among office pairs can =
    among (λ p. p.0) (OfWagon office pairs) pairs (All-weaker (IsPromisable office pairs) (λ (p : Pair). OfWagon office pairs p.0) (λ p h. (h.once, h.free)) pairs can)

abbrev OfOrder : Office → List Pair → List ℕ → Type 0
OfOrder office pairs id = times_of_order id pairs ≤ lack_in (order_in office.orders id)

order_among : (office : Office) (pairs : List Pair) → CanPromise office pairs → (id : List ℕ) → 0 < times_of_order id pairs → OfOrder office pairs id
order_among office pairs can =
    among (λ p. p.1) (OfOrder office pairs) pairs (All-weaker (IsPromisable office pairs) (λ (p : Pair). OfOrder office pairs p.1) (λ p h. h.lacking) pairs can)

none_or_some : (n m : ℕ) → (0 < n → n ≤ m) → n ≤ m
none_or_some zero m h = omega arith
none_or_some (suc n) m h = h (omega arith)

each_of : (office : Office) (pairs : List Pair) → CanPromise office pairs → Each office pairs
each_of office pairs can = record {
  once = λ n. none_or_some (times_of_wagon n pairs) 1 (λ more. (wagon_among office pairs can n more).0);
  free = λ n more. (wagon_among office pairs can n more).1;
  lacking = λ id. none_or_some (times_of_order id pairs) (lack_in (order_in office.orders id)) (λ more. order_among office pairs can id more);
}

-- ---- a pair is promised

other_wagon : (b : Bool) (count : ℕ) → cond b 1 0 + count ≤ 1 → 0 < count → b ≡ false
other_wagon true count h more = absurd (omega (arith, h, more))
other_wagon false count h more = refl

stays_free : (b : Bool) (f : WagonRow → WagonRow) (o : Option WagonRow) → b ≡ false → is_free_row o ≡ true → is_free_row (cond b (option_map f o) o) ≡ true
stays_free true f o differs h = cc differs
stays_free false f o differs h = h

-- an order lacks one wagon less once it is promised one
less_by_one : (w : Bool) (wagons before after filled count : ℕ) → after ≡ before + 1 → 1 + count ≤ cond w 0 (wagons - (before + filled)) → count ≤ cond w 0 (wagons - (after + filled))
less_by_one true wagons before after filled count e h = absurd (omega (arith, h))
less_by_one false wagons before after filled count e h = omega (arith, e, h)

lack_step : (number : List ℕ) (b : Bool) (o : Option OrderRowValue) (count : ℕ) → cond b 1 0 + count ≤ lack_in o → count ≤ lack_in (cond b (option_map (promised_to number) o) o)
lack_step number true None count h = absurd (omega (arith, h))
lack_step number true (Some row) count h = less_by_one row.withdrawn row.text.wagons (length row.promised) (length (with_number number row.promised)) (length row.filled) count (length-with number row.promised) h
lack_step number false o count h = omega (arith, h)

each_after : (office : Office) (p : Pair) (ps : List Pair) → Each office (p ∷ ps) → Each (promise_pair office p) ps
each_after office p ps h = record {
  once = λ n. let c = wagon-cons n p ps in let k = h.once n in omega (arith, c, k);
  free = λ n more.
      let c = wagon-cons n p ps in
      let first : 0 < times_of_wagon n (p ∷ ps) = omega (arith, c, more) in
      let other : same p.0 n ≡ false = same_sym p.0 n ∙ other_wagon (same n p.0) (times_of_wagon n ps) (subst (λ (k : ℕ). k ≤ 1) c (h.once n)) more in
      ap is_free_row (wagon_in-at p.0 (given_to p.1) (λ r e. refl) office.wagons n) ∙ stays_free (same p.0 n) (given_to p.1) (wagon_in office.wagons n) other (h.free n first);
  lacking = λ id.
      let c = order-cons id p ps in
      let before : cond (same p.1 id) 1 0 + times_of_order id ps ≤ lack_in (order_in office.orders id) =
      subst (λ (b : Bool). cond b 1 0 + times_of_order id ps ≤ lack_in (order_in office.orders id)) (same_sym id p.1) (subst (λ (k : ℕ). k ≤ lack_in (order_in office.orders id)) c (h.lacking id)) in
      subst (λ (o : Option OrderRowValue). times_of_order id ps ≤ lack_in o) (sym (order_in-at p.1 (promised_to p.0) (λ r e. refl) office.orders id)) (lack_step p.0 (same p.1 id) (order_in office.orders id) (times_of_order id ps) before);
}

counted : (b : Bool) (count : ℕ) → b ≡ true → 0 < cond b 1 0 + count
counted true count e = omega arith
counted false count e = cc e

next_of_each : (office : Office) (pairs : List Pair) → Each office pairs → AreNext office pairs
next_of_each office [] h = tt
next_of_each office (p ∷ ps) h =
    let wagon : 0 < times_of_wagon p.0 (p ∷ ps) = subst (λ (k : ℕ). 0 < k) (sym (wagon-cons p.0 p ps)) (counted (same p.0 p.0) (times_of_wagon p.0 ps) (same_self p.0)) in
    let order : 0 < times_of_order p.1 (p ∷ ps) = subst (λ (k : ℕ). 0 < k) (sym (order-cons p.1 p ps)) (counted (same p.1 p.1) (times_of_order p.1 ps) (same_self p.1)) in
    let enough = h.lacking p.1 in
    (record { free = h.free p.0 wagon; lacking = omega (arith, order, enough) }, next_of_each (promise_pair office p) ps (each_after office p ps h))

pub next_of_can : (office : Office) (pairs : List Pair) → CanPromise office pairs → AreNext office pairs
next_of_can office pairs can = next_of_each office pairs (each_of office pairs can)

-- ---- a free wagon has no promise

by_promise : (row : WagonRow) (status : Status) (held : Bool) (promise : Option (List ℕ)) → is_some (free_by row status held promise) ≡ true → promise ≡ None
by_promise row status held None h = refl
by_promise row (Empty place ready) true (Some id) h = cc
by_promise row (Empty place ready) false (Some id) h = cc
by_promise row (Loading place) held (Some id) h = cc
by_promise row (Ready place) held (Some id) h = cc
by_promise row (Journey load place) held (Some id) h = cc
by_promise row (Yard load place) held (Some id) h = cc
by_promise row (Arrived load place) held (Some id) h = cc
by_promise row (Unloading place) held (Some id) h = cc

pub free_unpromised : (row : WagonRow) → is_some (free_of row) ≡ true → row.promise ≡ None
unfolding free_of
free_unpromised row h = by_promise row row.status row.held row.promise h

next_agree_at : (office : Office) (p : Pair) (wagon : Option WagonRow) (order : Option OrderRowValue) → wagon_in office.wagons p.0 ≡ wagon → order_in office.orders p.1 ≡ order → is_free_row wagon ≡ true → 0 < lack_in order → SidesAgree office → SidesAgree (promise_pair office p)
next_agree_at office p None order w o free lacking agree = cc free
next_agree_at office p (Some row) None w o free lacking agree = absurd (omega (arith, lacking))
next_agree_at office p (Some row) (Some order) w o free lacking agree = promised_agree office p.0 p.1 row order w (free_unpromised row free) o agree

pub next_agree : (office : Office) (p : Pair) → IsNext office p → SidesAgree office → SidesAgree (promise_pair office p)
next_agree office p next agree = next_agree_at office p (wagon_in office.wagons p.0) (order_in office.orders p.1) refl refl next.free next.lacking agree

-- one pair after others
pub all-more : (office : Office) (pairs : List Pair) (pair : Pair) → promise_all office (pairs ++ pair ∷ []) ≡ promise_pair (promise_all office pairs) pair
all-more office [] pair = refl
all-more office (p ∷ ps) pair = all-more (promise_pair office p) ps pair

-- what the promise of a pair needs of the order's row
known_by : (office : Office) (p : Pair) (o : Option OrderRowValue) → order_in office.orders p.1 ≡ o → 0 < lack_in o → IsSome o
known_by office p None is lacking = absurd (omega (arith, lacking))
known_by office p (Some row) is lacking = refl

pub next_known : (office : Office) (p : Pair) → IsNext office p → IsSome (order_in office.orders p.1)
next_known office p next = known_by office p (order_in office.orders p.1) refl next.lacking

lacks_by : (o : Option OrderRowValue) → 0 < lack_in o → IfSome o (λ row. 0 < lack_of row)
lacks_by None lacking = tt
lacks_by (Some row) lacking = lacking

pub next_lacks : (office : Office) (p : Pair) → IsNext office p → IfSome (order_in office.orders p.1) (λ row. 0 < lack_of row)
next_lacks office p next = lacks_by (order_in office.orders p.1) next.lacking

-- the wagon of a pair is there, and free
pub free_there : (o : Option WagonRow) → is_free_row o ≡ true → IsSomeAnd o (λ row. is_free row ≡ true)
free_there None h = cc h
free_there (Some row) h = h

free_by_row : (o : Option WagonRow) → is_free_row o ≡ true → promise_of o ≡ None
free_by_row None h = refl
free_by_row (Some row) h = free_unpromised row h

new_by : (n : List ℕ) (o : Option OrderRowValue) → is_among n (promised_of o) ≡ false → IfSome o (λ row. ¬ Contains row.promised n)
new_by n None h = tt
new_by n (Some row) h = λ there. let yes : is_among n row.promised ≡ true = contains_among n row.promised there in cc

pub next_new : (office : Office) (p : Pair) → IsNext office p → SidesAgree office → IfSome (order_in office.orders p.1) (λ row. ¬ Contains row.promised p.0)
next_new office p next agree =
    new_by p.0 (order_in office.orders p.1) (sym (agree p.0 p.1) ∙ ap (λ (q : Option (List ℕ)). is_promise_to q p.1) (free_by_row (wagon_in office.wagons p.0) next.free))

-- the test of each pair is what a commit needs
test_parts : (pair_once pair_free pair_lacks : Bool) → (pair_once && pair_free && pair_lacks) ≡ true → (pair_once ≡ true) × (pair_free ≡ true) × (pair_lacks ≡ true)
test_parts true true true h = (refl, refl, refl)
test_parts true true false h = cc h
test_parts true false c h = cc h
test_parts false b c h = cc h

is_at_most : (n m : ℕ) → nat_le n m ≡ true → n ≤ m
is_at_most n m h = grind (arith, nat_tests, h)

at_most_is : (n m : ℕ) → n ≤ m → nat_le n m ≡ true
at_most_is n m h = grind (arith, nat_tests, h)

promisable_of_test : (office : Office) (pairs : List Pair) (pair : Pair) → is_promisable office pairs pair ≡ true → IsPromisable office pairs pair
promisable_of_test office pairs pair h =
    let parts = test_parts (nat_le (times_of_wagon pair.0 pairs) 1) (is_free_row (wagon_in office.wagons pair.0)) (nat_le (times_of_order pair.1 pairs) (lack_in (order_in office.orders pair.1))) h in
    record { once = is_at_most _ _ parts.0; free = parts.1; lacking = is_at_most _ _ parts.2 }

test_of_promisable : (office : Office) (pairs : List Pair) (pair : Pair) → IsPromisable office pairs pair → is_promisable office pairs pair ≡ true
test_of_promisable office pairs pair h =
    let once : nat_le (times_of_wagon pair.0 pairs) 1 ≡ true = at_most_is _ _ h.once in
    let lacking : nat_le (times_of_order pair.1 pairs) (lack_in (order_in office.orders pair.1)) ≡ true = at_most_is _ _ h.lacking in
    rw (once, h.free, lacking) refl

pub can_by_test : (office : Office) (pairs : List Pair) (result : Bool) → result ≡ list_all (is_promisable office pairs) pairs → IsTrue result ↔ CanPromise office pairs
can_by_test office pairs result is = (
  λ yes k d below. promisable_of_test office pairs (slice_index_or pairs k d) (AllPass-from_list_all (is_promisable office pairs) pairs (sym is ∙ yes) k d below),
  λ can. is ∙ list_all-from_AllPass (is_promisable office pairs) pairs (λ k d below. test_of_promisable office pairs (slice_index_or pairs k d) (can k d below)),
)

-- one more pair of a commit
abbrev pub after_pairs : StateValue → List Pair → StateValue
after_pairs state pairs = record state { office = promise_all state.office pairs }

pub commit_next : (pairs : List Pair) (i : ℕ) (pair : Pair) (first before after : StateValue) → pair ≡ get_or pairs i pair → i < length pairs → before ≡ after_pairs first (take i pairs) → AreNext before.office (drop i pairs)
    → after ≡ record before { office = promise_pair before.office pair } → (after ≡ after_pairs first (take (i + 1) pairs)) × AreNext after.office (drop (i + 1) pairs)
commit_next pairs i pair first before after is below so_far next now =
    let front : take (i + 1) pairs ≡ take i pairs ++ pair ∷ [] = take_more pairs i pair below ∙ ap (λ (p : Pair). take i pairs ++ p ∷ []) (sym is) in
    let back : drop i pairs ≡ pair ∷ drop (i + 1) pairs = drop_more pairs i pair below ∙ ap (λ (p : Pair). p ∷ drop (i + 1) pairs) (sym is) in
    let rest : AreNext before.office (pair ∷ drop (i + 1) pairs) = subst (AreNext before.office) back next in (
      now ∙ (ap (λ (s : StateValue). record s { office = promise_pair s.office pair }) so_far
          ∙ (ap (λ (o : Office). record first { office = o }) (sym (all-more first.office (take i pairs) pair)) ∙ ap (after_pairs first) (sym front))),
      subst (λ (o : Office). AreNext o (drop (i + 1) pairs)) (sym (ap (λ (s : StateValue). s.office) now)) rest.1,
    )
