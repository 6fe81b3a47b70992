-- What a change of the fleet keeps, and what a map of rows by number gives.
use Rattle.std.proofs.Common.{◌≡◌, ◌∙◌, ℕ, zero, suc, ◌+◌, ◌<◌, ◌≤◌, Bool, true, false, cond, not, ◌||◌, is_some, is_none, List, [], ◌∷◌, ◌++◌, length, take, drop, get_or, Option, Some, None, IfSome, option_map, refl, ap, sym, subst, inl, inr, arith}
use Rattle.std.specs.BTreeMap.{BTreeMap, IsOrdered, get, is_at, values}
use Rattle.std.specs.Cmp.Lexicographic.{texts_ties}
use Rattle.std.specs.List.{All, AllByRecursion, find, position_or_len, slice_get}
use Rattle.std.specs.List.Sorted.{IsStrictlySortedBy}
use Rattle.std.specs.Map.{keys_of, lookup, values_of}
use Rattle.std.specs.Option.{option_or}
use Rattle.std.specs.Ordering.{is_eq, ordering_reverse}
use Rattle.std.specs.declared.cmp.Ordering.{Ordering}
use Rattle.std.specs.declared.cmp.Ordering.TheVariants.{Less, Equal, Greater}
use Rattle.std.proofs.lemmas.Bool.{cases_Bool}
use Rattle.std.proofs.lemmas.Cmp.{nat_list_cmp_total}
use Rattle.std.proofs.lemmas.List.{take-append-drop, take_all, take_more}
use Rattle.std.proofs.lemmas.List.Elements.{All-tail}
use Rattle.std.proofs.lemmas.List.Folds.{find-append, find_at, list_any_more}
use Rattle.std.proofs.lemmas.Map.Keys.{sorted_head, sorted_tail}
use Rattle.std.proofs.lemmas.Map.Lookups.{exact_bytes}
use Rattle.std.proofs.lemmas.Map.Views.{All-found}
use Rattle.std.proofs.lemmas.Option.{get_or_from_slice_get, slice_get-get_or, slice_get_within}
use Rattle.faults.specs.declared.faults.FleetFault.{FleetFault}
use Rattle.move_messages.specs.MaxLoad.{max_load}
use Rattle.wagons_and_orders.specs.PossibleRows.{IsPossibleRow}
use Rattle.wagons_and_orders.specs.declared.wagon_row.WagonRow.{WagonRow}
use Rattle.fleet_rows.specs.Kept.{IsWagonRows, by_number, compare_numbers, max_roster_wagons}
use Rattle.fleet_rows.specs.Roster.{IsRoster, IsRosterRow}
use Rattle.fleet_rows.specs.Rows.{is_wagon, wagon_in}
use Rattle.fleet_rows.proofs.Wagons.{found_is, number-wagon_in, wagon_in-there}
use Rattle.operating_db.specs.FleetChange.{AreRowsOf, IsFleetAfter, IsFleetRefusal, RowOf, adding_fault, fault_of_leaver, fleet_fault, is_promised, leaving_fault, may_leave, row_with, row_without}
use Rattle.operating_db.specs.Office.{Office}
use Rattle.operating_db.specs.Promises.{PromisesAgree, is_among, is_promise_to, promise_of}
use Rattle.operating_db.specs.inner.FleetMaps.{AreOwnRows, ArePut}
use Rattle.operating_db.proofs.Names.{among_contains, same, same_is, same_self, same_sym}

-- ---- what a search finds

-- what is found stands in the list
found_there : {X : Type 0} (p : X → Bool) (xs : List X) (x : X) → find p xs ≡ Some x → slice_get xs (position_or_len p xs) ≡ Some x
found_there p xs x h = sym (find_at p xs) ∙ h

-- and has what all in it have
all_found : {X : Type 0} (P : X → Type 0) (p : X → Bool) (xs : List X) (x : X) → All P xs → find p xs ≡ Some x → P x
all_found P p xs x all h =
    let there = found_there p xs x h in
    subst P (get_or_from_slice_get xs (position_or_len p xs) x x there) (all (position_or_len p xs) x (slice_get_within xs (position_or_len p xs) x there))

not_first : {X : Type 0} (b : Bool) (x : X) (rest : Option X) → cond b (Some x) rest ≡ None → (b ≡ false) × (rest ≡ None)
not_first true x rest h = cc h
not_first false x rest h = (refl, h)

-- where nothing is found, nothing in the list passes
none_passes : {X : Type 0} (p : X → Bool) (xs : List X) (k : ℕ) (x : X) → find p xs ≡ None → slice_get xs k ≡ Some x → p x ≡ false
none_passes p [] k x h there = cc there
none_passes p (y ∷ ys) zero x h there =
    let same : y ≡ x = cc there in
    subst (λ z. p z ≡ false) same (not_first (p y) y (find p ys) h).0
none_passes p (y ∷ ys) (suc k) x h there = none_passes p ys k x (not_first (p y) y (find p ys) h).1 there

if_found : {X : Type 0} (P : X → Type 0) (o : Option X) → ((x : X) → o ≡ Some x → P x) → IfSome o P
if_found P None h = tt
if_found P (Some x) h = h x refl

at_found : {X : Type 0} (P : X → Type 0) (o : Option X) (x : X) → IfSome o P → o ≡ Some x → P x
at_found P o x h e = rw e at h

-- ---- what no fault says

neither : {X : Type 0} (o p : Option X) → option_or o p ≡ None → (o ≡ None) × (p ≡ None)
neither None p h = (refl, h)
neither (Some x) p h = cc h

unmapped : {X Y : Type 0} (f : X → Y) (o : Option X) → option_map f o ≡ None → o ≡ None
unmapped f None h = refl
unmapped f (Some x) h = cc h

not_false : (b : Bool) → not b ≡ false → b ≡ true
not_false true h = refl
not_false false h = cc h

none_by_test : {X : Type 0} (o : Option X) → is_some o ≡ false → o ≡ None
none_by_test None h = refl
none_by_test (Some x) h = cc h

none_by_none : {X : Type 0} (o : Option X) → is_none o ≡ true → o ≡ None
none_by_none None h = refl
none_by_none (Some x) h = cc h

module _ (rows added : List WagonRow) (leaving : List (List ℕ)) (no_fault : fleet_fault rows added leaving ≡ None) where
  -- a row that is added is that of no promised wagon
  added_free : (number : List ℕ) → IfSome (wagon_in added number) (λ _. promise_of (wagon_in rows number) ≡ None)
  added_free number = if_found (λ _. promise_of (wagon_in rows number) ≡ None) (wagon_in added number) (λ row found.
      let named : row.number ≡ number = number-wagon_in added number row found in
      let none = unmapped _ _ (neither (adding_fault rows added) (leaving_fault (row_with rows added) leaving) no_fault).0 in
      let free = none_passes (λ (row : WagonRow). is_promised (wagon_in rows row.number)) added _ row none (found_there (is_wagon number) added row found) in
      none_by_test (promise_of (wagon_in rows number)) (subst (λ n. is_promised (wagon_in rows n) ≡ false) named free))

  -- each wagon that leaves may leave
  leaver_free : (number : List ℕ) → is_among number leaving ≡ true → may_leave (row_with rows added number) ≡ true
  leaver_free number among =
      let (k, below, is) = among_contains number leaving among in
      let there : slice_get leaving k ≡ Some number = slice_get-get_or leaving k number below ∙ ap Some is in
      let none = unmapped _ _ (neither (adding_fault rows added) (leaving_fault (row_with rows added) leaving) no_fault).1 in
      not_false _ (none_passes (λ (n : List ℕ). not (may_leave (row_with rows added n))) leaving k number none there)

-- ---- the promises stay

-- `gone`: the wagon leaves; `new`: the row that is added; `old`: its row before
promise_stays : (gone : Bool) (new old : Option WagonRow) → IfSome new (λ row. row.promise ≡ None) → IfSome new (λ _. promise_of old ≡ None) → (gone ≡ true → may_leave (option_or new old) ≡ true)
    → promise_of (cond gone None (option_or new old)) ≡ promise_of old
promise_stays true None None fresh free leaves = refl
promise_stays true None (Some row) fresh free leaves = sym (none_by_none row.promise (leaves refl))
promise_stays true (Some row) old fresh free leaves = sym free
promise_stays false None old fresh free leaves = refl
promise_stays false (Some row) old fresh free leaves = fresh ∙ sym free

-- a row of a roster isn't promised
roster_free : (added : List WagonRow) → IsRoster added → (number : List ℕ) → IfSome (wagon_in added number) (λ row. row.promise ≡ None)
roster_free added roster number = if_found (λ (row : WagonRow). row.promise ≡ None) (wagon_in added number) (λ row found.
    (all_found IsRosterRow (is_wagon number) added row roster.each found).not_promised)

-- the promises of an office whose fleet is changed agree
pub fleet_agrees : (office : Office) (added : List WagonRow) (leaving : List (List ℕ)) (changed : List WagonRow) → IsRoster added → fleet_fault office.wagons added leaving ≡ None
    → IsFleetAfter office.wagons added leaving changed → PromisesAgree office → PromisesAgree (record office { wagons = changed })
fleet_agrees office added leaving changed roster no_fault fleet agree = record {
  agree = λ number id.
      let stays = promise_stays (is_among number leaving) (wagon_in added number) (wagon_in office.wagons number) (roster_free added roster number) (added_free office.wagons added leaving no_fault number) (leaver_free office.wagons added leaving no_fault number) in
      ap (λ (p : Option (List ℕ)). is_promise_to p id) (ap promise_of (fleet.each number) ∙ stays) ∙ agree.agree number id;
  names = agree.names;
  orders = agree.orders;
}

-- ---- the rows of a changed fleet are as those before and those added

either : {X : Type 0} (P : X → Type 0) (gone : Bool) (new old : Option X) → IfSome new P → IfSome old P → IfSome (cond gone None (option_or new old)) P
either P true new old h g = tt
either P false None old h g = g
either P false (Some x) old h g = h

each_in : (P : WagonRow → Type 0) (rows added : List WagonRow) (leaving : List (List ℕ)) (changed : List WagonRow) → All P rows → All P added → IsFleetAfter rows added leaving changed → All P changed
each_in P rows added leaving changed h g fleet k d below =
    let row = get_or changed k d in
    let found : wagon_in changed row.number ≡ Some row = wagon_in-there changed k row fleet.ascending (slice_get-get_or changed k d below) in
    let has = either P (is_among row.number leaving) (wagon_in added row.number) (wagon_in rows row.number) (found_is P row.number added g) (found_is P row.number rows h) in
    at_found P _ row has (sym (fleet.each row.number) ∙ found)

-- the rows of a changed fleet
pub fleet_valid : (rows added : List WagonRow) (leaving : List (List ℕ)) (changed : List WagonRow) → IsWagonRows rows → IsWagonRows added → IsFleetAfter rows added leaving changed → length changed ≤ max_roster_wagons
    → IsWagonRows changed
fleet_valid rows added leaving changed h g fleet few = record {
  few = few;
  ascending = fleet.ascending;
  few_kg = each_in (λ (row : WagonRow). row.load_limit ≤ max_load) rows added leaving changed h.few_kg g.few_kg fleet;
  possible = each_in IsPossibleRow rows added leaving changed h.possible g.possible fleet;
}

-- ---- rows as a map gives them

-- each row that is put is given
module _ (rows : List WagonRow) (k : ℕ) (row : WagonRow) (h : IsStrictlySortedBy by_number rows) (below : k < length rows) (is : row ≡ get_or rows k row) where
  there : slice_get rows k ≡ Some row
  there = slice_get-get_or rows k row below ∙ ap Some (sym is)

  -- the rows so far give the same row as all rows
  so_far : (number : List ℕ) (found : Option WagonRow) → wagon_in (take k rows) number ≡ found → is_wagon number row ≡ true → option_or found (Some row) ≡ Some row
  so_far number None e here = refl
  so_far number (Some other) e here =
      let named : number ≡ row.number = same_is number row.number here in
      let all : wagon_in rows number ≡ Some row = ap (wagon_in rows) named ∙ wagon_in-there rows k row h there in
      let first : wagon_in rows number ≡ Some other = ap (λ rs. wagon_in rs number) (sym (take-append-drop k rows)) ∙ find-append (is_wagon number) (take k rows) (drop k rows) ∙ ap (λ o. option_or o (wagon_in (drop k rows) number)) e in
      sym first ∙ all

  put_step : (here : Bool) (found old : Option WagonRow) → (here ≡ true → option_or found (Some row) ≡ Some row) → cond here (Some row) (option_or found old) ≡ option_or (option_or found (cond here (Some row) None)) old
  put_step true found old h = sym (ap (λ o. option_or o old) (h refl))
  put_step false None old h = refl
  put_step false (Some other) old h = refl

  pub put_more : (start before after : RowOf) → ArePut (take k rows) start before → ((number : List ℕ) → after number ≡ cond (is_at (compare_numbers row.number) number) (Some row) (before number)) → ArePut (take (k + 1) rows) start after
  put_more start before after so updates number =
      let here : is_at (compare_numbers row.number) number ≡ is_wagon number row = sym (texts_ties row.number number) ∙ same_sym row.number number in
      let more : wagon_in (take (k + 1) rows) number ≡ option_or (wagon_in (take k rows) number) (cond (is_wagon number row) (Some row) None) =
      ap (λ rs. wagon_in rs number) (take_more rows k row below ∙ ap (λ y. take k rows ++ y ∷ []) (sym is)) ∙ find-append (is_wagon number) (take k rows) (row ∷ []) in
      updates number ∙ (ap (λ b. cond b (Some row) (before number)) here ∙ (ap (λ o. cond (is_wagon number row) (Some row) o) (so number)
      ∙ (put_step (is_wagon number row) (wagon_in (take k rows) number) (start number) (so_far number (wagon_in (take k rows) number) refl) ∙ sym (ap (λ o. option_or o (start number)) more))))

gone_more : {X : Type 0} (here before : Bool) (o : Option X) → cond here None (cond before None o) ≡ cond (before || here) None o
gone_more true true o = refl
gone_more true false o = refl
gone_more false true o = refl
gone_more false false o = refl

-- each wagon that leaves is given no longer
pub left_more : (leaving : List (List ℕ)) (k : ℕ) (gone : List ℕ) (start before after : RowOf) → k < length leaving → gone ≡ get_or leaving k gone → ((number : List ℕ) → before number ≡ row_without start (take k leaving) number)
    → ((number : List ℕ) → after number ≡ cond (is_at (compare_numbers gone) number) None (before number)) → (number : List ℕ) → after number ≡ row_without start (take (k + 1) leaving) number
left_more leaving k gone start before after below is so updates number =
    let here : is_at (compare_numbers gone) number ≡ same number gone = sym (texts_ties gone number) ∙ same_sym gone number in
    let more : is_among number (take (k + 1) leaving) ≡ (is_among number (take k leaving) || same number gone) = list_any_more (same number) leaving k gone below ∙ ap (λ n. is_among number (take k leaving) || same number n) (sym is) in
    updates number ∙ (ap (λ b. cond b None (before number)) here ∙ (ap (λ o. cond (same number gone) None o) (so number)
    ∙ (gone_more (same number gone) (is_among number (take k leaving)) (start number) ∙ sym (ap (λ b. cond b None (start number)) more))))

own_without : (row_of : RowOf) (leaving : List (List ℕ)) → AreOwnRows row_of → AreOwnRows (row_without row_of leaving)
own_without row_of leaving h number = by_test (is_among number leaving) (row_of number) (h number)
  where
    by_test : (gone : Bool) (o : Option WagonRow) → IfSome o (λ row. row.number ≡ number) → IfSome (cond gone None o) (λ row. row.number ≡ number)
    by_test true o h = tt
    by_test false o h = h

-- the rows that an office with added rows gives are those of their wagons
pub own_rows : (rows added : List WagonRow) → AreOwnRows (row_with rows added)
own_rows rows added number = either (λ (row : WagonRow). row.number ≡ number) false (wagon_in added number) (wagon_in rows number)
    (if_found (λ (row : WagonRow). row.number ≡ number) (wagon_in added number) (number-wagon_in added number))
    (if_found (λ (row : WagonRow). row.number ≡ number) (wagon_in rows number) (number-wagon_in rows number))

-- ---- the rows of a map, in its order

abbrev Entry : Type 0
Entry = List ℕ × WagonRow

abbrev IsOwn : Entry → Type 0
IsOwn entry = entry.1.number ≡ entry.0

looked_up : (number : List ℕ) (entries : List Entry) → All IsOwn entries → wagon_in (values_of entries) number ≡ lookup (is_at (compare_numbers number)) entries
looked_up number [] own = refl
looked_up number (entry ∷ entries) own =
    let test : is_wagon number entry.1 ≡ is_at (compare_numbers number) entry.0 = ap (same number) (own 0 entry (omega arith)) ∙ texts_ties number entry.0 in
    ap (λ b. cond b (Some entry.1) (wagon_in (values_of entries) number)) test
    ∙ ap (λ o. cond (is_at (compare_numbers number) entry.0) (Some entry.1) o) (looked_up number entries (All-tail IsOwn entry entries own))

above : (number : List ℕ) (entries : List Entry) → All IsOwn entries → AllByRecursion (λ other. compare_numbers number other ≡ Less) (keys_of entries) → AllByRecursion (λ (row : WagonRow). compare_numbers number row.number ≡ Less) (values_of entries)
above number [] own all = tt
above number (entry ∷ entries) own all =
    (ap (compare_numbers number) (own 0 entry (omega arith)) ∙ all.0, above number entries (All-tail IsOwn entry entries own) all.1)

ascend : (entries : List Entry) → All IsOwn entries → IsStrictlySortedBy compare_numbers (keys_of entries) → IsStrictlySortedBy by_number (values_of entries)
unfolding IsStrictlySortedBy
ascend [] own h = tt
ascend (entry ∷ entries) own h =
    let tail = All-tail IsOwn entry entries own in
    (above entry.1.number entries tail (subst (λ (n : List ℕ). AllByRecursion (λ other. compare_numbers n other ≡ Less) (keys_of entries)) (sym (own 0 entry (omega arith))) h.0), ascend entries tail h.1)

-- the rows of a map by number are ascending rows, and it gives each of them
pub map_rows : (fleet : BTreeMap (List ℕ) WagonRow) → IsOrdered compare_numbers fleet → AreOwnRows (get compare_numbers fleet) → AreRowsOf (get compare_numbers fleet) (values fleet)
map_rows fleet ordered h =
    let own : All IsOwn fleet.entries = λ k d below.
    let entry = get_or fleet.entries k d in
    at_found (λ (row : WagonRow). row.number ≡ entry.0) (get compare_numbers fleet entry.0) entry.1 (h entry.0) (All-found nat_list_cmp_total fleet ordered k d below) in
    record { ascending = ascend fleet.entries own ordered; each = λ number. looked_up number fleet.entries own }

-- rows of one map and of one that gives the same
pub same_rows : (row_of other : RowOf) (rows : List WagonRow) → ((number : List ℕ) → row_of number ≡ other number) → AreRowsOf row_of rows → AreRowsOf other rows
same_rows row_of other rows same h = record { ascending = h.ascending; each = λ number. h.each number ∙ same number }

-- ---- what refuses a wagon to leave is asked of the map

pub fault_by : (row_of other : RowOf) (leaving : List (List ℕ)) → ((number : List ℕ) → row_of number ≡ other number) → leaving_fault row_of leaving ≡ leaving_fault other leaving
fault_by row_of other [] same = refl
fault_by row_of other (number ∷ leaving) same = rw (same number) (by_test (not (may_leave (other number))) (fault_by row_of other leaving same))
  where
    by_test : (b : Bool) → leaving_fault row_of leaving ≡ leaving_fault other leaving → option_map (λ n. fault_of_leaver n (row_of n)) (cond b (Some number) (find (λ n. not (may_leave (row_of n))) leaving)) ≡ option_map (λ n. fault_of_leaver n (other n)) (cond b (Some number) (find (λ n. not (may_leave (other n))) leaving))
    by_test true rest = ap (λ o. Some (fault_of_leaver number o)) (same number)
    by_test false rest = rest

-- ---- the whole change

-- what is left of a map once the wagons have left
pub left_rows : (fleet : BTreeMap (List ℕ) WagonRow) (start : RowOf) (leaving : List (List ℕ)) (k : ℕ) → length leaving ≤ k → IsOrdered compare_numbers fleet → AreOwnRows start
    → ((number : List ℕ) → get compare_numbers fleet number ≡ row_without start (take k leaving) number) → AreRowsOf (row_without start leaving) (values fleet)
left_rows fleet start leaving k done ordered own so =
    let same : (number : List ℕ) → get compare_numbers fleet number ≡ row_without start leaving number = λ number. so number ∙ ap (λ gone. row_without start gone number) (take_all k leaving done) in
    let owned : AreOwnRows (get compare_numbers fleet) = λ number. subst (λ (o : Option WagonRow). IfSome o (λ row. row.number ≡ number)) (sym (same number)) (own_without start leaving own number) in
    same_rows (get compare_numbers fleet) (row_without start leaving) (values fleet) same (map_rows fleet ordered owned)

pub own_by : (row_of : RowOf) (rows added : List WagonRow) → ((number : List ℕ) → row_of number ≡ row_with rows added number) → AreOwnRows row_of
own_by row_of rows added same number = subst (λ (o : Option WagonRow). IfSome o (λ row. row.number ≡ number)) (sym (same number)) (own_rows rows added number)

pub none_by : {X : Type 0} (o : Option X) → ((x : X) → o ≡ Some x → ⊥) → o ≡ None
none_by None h = refl
none_by (Some x) h = absurd (h x refl)

pub record IsChanged (rows added : List WagonRow) (leaving : List (List ℕ)) (changed : List WagonRow) : Type 0 where
  pub no_fault : fleet_fault rows added leaving ≡ None
  pub fleet : IsFleetAfter rows added leaving changed

none_first : {X : Type 0} (o p q : Option X) → o ≡ None → p ≡ q → option_or o p ≡ q
none_first None p q h e = e
none_first (Some x) p q h e = cc h

pub changed_by : (rows added : List WagonRow) (leaving : List (List ℕ)) (row_of : RowOf) (changed : List WagonRow) → adding_fault rows added ≡ None → ((number : List ℕ) → row_of number ≡ row_with rows added number) → leaving_fault row_of leaving ≡ None
    → AreRowsOf (row_without row_of leaving) changed → IsChanged rows added leaving changed
changed_by rows added leaving row_of changed none same stays fleet = record {
  no_fault = none_first (adding_fault rows added) (leaving_fault (row_with rows added) leaving) None none (sym (fault_by row_of (row_with rows added) leaving same) ∙ stays);
  fleet = same_rows (row_without row_of leaving) (row_without (row_with rows added) leaving) changed (λ number. ap (λ o. cond (is_among number leaving) None o) (same number)) fleet;
}

leaver_refused : (rows added : List WagonRow) (leaving : List (List ℕ)) (number : List ℕ) (row : Option WagonRow) → fleet_fault rows added leaving ≡ Some (fault_of_leaver number row) → IsFleetRefusal rows added leaving (fault_of_leaver number row)
leaver_refused rows added leaving number None h = h
leaver_refused rows added leaving number (Some row) h = h

refused_at : (rows added : List WagonRow) (leaving : List (List ℕ)) (row_of : RowOf) (found : Option (List ℕ)) (fault : FleetFault) → option_map (λ number. fault_of_leaver number (row_of number)) found ≡ Some fault → fleet_fault rows added leaving ≡ Some fault
    → IsFleetRefusal rows added leaving fault
refused_at rows added leaving row_of None fault h e = cc h
refused_at rows added leaving row_of (Some number) fault h e =
    let same : fault_of_leaver number (row_of number) ≡ fault = cc h in
    subst (IsFleetRefusal rows added leaving) same (leaver_refused rows added leaving number (row_of number) (e ∙ ap Some (sym same)))

-- a wagon that may not leave refuses the change
pub leaving_refused : (rows added : List WagonRow) (leaving : List (List ℕ)) (row_of : RowOf) (fault : FleetFault) → adding_fault rows added ≡ None → ((number : List ℕ) → row_of number ≡ row_with rows added number) → leaving_fault row_of leaving ≡ Some fault
    → IsFleetRefusal rows added leaving fault
leaving_refused rows added leaving row_of fault none same h =
    let first = none_first (adding_fault rows added) (leaving_fault (row_with rows added) leaving) (Some fault) none (sym (fault_by row_of (row_with rows added) leaving same) ∙ h) in
    refused_at rows added leaving row_of _ fault h first

-- ---- ascending rows are told by what is found in them

none_above : (number : List ℕ) (rows : List WagonRow) → AllByRecursion (λ (row : WagonRow). compare_numbers number row.number ≡ Less) rows → wagon_in rows number ≡ None
none_above number [] all = refl
none_above number (row ∷ rows) all =
    let other : is_wagon number row ≡ false = texts_ties number row.number ∙ ap is_eq all.0 in
    rw other (none_above number rows all.1)

above_too : (low number : List ℕ) (rows : List WagonRow) → compare_numbers low number ≡ Less → AllByRecursion (λ (row : WagonRow). compare_numbers number row.number ≡ Less) rows → AllByRecursion (λ (row : WagonRow). compare_numbers low row.number ≡ Less) rows
above_too low number [] less all = tt
above_too low number (row ∷ rows) less all = (nat_list_cmp_total.trans low number row.number less all.0, above_too low number rows less all.1)

at_head : (row : WagonRow) (rows : List WagonRow) → wagon_in (row ∷ rows) row.number ≡ Some row
at_head row rows = rw (same_self row.number) refl

none_before : (number : List ℕ) (row : WagonRow) (rows : List WagonRow) → compare_numbers number row.number ≡ Less → IsStrictlySortedBy by_number (row ∷ rows) → wagon_in (row ∷ rows) number ≡ None
unfolding IsStrictlySortedBy
none_before number row rows less h = none_above number (row ∷ rows) (less, above_too number row.number rows less h.0)

same_head : (x y : WagonRow) (xs ys : List WagonRow) (r : Ordering) → compare_numbers x.number y.number ≡ r → IsStrictlySortedBy by_number (x ∷ xs) → IsStrictlySortedBy by_number (y ∷ ys)
    → ((number : List ℕ) → wagon_in (x ∷ xs) number ≡ wagon_in (y ∷ ys) number) → x ≡ y
same_head x y xs ys Less e up vp alike =
    let both : Some x ≡ None = sym (at_head x xs) ∙ alike x.number ∙ none_before x.number y ys e vp in
    cc both
same_head x y xs ys Equal e up vp alike =
    let named : x.number ≡ y.number = exact_bytes x.number y.number e in
    let both : Some x ≡ Some y = sym (at_head x xs) ∙ alike x.number ∙ ap (wagon_in (y ∷ ys)) named ∙ at_head y ys in
    cc both
same_head x y xs ys Greater e up vp alike =
    let less : compare_numbers y.number x.number ≡ Less = nat_list_cmp_total.antisymm y.number x.number ∙ ap ordering_reverse e in
    let both : Some y ≡ None = sym (at_head y ys) ∙ sym (alike y.number) ∙ none_before y.number x xs less up in
    cc both

same_tails : (x : WagonRow) (xs ys : List WagonRow) → IsStrictlySortedBy by_number (x ∷ xs) → IsStrictlySortedBy by_number (x ∷ ys) → ((number : List ℕ) → wagon_in (x ∷ xs) number ≡ wagon_in (x ∷ ys) number)
    → (number : List ℕ) → wagon_in xs number ≡ wagon_in ys number
same_tails x xs ys up vp alike number = elim (cases_Bool (is_wagon number x)) [
  | inl here ↦
      let named : x.number ≡ number = sym (same_is number x.number here) in
      subst (λ n. wagon_in xs n ≡ wagon_in ys n) named (none_above x.number xs (sorted_head by_number x xs up) ∙ sym (none_above x.number ys (sorted_head by_number x ys vp)))
  | inr other ↦
      let both = alike number in
      rw other at both
]

pub same_by_lookups : (xs ys : List WagonRow) → IsStrictlySortedBy by_number xs → IsStrictlySortedBy by_number ys → ((number : List ℕ) → wagon_in xs number ≡ wagon_in ys number) → xs ≡ ys
same_by_lookups [] [] up vp alike = refl
same_by_lookups [] (y ∷ ys) up vp alike =
    let both : None ≡ Some y = alike y.number ∙ at_head y ys in
    cc both
same_by_lookups (x ∷ xs) [] up vp alike =
    let both : Some x ≡ None = sym (at_head x xs) ∙ alike x.number in
    cc both
same_by_lookups (x ∷ xs) (y ∷ ys) up vp alike =
    let head : x ≡ y = same_head x y xs ys (compare_numbers x.number y.number) refl up vp alike in
    let vp' : IsStrictlySortedBy by_number (x ∷ ys) = subst (λ z. IsStrictlySortedBy by_number (z ∷ ys)) (sym head) vp in
    let alike' : (number : List ℕ) → wagon_in (x ∷ xs) number ≡ wagon_in (x ∷ ys) number = λ number. subst (λ z. wagon_in (x ∷ xs) number ≡ wagon_in (z ∷ ys) number) (sym head) (alike number) in
    let rest : xs ≡ ys = same_by_lookups xs ys (sorted_tail by_number x xs up) (sorted_tail by_number y ys vp) (same_tails x xs ys up vp' alike') in
    cc (head, rest)
