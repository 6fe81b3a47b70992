-- Rows of orders without the closed ones: what is found, counted and changed there.
use Rattle.std.proofs.Common.{◌≡◌, ◌∙◌, ℕ, ◌+◌, ◌-◌, ◌≤◌, Bool, true, false, cond, not, ◌&&◌, List, [], ◌∷◌, ◌++◌, length, map, refl, ap, sym, subst, inl, inr, arith, length-append}
use Rattle.std.specs.Prelude.{nat_lt, Option, Some, None, IfSome, All}
use Rattle.std.specs.List.{AllByRecursion, IsDistinct, cons_option, filter, filter_map, find, sum_by}
use Rattle.std.proofs.lemmas.Bool.{cases_Bool, le-ltb, ltb-false}
use Rattle.std.proofs.lemmas.List.Elements.{All-head, All-tail}
use Rattle.std.proofs.lemmas.List.Sums.{sum_by-cons}
use Rattle.std.proofs.lemmas.Map.Entries.{option_filter}
use Rattle.std.proofs.lemmas.Map.Keys.{IsDistinct-cons, IsDistinct-head, IsDistinct-tail}
use Rattle.wagons_and_orders.specs.Lack.{is_open, lack_of}
use Rattle.wagons_and_orders.specs.OrderRow.{IsOrderRow, OrderRowValue}
use Rattle.wagons_and_orders.specs.Wanted.{WantedOrder}
use Rattle.fleet_rows.specs.Rows.{at_order, filled_by, names_of, open_wagons, order_in, wanted_open}
use Rattle.operating_db.specs.Commits.{lack_in}
use Rattle.operating_db.specs.Problem.{wanted_in, waiting_orders}
use Rattle.operating_db.specs.Promises.{KeepsPromises, is_among, promised_of}
use Rattle.operating_db.proofs.Names.{same, same_is}

-- ---- lists without what fails a test

filter_again : {X : Type 0} (p : X → Bool) (xs : List X) → filter p (filter p xs) ≡ filter p xs
filter_again p [] = refl
filter_again p (x ∷ xs) =
    let later = filter_again p xs in
    elim (cases_Bool (p x)) [
      | inl passes ↦ rw (passes, passes) (ap (λ ys. x ∷ ys) later)
      | inr fails ↦ rw fails later
    ]

-- a change of all, where what fails goes on to fail
filter_changed : {X : Type 0} (p : X → Bool) (f : X → X) → ((x : X) → p x ≡ false → p (f x) ≡ false) → (xs : List X) → filter p (map f (filter p xs)) ≡ filter p (map f xs)
filter_changed p f stays [] = refl
filter_changed p f stays (x ∷ xs) =
    let later = filter_changed p f stays xs in
    elim (cases_Bool (p x)) [
      | inl passes ↦ rw passes (ap (λ ys. cond (p (f x)) (f x ∷ ys) ys) later)
      | inr fails ↦ rw fails (rw (stays x fails) later)
    ]

sum_by_filter : {X : Type 0} (f : X → ℕ) (p : X → Bool) → ((x : X) → p x ≡ false → f x ≡ 0) → (xs : List X) → sum_by f (filter p xs) ≡ sum_by f xs
sum_by_filter f p none [] = refl
sum_by_filter f p none (x ∷ xs) =
    let later = sum_by_filter f p none xs in
    let all : sum_by f (x ∷ xs) ≡ f x + sum_by f xs = sum_by-cons f x xs in
    elim (cases_Bool (p x)) [
      | inl passes ↦ rw passes (sum_by-cons f x (filter p xs) ∙ (ap (λ n. f x + n) later ∙ sym all))
      | inr fails ↦
          let nothing : f x ≡ 0 = none x fails in
          let none_more : sum_by f xs ≡ f x + sum_by f xs = omega (arith, nothing) in
          rw fails (later ∙ (none_more ∙ sym all))
    ]

filter_map_filter : {X Y : Type 0} (pick : X → Option Y) (p : X → Bool) → ((x : X) → p x ≡ false → pick x ≡ None) → (xs : List X) → filter_map pick (filter p xs) ≡ filter_map pick xs
filter_map_filter pick p none [] = refl
filter_map_filter pick p none (x ∷ xs) =
    let later = filter_map_filter pick p none xs in
    elim (cases_Bool (p x)) [
      | inl passes ↦ rw passes (ap (cons_option (pick x)) later)
      | inr fails ↦ rw fails (rw (none x fails) later)
    ]

-- ---- names

names_filter : {X : Type 0} (P : List ℕ → Type 0) (name : X → List ℕ) (p : X → Bool) (xs : List X) → AllByRecursion P (map name xs) → AllByRecursion P (map name (filter p xs))
names_filter P name p [] all = tt
names_filter P name p (x ∷ xs) all =
    let later = names_filter P name p xs all.1 in
    elim (cases_Bool (p x)) [
      | inl passes ↦ rw passes (all.0, later)
      | inr fails ↦ rw fails later
    ]

distinct_filter : {X : Type 0} (name : X → List ℕ) (p : X → Bool) (xs : List X) → IsDistinct same (map name xs) → IsDistinct same (map name (filter p xs))
distinct_filter name p [] h = h
distinct_filter name p (x ∷ xs) h =
    let later = distinct_filter name p xs (IsDistinct-tail same (name x) (map name xs) h) in
    let others = names_filter (λ n. same (name x) n ≡ false) name p xs (IsDistinct-head same (name x) (map name xs) h) in
    elim (cases_Bool (p x)) [
      | inl passes ↦ rw passes (IsDistinct-cons same (name x) (map name (filter p xs)) others later)
      | inr fails ↦ rw fails later
    ]

none_named : {X : Type 0} (name : X → List ℕ) (q : List ℕ) (xs : List X) → AllByRecursion (λ n. same q n ≡ false) (map name xs) → find (λ x. same q (name x)) xs ≡ None
none_named name q [] all = refl
none_named name q (x ∷ xs) all = rw all.0 (none_named name q xs all.1)

-- where no two have one name, what is found among all is found, if it passes
find_filter : {X : Type 0} (name : X → List ℕ) (p : X → Bool) (q : List ℕ) (xs : List X) → IsDistinct same (map name xs)
    → find (λ x. same q (name x)) (filter p xs) ≡ option_filter p (find (λ x. same q (name x)) xs)
find_filter name p q [] h = refl
find_filter name p q (x ∷ xs) h =
    let later = find_filter name p q xs (IsDistinct-tail same (name x) (map name xs) h) in
    elim (cases_Bool (same q (name x))) [
      | inl here ↦
          let apart = IsDistinct-head same (name x) (map name xs) h in
          let others : AllByRecursion (λ n. same q n ≡ false) (map name xs) = subst (λ (m : List ℕ). AllByRecursion (λ n. same m n ≡ false) (map name xs)) (sym (same_is q (name x) here)) apart in
          let none : find (λ y. same q (name y)) (filter p xs) ≡ None = later ∙ ap (option_filter p) (none_named name q xs others) in
          elim (cases_Bool (p x)) [
            | inl passes ↦ rw (passes, here, passes) refl
            | inr fails ↦ rw (fails, here, fails) none
          ]
      | inr other ↦ elim (cases_Bool (p x)) [
        | inl passes ↦ rw (passes, other) later
        | inr fails ↦ rw (fails, other) later
      ]
    ]

found_holds : {X : Type 0} (P : X → Type 0) (q : X → Bool) (xs : List X) → All P xs → IfSome (find q xs) P
found_holds P q [] all = tt
found_holds P q (x ∷ xs) all =
    let later = found_holds P q xs (All-tail P x xs all) in
    let first = All-head P x xs all in
    elim (cases_Bool (q x)) [
      | inl here ↦ rw here first
      | inr other ↦ rw other later
    ]

-- ---- closed orders

lacks_none : (w : Bool) (wagons promised filled : ℕ) → (not w && nat_lt filled wagons) ≡ false → cond w 0 (wagons - (promised + filled)) ≡ 0
lacks_none true wagons promised filled h = refl
lacks_none false wagons promised filled h = let full : wagons ≤ filled = ltb-false filled wagons h in omega (arith, full)

pub closed_lacks : (row : OrderRowValue) → is_open row ≡ false → lack_of row ≡ 0
closed_lacks row h = lacks_none row.withdrawn row.text.wagons (length row.promised) (length row.filled) h

closed_wants : (row : OrderRowValue) → is_open row ≡ false → wanted_open row ≡ 0
closed_wants row h = ap (λ (b : Bool). cond b row.text.wagons 0) h

abbrev wanted_by : OrderRowValue → (lack : ℕ) → Option WantedOrder
wanted_by row lack = cond (nat_lt 0 lack) (Some (record { order = row.text; lack = lack })) None

closed_waits : (row : OrderRowValue) → is_open row ≡ false → wanted_in row ≡ None
closed_waits row h = ap (wanted_by row) (closed_lacks row h)

none_in : (xs : List (List ℕ)) → length xs ≤ 0 → xs ≡ []
none_in [] h = refl
none_in (x ∷ xs) h = absurd (omega (arith, h))

unpromised_by : (w : Bool) (promised filled : List (List ℕ)) (wagons : ℕ) → (w ≡ true → promised ≡ []) → length promised + length filled ≤ wagons → (not w && nat_lt (length filled) wagons) ≡ false → promised ≡ []
unpromised_by true promised filled wagons taken few h = taken refl
unpromised_by false promised filled wagons taken few h =
    let full : wagons ≤ length filled = ltb-false (length filled) wagons h in
    none_in promised (omega (arith, full, few))

-- no wagon is promised to it
pub closed_unpromised : (row : OrderRowValue) → IsOrderRow row → is_open row ≡ false → row.promised ≡ []
closed_unpromised row valid h = unpromised_by row.withdrawn row.promised row.filled row.text.wagons valid.withdrawn valid.no_more h

fills_closed : (w : Bool) (n m wagons : ℕ) → n ≤ m → (not w && nat_lt n wagons) ≡ false → (not w && nat_lt m wagons) ≡ false
fills_closed true n m wagons more h = refl
fills_closed false n m wagons more h = let full : wagons ≤ n = ltb-false n wagons h in le-ltb m wagons (omega (arith, full, more))

pub closed_filled : (number : List ℕ) (row : OrderRowValue) → is_open row ≡ false → is_open (filled_by number row) ≡ false
closed_filled number row h =
    let more : length (row.filled ++ number ∷ []) ≡ length row.filled + 1 = length-append row.filled (number ∷ []) in
    fills_closed row.withdrawn (length row.filled) (length (row.filled ++ number ∷ [])) row.text.wagons (omega (arith, more)) h

-- a change after which a closed order is closed
abbrev pub KeepsClosed : (OrderRowValue → OrderRowValue) → Type 0
KeepsClosed f = (row : OrderRowValue) → is_open row ≡ false → is_open (f row) ≡ false

closed_at : (b : Bool) (f : OrderRowValue → OrderRowValue) (row : OrderRowValue) → KeepsClosed f → is_open row ≡ false → is_open (cond b (f row) row) ≡ false
closed_at true f row keeps h = keeps row h
closed_at false f row keeps h = h

-- ---- rows without closed orders

pub open_again : (rows : List OrderRowValue) → filter is_open (filter is_open rows) ≡ filter is_open rows
open_again rows = filter_again is_open rows

pub names_open : (rows : List OrderRowValue) → IsDistinct same (names_of rows) → IsDistinct same (names_of (filter is_open rows))
names_open rows h = distinct_filter (λ (row : OrderRowValue). row.text.id) is_open rows h

pub wanted_of_open : (rows : List OrderRowValue) → open_wagons (filter is_open rows) ≡ open_wagons rows
wanted_of_open rows = sum_by_filter wanted_open is_open closed_wants rows

pub waiting_open : (rows : List OrderRowValue) → waiting_orders (filter is_open rows) ≡ waiting_orders rows
waiting_open rows = filter_map_filter wanted_in is_open closed_waits rows

-- the order of a name, where it is open
pub order_in_open : (rows : List OrderRowValue) (id : List ℕ) → IsDistinct same (names_of rows) → order_in (filter is_open rows) id ≡ option_filter is_open (order_in rows id)
order_in_open rows id h = find_filter (λ (row : OrderRowValue). row.text.id) is_open id rows h

lacks_by : (b : Bool) (row : OrderRowValue) → is_open row ≡ b → lack_in (cond b (Some row) None) ≡ lack_of row
lacks_by true row h = refl
lacks_by false row h = sym (closed_lacks row h)

pub lacks_where_open : (o : Option OrderRowValue) → lack_in (option_filter is_open o) ≡ lack_in o
lacks_where_open None = refl
lacks_where_open (Some row) = lacks_by (is_open row) row refl

promised_by : (b : Bool) (row : OrderRowValue) → is_open row ≡ b → IsOrderRow row → promised_of (cond b (Some row) None) ≡ row.promised
promised_by true row h valid = refl
promised_by false row h valid = sym (closed_unpromised row valid h)

pub promised_where_open : (o : Option OrderRowValue) → IfSome o KeepsPromises → promised_of (option_filter is_open o) ≡ promised_of o
promised_where_open None keeps = refl
promised_where_open (Some row) keeps = promised_by (is_open row) row refl keeps.valid

-- an order that is found keeps its promises
pub found_keeps : (rows : List OrderRowValue) (id : List ℕ) → All KeepsPromises rows → IfSome (order_in rows id) KeepsPromises
found_keeps rows id all = found_holds KeepsPromises (λ (row : OrderRowValue). same id row.text.id) rows all

-- an order that has a promised wagon is open
open_by : (n : List ℕ) (b : Bool) (row : OrderRowValue) → is_open row ≡ b → IsOrderRow row → is_among n row.promised ≡ true → b ≡ true
open_by n true row h valid among = refl
open_by n false row h valid among =
    let none : is_among n row.promised ≡ false = ap (is_among n) (closed_unpromised row valid h) in
    cc

pub open_where_promised : (n : List ℕ) (o : Option OrderRowValue) → IfSome o KeepsPromises → is_among n (promised_of o) ≡ true → IfSome o (λ row. is_open row ≡ true)
open_where_promised n None keeps among = tt
open_where_promised n (Some row) keeps among = open_by n (is_open row) row refl keeps.valid among

-- a search that meets no closed order
all_by : (b : Bool) (row : OrderRowValue) → b ≡ true → cond b (Some row) None ≡ Some row
all_by true row h = refl
all_by false row h = cc h

pub all_where_open : (o : Option OrderRowValue) → IfSome o (λ row. is_open row ≡ true) → option_filter is_open o ≡ o
all_where_open None h = refl
all_where_open (Some row) h = all_by (is_open row) row h

-- a change at one order
pub open_at : (id : List ℕ) (f : OrderRowValue → OrderRowValue) → KeepsClosed f → (rows : List OrderRowValue) → filter is_open (at_order id f (filter is_open rows)) ≡ filter is_open (at_order id f rows)
open_at id f keeps rows =
    filter_changed is_open (λ (row : OrderRowValue). cond (same id row.text.id) (f row) row) (λ row h. closed_at (same id row.text.id) f row keeps h) rows
