-- What a watch knows of rows, where these change.
use Rattle.std.proofs.Common.{◌≡◌, ◌∙◌, ◌≤◌, ◌<◌, ℕ, ◌+◌, Bool, true, false, cond, not, ◌&&◌, ◌||◌, max, List, [], ◌∷◌, ◌++◌, length, length-append, map, take, get_or, Option, Some, refl, ap, ap₂, sym, true≢false, arith}
use Rattle.std.specs.Prelude.{nat_le, nat_lt}
use Rattle.std.specs.List.{AllByRecursion, IsDistinct, list_all}
use Rattle.std.proofs.lemmas.Bool.Decides.{nat_tests}
use Rattle.std.proofs.lemmas.List.Folds.{list_all_more}
use Rattle.fleet_rows.specs.Rows.{at_order, at_wagon, filled_by, is_order, is_wagon, wagon_in}
use Rattle.fleet_rows.proofs.Named.{is_same}
use Rattle.fleet_rows.proofs.Wagons.{numbers_of}
use Rattle.move_messages.specs.Order.{Order}
use Rattle.operating_db.proofs.Names.{same_is}
use Rattle.wagons_and_orders.specs.Lack.{is_open}
use Rattle.wagons_and_orders.specs.OrderRow.{OrderRowValue}
use Rattle.wagons_and_orders.specs.declared.wagon_row.WagonRow.{WagonRow}
use Rattle.journal_notes.specs.OrderNotes.{is_past}
use Rattle.journal_notes.specs.Watches.{is_calm}

-- ---- tests

pub lt_max : (a b c : ℕ) → nat_lt a (max b c) ≡ (nat_lt a b || nat_lt a c)
lt_max a b c = grind (arith, nat_tests)

lt_through : (a b c : ℕ) → nat_lt c b ≡ false → nat_lt a b ≡ true → nat_lt a c ≡ true
lt_through a b c later less = grind (arith, nat_tests)

lt_more : (a b c : ℕ) → b ≤ c → nat_lt a b ≡ true → nat_lt a c ≡ true
lt_more a b c less is = grind (arith, nat_tests)

le_less : (a b c : ℕ) → b ≤ a → nat_le a c ≡ true → nat_le b c ≡ true
le_less a b c less is = grind (arith, nat_tests)

or_true : (b : Bool) → (b || true) ≡ true
or_true true = refl
or_true false = refl

or_nothing : (b : Bool) → (b || false) ≡ b
or_nothing true = refl
or_nothing false = refl

pub or_right : (a b : Bool) → b ≡ true → (a || b) ≡ true
or_right true b is = refl
or_right false b is = is

-- ---- wagons

pub past_mapped : (f : WagonRow → WagonRow) → ((row : WagonRow) → (f row).last ≡ row.last) → (rows : List WagonRow) (order : Order) → is_past (map f rows) order ≡ is_past rows order
past_mapped f keeps [] order = refl
past_mapped f keeps (row ∷ rows) order = ap₂ (λ (last : ℕ) (rest : Bool). nat_lt order.latest last || rest) (keeps row) (past_mapped f keeps rows order)

kept_last : (f : WagonRow → WagonRow) → ((row : WagonRow) → (f row).last ≡ row.last) → (here : Bool) (row : WagonRow) → (cond here (f row) row).last ≡ row.last
kept_last f keeps true row = keeps row
kept_last f keeps false row = refl

pub past_at_kept : (number : List ℕ) (f : WagonRow → WagonRow) → ((row : WagonRow) → (f row).last ≡ row.last) → (rows : List WagonRow) (order : Order) → is_past (at_wagon number f rows) order ≡ is_past rows order
past_at_kept number f keeps rows order = past_mapped (λ (row : WagonRow). cond (is_wagon number row) (f row) row) (λ (row : WagonRow). kept_last f keeps (is_wagon number row) row) rows order

-- ---- what is past by the row of one wagon

abbrev past_by : Order → WagonRow → Bool
past_by order row = nat_lt order.latest row.last

some_is : (w row : WagonRow) → let found : Option WagonRow = Some w in found ≡ Some row → w ≡ row
some_is w row h = cc

there : (here : Bool) (row w : WagonRow) (rest : Option WagonRow) (order : Order) (past : Bool) → cond here (Some w) rest ≡ Some row → past_by order row ≡ true → (rest ≡ Some row → past ≡ true)
    → (past_by order w || past) ≡ true
there true row w rest order past found less more = ap (λ (r : WagonRow). past_by order r || past) (some_is w row found) ∙ ap (λ (b : Bool). b || past) less
there false row w rest order past found less more = or_right (past_by order w) past (more found)

pub past_there : (number : List ℕ) (row : WagonRow) (rows : List WagonRow) (order : Order) → wagon_in rows number ≡ Some row → past_by order row ≡ true → is_past rows order ≡ true
past_there number row [] order found less = cc
past_there number row (w ∷ rows) order found less = there (is_wagon number w) row w (wagon_in rows number) order (is_past rows order) found less (λ later. past_there number row rows order later less)

none_there : (number : List ℕ) (new : WagonRow) (rows : List WagonRow) → AllByRecursion (λ other. is_same number other ≡ false) (numbers_of rows) → at_wagon number (λ _. new) rows ≡ rows
none_there number new [] all = refl
none_there number new (w ∷ rows) all = ap₂ (λ (x : WagonRow) (xs : List WagonRow). x ∷ xs) (ap (λ (b : Bool). cond b new w) all.0) (none_there number new rows all.1)

put_first : (p q after rest : Bool) → (p ≡ true → q ≡ true) → after ≡ rest → (q || after) ≡ ((p || rest) || q)
put_first true q after rest h is = rw (h refl) refl
put_first false true after rest h is = sym (or_true rest)
put_first false false after rest h is = is ∙ sym (or_nothing rest)

put_later : (p q after rest : Bool) → after ≡ (rest || q) → (p || after) ≡ ((p || rest) || q)
put_later true q after rest is = refl
put_later false q after rest is = is

-- the first of the rows, whose wagon has another row then or not
put_at : (here : Bool) (row new w : WagonRow) (order : Order) (found rest : Option WagonRow) (past after : Bool) → cond here (Some w) rest ≡ Some row → nat_lt new.last row.last ≡ false
    → (here ≡ true → after ≡ past) → (rest ≡ Some row → after ≡ (past || past_by order new))
    → (past_by order (cond here new w) || after) ≡ ((past_by order w || past) || past_by order new)
put_at true row new w order found rest past after is later first more =
    put_first (past_by order w) (past_by order new) after past
    (λ less. lt_through order.latest row.last new.last later (sym (ap (past_by order) (some_is w row is)) ∙ less)) (first refl)
put_at false row new w order found rest past after is later first more = put_later (past_by order w) (past_by order new) after past (more is)

-- A row that comes in place of that of its wagon and is no earlier: what it puts into the past is past too.
pub past_at : (number : List ℕ) (row new : WagonRow) (rows : List WagonRow) (order : Order) → IsDistinct is_same (numbers_of rows) → wagon_in rows number ≡ Some row → nat_lt new.last row.last ≡ false
    → is_past (at_wagon number (λ _. new) rows) order ≡ (is_past rows order || past_by order new)
unfolding IsDistinct
past_at number row new [] order distinct found later = cc
past_at number row new (w ∷ rows) order distinct found later =
    put_at (is_wagon number w) row new w order (Some row) (wagon_in rows number) (is_past rows order) (is_past (at_wagon number (λ _. new) rows) order) found later
    (λ here. ap (λ (rs : List WagonRow). is_past rs order) (none_there number new rows (rw (← same_is number w.number here) at distinct.0)))
    (λ found_later. past_at number row new rows order distinct.1 found_later later)

-- ---- orders

calm_by : (o a b a' b' : Bool) → (a ≡ true → a' ≡ true) → (b ≡ true → b' ≡ true) → (not o || (a || b)) ≡ true → (not o || (a' || b')) ≡ true
calm_by false a b a' b' h g is = refl
calm_by true true b a' b' h g is = rw (h refl) refl
calm_by true false b a' b' h g is = or_right a' b' (g is)

-- a later newest moment, and a bound that is no higher
pub calm_less : (newest newest' bound bound' : ℕ) → newest ≤ newest' → bound' ≤ bound → (row : OrderRowValue) → is_calm newest bound row ≡ true → is_calm newest' bound' row ≡ true
calm_less newest newest' bound bound' more less row is =
    calm_by (is_open row) (nat_lt row.text.latest newest) (nat_le bound row.text.latest) (nat_lt row.text.latest newest') (nat_le bound' row.text.latest)
    (lt_more row.text.latest newest newest' more) (le_less bound bound' row.text.latest less) is

open_less : (w more less x : Bool) → (more ≡ true → less ≡ true) → (not (not w && less) || x) ≡ true → (not (not w && more) || x) ≡ true
open_less true more less x h is = refl
open_less false false less x h is = refl
open_less false true less x h is = rw (h refl) at is

shorter : (number : List ℕ) (filled : List (List ℕ)) (k : ℕ) → nat_lt (length (filled ++ number ∷ [])) k ≡ true → nat_lt (length filled) k ≡ true
shorter number filled k is = grind (arith, nat_tests, length-append {A = List ℕ})

-- an order that a wagon fills
pub calm_filled : (newest bound : ℕ) (number : List ℕ) (row : OrderRowValue) → is_calm newest bound row ≡ true → is_calm newest bound (filled_by number row) ≡ true
calm_filled newest bound number row is =
    open_less row.withdrawn (nat_lt (length (row.filled ++ number ∷ [])) row.text.wagons) (nat_lt (length row.filled) row.text.wagons) (nat_lt row.text.latest newest || nat_le bound row.text.latest)
    (shorter number row.filled row.text.wagons) is

both : (a b : Bool) → (a && b) ≡ true → (a ≡ true) × (b ≡ true)
both true b is = (refl, is)
both false b is = absurd (true≢false (sym is))

and_both : (a b : Bool) → a ≡ true → b ≡ true → (a && b) ≡ true
and_both true b h is = is
and_both false b h is = h

pub all_weaker : (p q : OrderRowValue → Bool) → ((row : OrderRowValue) → p row ≡ true → q row ≡ true) → (rows : List OrderRowValue) → list_all p rows ≡ true → list_all q rows ≡ true
all_weaker p q h [] is = refl
all_weaker p q h (row ∷ rows) is =
    let two = both (p row) (list_all p rows) is in
    and_both (q row) (list_all q rows) (h row two.0) (all_weaker p q h rows two.1)

pub all_mapped : (p : OrderRowValue → Bool) (f : OrderRowValue → OrderRowValue) → ((row : OrderRowValue) → p row ≡ true → p (f row) ≡ true) → (rows : List OrderRowValue) → list_all p rows ≡ true → list_all p (map f rows) ≡ true
all_mapped p f h [] is = refl
all_mapped p f h (row ∷ rows) is =
    let two = both (p row) (list_all p rows) is in
    and_both (p (f row)) (list_all p (map f rows)) (h row two.0) (all_mapped p f h rows two.1)

changed_or_not : (p : OrderRowValue → Bool) (f : OrderRowValue → OrderRowValue) → ((row : OrderRowValue) → p row ≡ true → p (f row) ≡ true) → (here : Bool) (row : OrderRowValue) → p row ≡ true → p (cond here (f row) row) ≡ true
changed_or_not p f h true row is = h row is
changed_or_not p f h false row is = is

pub all_at : (p : OrderRowValue → Bool) (id : List ℕ) (f : OrderRowValue → OrderRowValue) → ((row : OrderRowValue) → p row ≡ true → p (f row) ≡ true) → (rows : List OrderRowValue) → list_all p rows ≡ true → list_all p (at_order id f rows) ≡ true
all_at p id f h rows is = all_mapped p (λ (row : OrderRowValue). cond (is_order id row) (f row) row) (λ row here. changed_or_not p f h (is_order id row) row here) rows is

-- one row more, and a bound that goes no further than it
pub calm_more : (newest bound bound' : ℕ) (rows : List OrderRowValue) (i : ℕ) (row : OrderRowValue) → i < length rows → row ≡ get_or rows i row → bound' ≤ bound → list_all (is_calm newest bound) (take i rows) ≡ true
    → is_calm newest bound' row ≡ true → list_all (is_calm newest bound') (take (i + 1) rows) ≡ true
calm_more newest bound bound' rows i row within is less before here =
    let test = is_calm newest bound' in
    let same : newest ≤ newest = omega arith in
    list_all_more test rows i row within
    ∙ and_both (list_all test (take i rows)) (test (get_or rows i row)) (all_weaker (is_calm newest bound) test (calm_less newest newest bound bound' same less) (take i rows) before) (ap test (sym is) ∙ here)
