-- The row that stands under a name, after changes of the rows.
use Rattle.std.proofs.Common.{◌≡◌, ◌∙◌, ℕ, Bool, true, false, cond, List, [], ◌∷◌, ◌++◌, map, refl, ap, sym}
use Rattle.std.specs.Prelude.{Option, Some, None, option_map}
use Rattle.std.specs.List.{find}
use Rattle.wagons_and_orders.specs.declared.wagon_row.WagonRow.{WagonRow}
use Rattle.wagons_and_orders.specs.OrderRow.{OrderRowValue}
use Rattle.fleet_rows.specs.Rows.{wagon_in, order_in, at_wagon, at_order}
use Rattle.fleet_rows.proofs.Orders.{order_in-at_order}
use Rattle.fleet_rows.proofs.Wagons.{wagon_in-at_wagon}
use Rattle.operating_db.specs.Promises.{promise_of, promised_of}
use Rattle.operating_db.proofs.Names.{same, same_is, same_sym}

-- the row under a name, where each row has one
abbrev under : {R : Type 0} → (R → List ℕ) → List R → List ℕ → Option R
under key rows name = find (λ row. same name (key row)) rows

mapped : {R : Type 0} (f : R → R) (row : R) (found : Bool) (rest left : Option R) → left ≡ option_map f rest → cond found (Some (f row)) left ≡ option_map f (cond found (Some row) rest)
mapped f row true rest left e = refl
mapped f row false rest left e = e

-- where each row is changed and keeps its name
pub under-mapped : {R : Type 0} (key : R → List ℕ) (f : R → R) → ((row : R) → key (f row) ≡ key row) → (rows : List R) (q : List ℕ) → under key (map f rows) q ≡ option_map f (under key rows q)
under-mapped key f keeps [] q = refl
under-mapped key f keeps (row ∷ rows) q =
    ap (λ (k : List ℕ). cond (same q k) (Some (f row)) (under key (map f rows) q)) (keeps row) ∙ mapped f row (same q (key row)) (under key rows q) (under key (map f rows) q) (under-mapped key f keeps rows q)

-- ---- wagons and orders

pub wagon_in-at : (n : List ℕ) (f : WagonRow → WagonRow) → ((row : WagonRow) → row.number ≡ n → (f row).number ≡ row.number) → (rows : List WagonRow) (q : List ℕ)
    → wagon_in (at_wagon n f rows) q ≡ cond (same n q) (option_map f (wagon_in rows q)) (wagon_in rows q)
wagon_in-at n f keeps rows q =
    wagon_in-at_wagon n f (λ row e. keeps row e ∙ e) rows q ∙ ap (λ (b : Bool). cond b (option_map f (wagon_in rows q)) (wagon_in rows q)) (same_sym q n)

pub order_in-at : (n : List ℕ) (f : OrderRowValue → OrderRowValue) → ((row : OrderRowValue) → row.text.id ≡ n → (f row).text.id ≡ row.text.id) → (rows : List OrderRowValue) (q : List ℕ)
    → order_in (at_order n f rows) q ≡ cond (same n q) (option_map f (order_in rows q)) (order_in rows q)
order_in-at n f keeps rows q =
    order_in-at_order n f (λ row e. keeps row e ∙ e) rows q ∙ ap (λ (b : Bool). cond b (option_map f (order_in rows q)) (order_in rows q)) (same_sym q n)

pub wagon_in-mapped : (f : WagonRow → WagonRow) → ((row : WagonRow) → (f row).number ≡ row.number) → (rows : List WagonRow) (q : List ℕ) → wagon_in (map f rows) q ≡ option_map f (wagon_in rows q)
wagon_in-mapped f keeps rows q = under-mapped (λ (r : WagonRow). r.number) f keeps rows q

-- the promise of the wagon at a number, after a change at the wagon n
promise_by : (n q : List ℕ) (f : WagonRow → WagonRow) (row : WagonRow) (rows : List WagonRow) (both : Bool) → wagon_in rows n ≡ Some row → same n q ≡ both
    → promise_of (cond both (option_map f (wagon_in rows q)) (wagon_in rows q)) ≡ cond both (f row).promise (promise_of (wagon_in rows q))
promise_by n q f row rows true found is = ap (λ (o : Option WagonRow). promise_of (option_map f o)) (ap (wagon_in rows) (sym (same_is n q is)) ∙ found)
promise_by n q f row rows false found is = refl

pub promise-at : (n : List ℕ) (f : WagonRow → WagonRow) → ((row : WagonRow) → row.number ≡ n → (f row).number ≡ row.number) → (rows : List WagonRow) (row : WagonRow) → wagon_in rows n ≡ Some row → (q : List ℕ)
    → promise_of (wagon_in (at_wagon n f rows) q) ≡ cond (same n q) (f row).promise (promise_of (wagon_in rows q))
promise-at n f keeps rows row found q = ap promise_of (wagon_in-at n f keeps rows q) ∙ promise_by n q f row rows (same n q) found refl

-- the promised wagons of the order at a name, after a change at the order n that changes them by g
promised_by : (f : OrderRowValue → OrderRowValue) (g : List (List ℕ) → List (List ℕ)) → ((row : OrderRowValue) → (f row).promised ≡ g row.promised) → g [] ≡ [] → (both : Bool) (o : Option OrderRowValue)
    → promised_of (cond both (option_map f o) o) ≡ cond both (g (promised_of o)) (promised_of o)
promised_by f g is none true None = sym none
promised_by f g is none true (Some row) = is row
promised_by f g is none false o = refl

pub promised-at : (n : List ℕ) (f : OrderRowValue → OrderRowValue) → ((row : OrderRowValue) → row.text.id ≡ n → (f row).text.id ≡ row.text.id) → (g : List (List ℕ) → List (List ℕ)) → ((row : OrderRowValue) → (f row).promised ≡ g row.promised) → g [] ≡ [] → (rows : List OrderRowValue) (q : List ℕ)
    → promised_of (order_in (at_order n f rows) q) ≡ cond (same n q) (g (promised_of (order_in rows q))) (promised_of (order_in rows q))
promised-at n f keeps g is none rows q = ap promised_of (order_in-at n f keeps rows q) ∙ promised_by f g is none (same n q) (order_in rows q)

-- the same where the order is there
promised_by_row : (n q : List ℕ) (f : OrderRowValue → OrderRowValue) (row : OrderRowValue) (rows : List OrderRowValue) (both : Bool) → order_in rows n ≡ Some row → same n q ≡ both
    → promised_of (cond both (option_map f (order_in rows q)) (order_in rows q)) ≡ cond both (f row).promised (promised_of (order_in rows q))
promised_by_row n q f row rows true found is = ap (λ (o : Option OrderRowValue). promised_of (option_map f o)) (ap (order_in rows) (sym (same_is n q is)) ∙ found)
promised_by_row n q f row rows false found is = refl

pub promised-at_row : (n : List ℕ) (f : OrderRowValue → OrderRowValue) → ((row : OrderRowValue) → row.text.id ≡ n → (f row).text.id ≡ row.text.id) → (rows : List OrderRowValue) (row : OrderRowValue) → order_in rows n ≡ Some row → (q : List ℕ)
    → promised_of (order_in (at_order n f rows) q) ≡ cond (same n q) (f row).promised (promised_of (order_in rows q))
promised-at_row n f keeps rows row found q = ap promised_of (order_in-at n f keeps rows q) ∙ promised_by_row n q f row rows (same n q) found refl

-- one more order that is promised no wagon
one_more : (b : Bool) (row new : OrderRowValue) (rest more : Option OrderRowValue) → promised_of more ≡ promised_of rest → promised_of (cond b (Some row) more) ≡ promised_of (cond b (Some row) rest)
one_more true row new rest more e = refl
one_more false row new rest more e = e

last_one : (b : Bool) (new : OrderRowValue) → new.promised ≡ [] → promised_of (cond b (Some new) None) ≡ []
last_one true new e = e
last_one false new e = refl

pub promised-push : (rows : List OrderRowValue) (new : OrderRowValue) → new.promised ≡ [] → (q : List ℕ) → promised_of (order_in (rows ++ new ∷ []) q) ≡ promised_of (order_in rows q)
promised-push [] new none q = last_one (same q new.text.id) new none
promised-push (row ∷ rows) new none q = one_more (same q row.text.id) row new (order_in rows q) (order_in (rows ++ new ∷ []) q) (promised-push rows new none q)
