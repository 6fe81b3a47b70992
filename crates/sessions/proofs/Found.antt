-- What is picked out of rows of which no two have one name, found again by its name.
use Rattle.std.proofs.Common.{◌≡◌, ◌∙◌, ℕ, zero, suc, Bool, true, false, cond, List, [], ◌∷◌, refl, sym, ap, subst, arith}
use Rattle.std.specs.Prelude.{◌==◌, ◌&&◌, Option, Some, None, option_and_then, slice_get}
use Rattle.std.specs.List.{cons_option, filter_map, find}
use Rattle.std.proofs.lemmas.Bool.Decides.{nat_tests}
use Rattle.wagons_and_orders.specs.declared.free_wagon.FreeWagon.{FreeWagon}
use Rattle.wagons_and_orders.specs.declared.wagon_row.WagonRow.{WagonRow}
use Rattle.wagons_and_orders.specs.Free.{free_of}
use Rattle.wagons_and_orders.specs.Lack.{is_waiting, lack_of}
use Rattle.wagons_and_orders.specs.OrderRow.{OrderRowValue}
use Rattle.wagons_and_orders.specs.Wanted.{WantedOrder}
use Rattle.fleet_rows.specs.Rows.{order_in, wagon_in}
use Rattle.fleet_rows.proofs.Named.{found_by_name}
use Rattle.operating_db.specs.Commits.{lack_in}
use Rattle.operating_db.specs.Office.{Office}
use Rattle.operating_db.specs.Problem.{free_wagons, problem_of, waiting_orders, wanted_in}
use Rattle.operating_db.proofs.Names.{same_self, same_sym}
use Rattle.operating_db.proofs.Problems.{free_keeps}
use Rattle.commit_book.specs.Commits.{free_in, is_same_free, is_same_wagon, wagon_of}
use Rattle.commit_book.proofs.Offices.{IsNamedOnce, free_distinct, same}

-- ---- rows and what is picked of them

-- the row of which something was picked
pub record IsPicked {X Y : Type 0} (pick : X → Option Y) (xs : List X) (y : Y) : Type 0 where
  pub index : ℕ
  pub row : X
  pub is_row : slice_get xs index ≡ Some row
  pub picked : pick row ≡ Some y

one_later : {X Y : Type 0} (pick : X → Option Y) (x : X) (xs : List X) (y : Y) → IsPicked pick xs y → IsPicked pick (x ∷ xs) y
one_later pick x xs y h = record { index = suc h.index; row = h.row; is_row = h.is_row; picked = h.picked }

some_same : {Y : Type 0} (a b : Y) → let o : Option Y = Some a in o ≡ Some b → a ≡ b
some_same a b h = cc

picked_by : {X Y : Type 0} (pick : X → Option Y) (x : X) (xs : List X) (o : Option Y) → pick x ≡ o → ((k : ℕ) (y : Y) → slice_get (filter_map pick xs) k ≡ Some y → IsPicked pick xs y) → (k : ℕ) (y : Y) → slice_get (cons_option o (filter_map pick xs)) k ≡ Some y → IsPicked pick (x ∷ xs) y
picked_by pick x xs None is rest k y h = one_later pick x xs y (rest k y h)
picked_by pick x xs (Some first) is rest zero y h = record { index = zero; row = x; is_row = refl; picked = is ∙ ap (λ z. Some z) (some_same first y h) }
picked_by pick x xs (Some first) is rest (suc k) y h = one_later pick x xs y (rest k y h)

pub picked_from : {X Y : Type 0} (pick : X → Option Y) (xs : List X) (k : ℕ) (y : Y) → slice_get (filter_map pick xs) k ≡ Some y → IsPicked pick xs y
picked_from pick [] k y h = absurd cc
picked_from pick (x ∷ xs) k y h = picked_by pick x xs (pick x) refl (λ n z g. picked_from pick xs n z g) k y h

-- ---- free wagons

same_number : (n : ℕ) → (n == n) ≡ true
same_number n = grind (arith, nat_tests)

both_are : (a b : Bool) → a ≡ true → b ≡ true → (a && b) ≡ true
both_are a b h k = rw h k

itself : (w : FreeWagon) → is_same_wagon w w ≡ true
itself w = both_are _ _ (same_self w.number) (both_are _ _ (same_self w.class) (both_are _ _ (same_number w.load_limit) (both_are _ _ (same_self w.place) (same_number w.ready))))

same_both : (a b : Option FreeWagon) (w : FreeWagon) → a ≡ Some w → b ≡ Some w → is_same_free a b ≡ true
same_both a b w h k = rw (h, k) (itself w)

-- a wagon of the problem of an office is free in it as it is in the problem
pub wagon_same : (office : Office) (at : ℕ) → IsNamedOnce office → (number : List ℕ) (i : ℕ) (w : FreeWagon) → slice_get (free_wagons office.wagons) i ≡ Some w → w.number ≡ number → is_same_free (wagon_of (problem_of office at) number) (free_in office number) ≡ true
wagon_same office at once number i w is named =
    let picked = picked_from free_of office.wagons i w is in
    let key : picked.row.number ≡ number = sym (free_keeps picked.row w picked.picked) ∙ named in
    let row = found_by_name (λ (r : WagonRow). r.number) office.wagons picked.index picked.row once.wagons picked.is_row in
    let in_office : wagon_in office.wagons number ≡ Some picked.row = subst (λ (n : List ℕ). wagon_in office.wagons n ≡ Some picked.row) key row in
    let free : free_in office number ≡ Some w = ap (option_and_then free_of) in_office ∙ picked.picked in
    let found = found_by_name (λ (x : FreeWagon). x.number) (free_wagons office.wagons) i w (free_distinct office once) is in
    let turned : find (λ (x : FreeWagon). same x.number w.number) (free_wagons office.wagons) ≡ find (λ (x : FreeWagon). same w.number x.number) (free_wagons office.wagons) =
    λ k. find (λ (x : FreeWagon). same_sym x.number w.number k) (free_wagons office.wagons) in
    let in_problem : wagon_of (problem_of office at) number ≡ Some w = subst (λ (n : List ℕ). wagon_of (problem_of office at) n ≡ Some w) named (turned ∙ found) in
    same_both (wagon_of (problem_of office at) number) (free_in office number) w in_problem free

-- ---- waiting orders

wanted_row : (b : Bool) (row : OrderRowValue) (wanted : WantedOrder) → cond b (Some (record { order = row.text; lack = lack_of row })) None ≡ Some wanted → (wanted.order.id ≡ row.text.id) × (wanted.lack ≡ lack_of row)
wanted_row true row wanted h =
    let is : record { order = row.text; lack = lack_of row } ≡ wanted = cc in
    (ap (λ (w : WantedOrder). w.order.id) (sym is), ap (λ (w : WantedOrder). w.lack) (sym is))
wanted_row false row wanted h = absurd cc

pub wanted_keeps : (row : OrderRowValue) (wanted : WantedOrder) → wanted_in row ≡ Some wanted → (wanted.order.id ≡ row.text.id) × (wanted.lack ≡ lack_of row)
wanted_keeps row wanted h = wanted_row (is_waiting row) row wanted h

-- an order of the problem of an office lacks as many wagons in it as in the problem
pub order_same : (office : Office) → IsNamedOnce office → (id : List ℕ) (j : ℕ) (wanted : WantedOrder) → slice_get (waiting_orders office.orders) j ≡ Some wanted → wanted.order.id ≡ id → lack_in (order_in office.orders id) ≡ wanted.lack
order_same office once id j wanted is named =
    let picked = picked_from wanted_in office.orders j wanted is in
    let keeps = wanted_keeps picked.row wanted picked.picked in
    let key : picked.row.text.id ≡ id = sym keeps.0 ∙ named in
    let row = found_by_name (λ (r : OrderRowValue). r.text.id) office.orders picked.index picked.row once.orders picked.is_row in
    let in_office : order_in office.orders id ≡ Some picked.row = subst (λ (n : List ℕ). order_in office.orders n ≡ Some picked.row) key row in
    ap lack_in in_office ∙ sym keeps.1
