-- Movements that are listed one after the other.
use Rattle.std.proofs.Common.{◌≡◌, ◌∙◌, ℕ, ◌+◌, ◌<◌, Bool, cond, List, ◌∷◌, [], ◌++◌, length, get_or, take, refl, ap, subst, sym, append-nil}
use Rattle.std.specs.Prelude.{Option, Some, None, IsSome, filter, is_some, option_map}
use Rattle.std.specs.List.{AllZip}
use Rattle.std.proofs.lemmas.List.Elements.{filter_more}
use Rattle.fleet_rows.specs.Rows.{order_in, wagon_in}
use Rattle.line_network.specs.Network.{NetworkValue}
use Rattle.operating_db.specs.Office.{Office}
use Rattle.operating_db.specs.Promises.{PromisesAgree}
use Rattle.operating_db.proofs.Changes.{among_known, order_known}
use Rattle.wagons_and_orders.specs.OrderRow.{OrderRowValue}
use Rattle.wagons_and_orders.specs.declared.wagon_row.WagonRow.{WagonRow}
use Rattle.text_tables.proofs.RowsBelow.{AllZip-more}
use Rattle.movements.specs.Movements.{IsMovement, is_promised}
use Rattle.movements.specs.declared.movement.Movement.{Movement}
use Rattle.movements.specs.inner.Listed.{AddsMovement, AddsWith, AreMovements}

-- the promised ones among one row more
next_promised : (rows : List WagonRow) (i : ℕ) (d row : WagonRow) (b : Bool) → i < length rows → row ≡ get_or rows i d → is_promised row ≡ b
    → filter is_promised (take (i + 1) rows) ≡ filter is_promised (take i rows) ++ cond b (row ∷ []) []
next_promised rows i d row b lt at is =
    filter_more is_promised rows i d lt ∙ ap (λ (r : WagonRow). filter is_promised (take i rows) ++ cond (is_promised r) (r ∷ []) []) (sym at) ∙ ap (λ (b : Bool). filter is_promised (take i rows) ++ cond b (row ∷ []) []) is

-- the movement of one row more, by its promise
movements_by : (net : NetworkValue) (at : ℕ) (orders : List OrderRowValue) (rows : List WagonRow) (i : ℕ) (d row : WagonRow) (old new : List Movement) (promise : Option (List ℕ)) → row.promise ≡ promise → i < length rows
    → row ≡ get_or rows i d → AreMovements net at orders (take i rows) old → AddsWith promise net at orders row old new → AreMovements net at orders (take (i + 1) rows) new
movements_by net at orders rows i d row old new None is lt there h added =
    let same = next_promised rows i d row _ lt there (ap is_some is) ∙ append-nil (filter is_promised (take i rows)) in
    subst (λ ms. AllZip (IsMovement net at orders) (filter is_promised (take (i + 1) rows)) ms) (sym added) (subst (λ rs. AllZip (IsMovement net at orders) rs old) (sym same) h)
movements_by net at orders rows i d row old new (Some id) is lt there h (movement, of, added) =
    let more = next_promised rows i d row _ lt there (ap is_some is) in
    subst (λ ms. AllZip (IsMovement net at orders) (filter is_promised (take (i + 1) rows)) ms) (sym added)
    (subst (λ rs. AllZip (IsMovement net at orders) rs (old ++ movement ∷ [])) (sym more) (AllZip-more (IsMovement net at orders) (filter is_promised (take i rows)) old row movement h of))

pub movements_more : (net : NetworkValue) (at : ℕ) (orders : List OrderRowValue) (rows : List WagonRow) (i : ℕ) (d row : WagonRow) (old new : List Movement) → i < length rows → row ≡ get_or rows i d
    → AreMovements net at orders (take i rows) old → AddsMovement net at orders row old new → AreMovements net at orders (take (i + 1) rows) new
movements_more net at orders rows i d row old new lt there h added = movements_by net at orders rows i d row old new row.promise refl lt there h added

some_of : {A B : Type 0} (f : A → B) (o : Option A) (p : Option B) → option_map f o ≡ p → IsSome p → IsSome o
some_of f None p e h = subst IsSome (sym e) h
some_of f (Some x) p e h = refl

-- the office has the order that a wagon is promised to
pub order_there : {A : Type 0} (f : A → OrderRowValue) (o : Option A) (office : Office) (row : WagonRow) (id : List ℕ) → PromisesAgree office → wagon_in office.wagons row.number ≡ Some row → row.promise ≡ Some id
    → option_map f o ≡ order_in office.orders id → IsSome o
order_there f o office row id agree found is e =
    some_of f o (order_in office.orders id) e (among_known row.number (order_in office.orders id) (order_known office row.number row id (sym found) is agree.agree))
