-- What the calls of the rows make of them.
use Rattle.std.proofs.Common.{◌≡◌, ◌∙◌, ℕ, ◌+◌, ◌<◌, Bool, true, false, cond, ◌||◌, List, [], ◌∷◌, ◌++◌, length, map, take, get_or, refl, ap, sym}
use Rattle.std.specs.Prelude.{Option, Some, None, IsSome, IfSome, All}
use Rattle.std.specs.List.{Contains, slice_index_or}
use Rattle.std.proofs.lemmas.List.{take_more}
use Rattle.std.proofs.lemmas.List.Elements.{All-head, All-tail}
use Rattle.std.proofs.lemmas.List.Folds.{list_any-append}
use Rattle.std.proofs.lemmas.Option.{slice_get-get_or}
use Rattle.wagons_and_orders.specs.declared.wagon_row.WagonRow.{WagonRow}
use Rattle.wagons_and_orders.specs.OrderRow.{OrderRowValue}
use Rattle.fleet_rows.specs.Kept.{IsWagonRows}
use Rattle.fleet_rows.specs.Rows.{wagon_in, order_in, at_wagon, with_promise}
use Rattle.fleet_rows.proofs.Wagons.{wagon_in-there}
use Rattle.operating_db.specs.After.{unpromised}
use Rattle.operating_db.specs.inner.EventParts.{unpromised_among}
use Rattle.operating_db.specs.Office.{Office}
use Rattle.operating_db.specs.Promises.{is_among, is_promise_to, promise_of, promised_of, SidesAgree}
use Rattle.operating_db.proofs.Names.{same, same_self, same_sym, among_contains}

-- ---- wagons that lose their promises one after the other

abbrev ended : WagonRow → WagonRow
ended row = with_promise None row

-- `here`: the row's wagon is the next one; `before`: it is among those before it
ended_step : (before here : Bool) (row : WagonRow) → cond here (ended (cond before (ended row) row)) (cond before (ended row) row) ≡ cond (before || (here || false)) (ended row) row
ended_step true true row = refl
ended_step true false row = refl
ended_step false true row = refl
ended_step false false row = refl

number_stays : (b : Bool) (row : WagonRow) → (cond b (ended row) row).number ≡ row.number
number_stays true row = refl
number_stays false row = refl

pub ended_more : (numbers : List (List ℕ)) (n : List ℕ) (rows : List WagonRow) → at_wagon n (with_promise None) (unpromised_among numbers rows) ≡ unpromised_among (numbers ++ n ∷ []) rows
ended_more numbers n [] = refl
ended_more numbers n (row ∷ rows) =
    let before = is_among row.number numbers in
    let left : same n (cond before (ended row) row).number ≡ same row.number n = ap (same n) (number_stays before row) ∙ same_sym n row.number in
    let more : is_among row.number (numbers ++ n ∷ []) ≡ (before || (same row.number n || false)) = list_any-append (same row.number) numbers (n ∷ []) in
    ap (λ (b : Bool). cond b (ended (cond before (ended row) row)) (cond before (ended row) row) ∷ at_wagon n ended (unpromised_among numbers rows)) left
    ∙ (ap (λ (r : WagonRow). r ∷ at_wagon n ended (unpromised_among numbers rows)) (ended_step before (same row.number n) row)
    ∙ (ap (λ (b : Bool). cond b (ended row) row ∷ at_wagon n ended (unpromised_among numbers rows)) (sym more)
    ∙ ap (λ (rs : List WagonRow). cond (is_among row.number (numbers ++ n ∷ [])) (ended row) row ∷ rs) (ended_more numbers n rows)))

pub ended_none : (rows : List WagonRow) → unpromised_among [] rows ≡ rows
ended_none [] = refl
ended_none (row ∷ rows) = ap (λ (rs : List WagonRow). row ∷ rs) (ended_none rows)

-- the wagons of an order are those that are promised to it
abbrev IsOf : List (List ℕ) → List ℕ → WagonRow → Type 0
IsOf promised id row = is_among row.number promised ≡ is_promise_to row.promise id

ended_all : (promised : List (List ℕ)) (id : List ℕ) (rows : List WagonRow) → All (IsOf promised id) rows → unpromised_among promised rows ≡ map (unpromised id) rows
ended_all promised id [] all = refl
ended_all promised id (row ∷ rows) all =
    ap (λ (b : Bool). cond b (ended row) row ∷ unpromised_among promised rows) (All-head (IsOf promised id) row rows all)
    ∙ ap (λ (rs : List WagonRow). unpromised id row ∷ rs) (ended_all promised id rows (All-tail (IsOf promised id) row rows all))

pub withdrawn_wagons : (office : Office) (id : List ℕ) (order : OrderRowValue) → SidesAgree office → IsWagonRows office.wagons → order_in office.orders id ≡ Some order
    → unpromised_among order.promised office.wagons ≡ map (unpromised id) office.wagons
withdrawn_wagons office id order agree kept there =
    ended_all order.promised id office.wagons (λ k d below.
    let row = slice_index_or office.wagons k d in
    let found : wagon_in office.wagons row.number ≡ Some row = wagon_in-there office.wagons k row kept.ascending (slice_get-get_or office.wagons k d below) in
    let by_office : is_promise_to (promise_of (wagon_in office.wagons row.number)) id ≡ is_among row.number (promised_of (order_in office.orders id)) = agree row.number id in
    sym (ap (λ (o : Option OrderRowValue). is_among row.number (promised_of o)) there) ∙ (sym by_office ∙ ap (λ (o : Option WagonRow). is_promise_to (promise_of o) id) found))

-- ---- orders that have a wagon among their promised ones

pub among_known : (n : List ℕ) (o : Option OrderRowValue) → is_among n (promised_of o) ≡ true → IsSome o
among_known n None h = cc h
among_known n (Some row) h = refl

-- the order of a wagon's promise has the wagon among its promised ones
pub order_known : (office : Office) (n : List ℕ) (row : WagonRow) (id : List ℕ) → Some row ≡ wagon_in office.wagons n → row.promise ≡ Some id → SidesAgree office → is_among n (promised_of (order_in office.orders id)) ≡ true
order_known office n row id found had agree =
    sym (agree n id) ∙ (ap (λ (o : Option WagonRow). is_promise_to (promise_of o) id) (sym found) ∙ (ap (λ (p : Option (List ℕ)). is_promise_to p id) had ∙ same_self id))

pub among_promised : (n : List ℕ) (o : Option OrderRowValue) → is_among n (promised_of o) ≡ true → IfSome o (λ row. Contains row.promised n)
among_promised n None h = tt
among_promised n (Some row) h = among_contains n row.promised h

pub ended_next : (numbers : List (List ℕ)) (i : ℕ) (n : List ℕ) (before rows after : List WagonRow) → n ≡ get_or numbers i n → i < length numbers → rows ≡ unpromised_among (take i numbers) before → after ≡ at_wagon n (with_promise None) rows → after ≡ unpromised_among (take (i + 1) numbers) before
ended_next numbers i n before rows after is below so_far now =
    now ∙ (ap (at_wagon n (with_promise None)) so_far ∙ (ended_more (take i numbers) n before
    ∙ ap (λ (ns : List (List ℕ)). unpromised_among ns before) (sym (take_more numbers i n below ∙ ap (λ (m : List ℕ). take i numbers ++ m ∷ []) (sym is)))))
