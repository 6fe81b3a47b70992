-- The free wagons and the waiting orders of an office make a problem.
use Rattle.std.proofs.Common.{◌≡◌, ◌∙◌, ℕ, ◌+◌, ◌-◌, ◌<◌, ◌≤◌, Bool, true, false, cond, not, ◌||◌, ◌&&◌, List, [], ◌∷◌, ◌++◌, length, map, refl, ap, sym, subst, arith, suc}
use Rattle.std.specs.Prelude.{nat_lt, Option, Some, None, sum}
use Rattle.std.specs.List.{AllByRecursion, IsDistinct, cons_option, filter_map}
use Rattle.std.proofs.lemmas.Bool.Decides.{nat_tests}
use Rattle.std.proofs.lemmas.List.Folds.{list_any-append}
use Rattle.std.proofs.lemmas.List.Sums.{sum_by-cons}
use Rattle.std.proofs.lemmas.Map.Keys.{IsDistinct-cons, IsDistinct-head, IsDistinct-tail}
use Rattle.wagons_and_orders.specs.declared.status.Status.{Status}
use Rattle.wagons_and_orders.specs.declared.status.Status.TheVariants.{Empty, Loading, Ready, Journey, Yard, Arrived, Unloading}
use Rattle.wagons_and_orders.specs.declared.free_wagon.FreeWagon.{FreeWagon}
use Rattle.wagons_and_orders.specs.declared.wagon_row.WagonRow.{WagonRow}
use Rattle.wagons_and_orders.specs.Free.{free_of, free_by}
use Rattle.wagons_and_orders.specs.Lack.{lack_of, is_waiting}
use Rattle.wagons_and_orders.specs.OrderRow.{OrderRowValue}
use Rattle.wagons_and_orders.specs.Wanted.{WantedOrder}
use Rattle.wagons_and_orders.specs.WantedLimits.{wanted_of}
use Rattle.cost_table.specs.DistinctNames.{first_repeated, repeated_after}
use Rattle.cost_table.specs.Names.{is_name}
use Rattle.cost_table.specs.DistinctNames as names
use Rattle.cost_table.specs.ProblemLimits.{IsProblem}
use Rattle.cost_table.specs.Problem.{wagon_names, order_names, lacks_of}
use Rattle.fleet_rows.specs.Kept.{IsWagonRows}
use Rattle.fleet_rows.specs.KeptOrders.{IsOrderRows}
use Rattle.fleet_rows.specs.Rows.{open_wagons, wanted_open}
use Rattle.fleet_rows.proofs.Wagons.{numbers_distinct}
use Rattle.operating_db.specs.Problem.{free_wagons, wanted_in, waiting_orders}
use Rattle.operating_db.proofs.Names.{same}

-- ---- names of what is picked out of a list

picked_step : {Y : Type 0} (P : List ℕ → Type 0) (name : Y → List ℕ) (o : Option Y) (rest : List Y) (k : List ℕ) → ((y : Y) → o ≡ Some y → name y ≡ k) → P k → AllByRecursion P (map name rest) → AllByRecursion P (map name (cons_option o rest))
picked_step P name None rest k is h others = others
picked_step P name (Some y) rest k is h others = (subst P (sym (is y refl)) h, others)

picked_all : {X Y : Type 0} (P : List ℕ → Type 0) (key : X → List ℕ) (name : Y → List ℕ) (pick : X → Option Y) → ((x : X) (y : Y) → pick x ≡ Some y → name y ≡ key x) → (xs : List X) → AllByRecursion P (map key xs) → AllByRecursion P (map name (filter_map pick xs))
picked_all P key name pick keeps [] all = tt
picked_all P key name pick keeps (x ∷ xs) all = picked_step P name (pick x) (filter_map pick xs) (key x) (keeps x) all.0 (picked_all P key name pick keeps xs all.1)

distinct_step : {Y : Type 0} (name : Y → List ℕ) (o : Option Y) (rest : List Y) (k : List ℕ) → ((y : Y) → o ≡ Some y → name y ≡ k) → AllByRecursion (λ m. same k m ≡ false) (map name rest) → IsDistinct same (map name rest) → IsDistinct same (map name (cons_option o rest))
distinct_step name None rest k is others h = h
distinct_step name (Some y) rest k is others h =
    IsDistinct-cons same (name y) (map name rest) (subst (λ (n : List ℕ). AllByRecursion (λ m. same n m ≡ false) (map name rest)) (sym (is y refl)) others) h

-- what is picked keeps its row's name, so no two have one
pub picked_distinct : {X Y : Type 0} (key : X → List ℕ) (name : Y → List ℕ) (pick : X → Option Y) → ((x : X) (y : Y) → pick x ≡ Some y → name y ≡ key x) → (xs : List X) → IsDistinct same (map key xs) → IsDistinct same (map name (filter_map pick xs))
unfolding IsDistinct
picked_distinct key name pick keeps [] h = tt
picked_distinct key name pick keeps (x ∷ xs) h =
    distinct_step name (pick x) (filter_map pick xs) (key x) (keeps x)
    (picked_all (λ m. same (key x) m ≡ false) key name pick keeps xs (IsDistinct-head same (key x) (map key xs) h))
    (picked_distinct key name pick keeps xs (IsDistinct-tail same (key x) (map key xs) h))

-- ---- no name is repeated where all are distinct

abbrev IsNew : List (List ℕ) → List ℕ → Type 0
IsNew before n = names.is_name_among before n ≡ false

new_more : (before : List (List ℕ)) (n : List ℕ) (others : List (List ℕ)) → AllByRecursion (IsNew before) others → AllByRecursion (λ m. same n m ≡ false) others → AllByRecursion (IsNew (before ++ n ∷ [])) others
new_more before n [] new apart = tt
new_more before n (m ∷ others) new apart =
    (list_any-append (is_name m) before (n ∷ []) ∙ (ap (λ (b : Bool). b || (same n m || false)) new.0 ∙ ap (λ (b : Bool). b || false) apart.0), new_more before n others new.1 apart.1)

none_repeated : (before others : List (List ℕ)) → AllByRecursion (IsNew before) others → IsDistinct same others → repeated_after before others ≡ None
none_repeated before [] new h = refl
none_repeated before (n ∷ others) new h =
    ap (λ (b : Bool). cond b (Some n) (repeated_after (before ++ n ∷ []) others)) new.0
    ∙ none_repeated (before ++ n ∷ []) others (new_more before n others new.1 (IsDistinct-head same n others h)) (IsDistinct-tail same n others h)

all_new : (others : List (List ℕ)) → AllByRecursion (IsNew []) others
all_new [] = tt
all_new (n ∷ others) = (refl, all_new others)

pub once : (others : List (List ℕ)) → IsDistinct same others → first_repeated others ≡ None
once others h = none_repeated [] others (all_new others) h

-- ---- wagons

free_number : (row : WagonRow) (status : Status) (held : Bool) (promise : Option (List ℕ)) (wagon : FreeWagon) → free_by row status held promise ≡ Some wagon → wagon.number ≡ row.number
free_number row (Empty place ready) true promise wagon h = cc
free_number row (Empty place ready) false None wagon h =
    let same_wagon : record { number = row.number; class = row.class; load_limit = row.load_limit; place = place; ready = ready } ≡ wagon = cc in ap (λ (w : FreeWagon). w.number) (sym same_wagon)
free_number row (Empty place ready) false (Some id) wagon h = cc
free_number row (Loading place) held promise wagon h = cc
free_number row (Ready place) held promise wagon h = cc
free_number row (Journey load place) held promise wagon h = cc
free_number row (Yard load place) held promise wagon h = cc
free_number row (Arrived load place) held promise wagon h = cc
free_number row (Unloading place) held promise wagon h = cc

pub free_keeps : (row : WagonRow) (wagon : FreeWagon) → free_of row ≡ Some wagon → wagon.number ≡ row.number
unfolding free_of
free_keeps row wagon h = free_number row row.status row.held row.promise wagon h

length_option : {Y : Type 0} (o : Option Y) (ys : List Y) → length (cons_option o ys) ≤ suc (length ys)
length_option None ys = omega arith
length_option (Some y) ys = omega arith

length_picked : {X Y : Type 0} (pick : X → Option Y) (xs : List X) → length (filter_map pick xs) ≤ length xs
length_picked pick [] = omega arith
length_picked pick (x ∷ xs) =
    let here : length (cons_option (pick x) (filter_map pick xs)) ≤ suc (length (filter_map pick xs)) = length_option (pick x) (filter_map pick xs) in
    let rest : length (filter_map pick xs) ≤ length xs = length_picked pick xs in
    omega (arith, here, rest)

wagons_once : (rows : List WagonRow) → IsWagonRows rows → first_repeated (wagon_names (free_wagons rows)) ≡ None
wagons_once rows h = once (wagon_names (free_wagons rows)) (picked_distinct (λ (r : WagonRow). r.number) (λ (w : FreeWagon). w.number) free_of free_keeps rows (numbers_distinct rows h.ascending))

-- ---- orders

pub wanted_name : (b : Bool) (row : OrderRowValue) (wanted : WantedOrder) → cond b (Some (record { order = row.text; lack = lack_of row })) None ≡ Some wanted → wanted.order.id ≡ row.text.id
wanted_name true row wanted h = let is : record { order = row.text; lack = lack_of row } ≡ wanted = cc in ap (λ (w : WantedOrder). w.order.id) (sym is)
wanted_name false row wanted h = cc

orders_once : (rows : List OrderRowValue) → IsOrderRows rows → first_repeated (order_names (waiting_orders rows)) ≡ None
orders_once rows h = once (order_names (waiting_orders rows)) (picked_distinct (λ (r : OrderRowValue). r.text.id) (λ (w : WantedOrder). w.order.id) wanted_in (λ row wanted e. wanted_name (is_waiting row) row wanted e) rows h.distinct)

-- an order lacks no more than it wants while it is open, and where it waits it lacks one at least
lack_open : (withdrawn : Bool) (wagons promised filled : ℕ) → cond withdrawn 0 (wagons - (promised + filled)) ≤ cond (not withdrawn && nat_lt filled wagons) wagons 0
lack_open true wagons promised filled = omega arith
lack_open false wagons promised filled = grind (arith, nat_tests)

row_sums : (b : Bool) (row : OrderRowValue) (rest : List WantedOrder) (most : ℕ) → is_waiting row ≡ b → lack_of row ≤ wanted_open row → sum (lacks_of rest) ≤ most → length rest ≤ sum (lacks_of rest)
    → (sum (lacks_of (cons_option (cond b (Some (record { order = row.text; lack = lack_of row })) None) rest)) ≤ wanted_open row + most) × (length (cons_option (cond b (Some (record { order = row.text; lack = lack_of row })) None) rest) ≤ sum (lacks_of (cons_option (cond b (Some (record { order = row.text; lack = lack_of row })) None) rest)))
row_sums true row rest most is fits sums count =
    let all : sum (lack_of row ∷ lacks_of rest) ≡ lack_of row + sum (lacks_of rest) = sum_by-cons (λ (x : ℕ). x) (lack_of row) (lacks_of rest) in
    let one : 0 < lack_of row = grind (arith, nat_tests, is) in
    (omega (arith, all, fits, sums), omega (arith, all, one, count))
row_sums false row rest most is fits sums count = (omega (arith, sums), count)

abbrev FewLack : List OrderRowValue → Type 0
FewLack rows = (sum (lacks_of (waiting_orders rows)) ≤ open_wagons rows) × (length (waiting_orders rows) ≤ sum (lacks_of (waiting_orders rows)))

few_lack : (rows : List OrderRowValue) → FewLack rows
few_lack [] = (omega arith, omega arith)
few_lack (row ∷ rows) =
    let rest = few_lack rows in
    let all : open_wagons (row ∷ rows) ≡ wanted_open row + open_wagons rows = sum_by-cons wanted_open row rows in
    let here = row_sums (is_waiting row) row (waiting_orders rows) (open_wagons rows) refl (lack_open row.withdrawn row.text.wagons (length row.promised) (length row.filled)) rest.0 rest.1 in
    (subst (λ (n : ℕ). sum (lacks_of (waiting_orders (row ∷ rows))) ≤ n) (sym all) here.0, here.1)

-- ---- the problem

pub problem_made : (at : ℕ) (wagons : List WagonRow) (orders : List OrderRowValue) → IsWagonRows wagons → IsOrderRows orders
    → IsProblem (record { at = at; wagons = free_wagons wagons; orders = waiting_orders orders })
problem_made at wagons orders h g =
    let short : length (free_wagons wagons) ≤ length wagons = length_picked free_of wagons in
    let few = few_lack orders in
    record {
      few_wagons = omega (arith, short, h.few);
      few_orders = omega (arith, few.0, few.1, g.few_open);
      lack_in_all = omega (arith, few.0, g.few_open);
      each_wagon_once = wagons_once wagons h;
      each_order_once = orders_once orders g;
    }

-- an order within its limits that lacks a wagon lacks one that may be wanted
wanted_by : (b : Bool) (row : OrderRowValue) → nat_lt 0 (lack_of row) ≡ b → lack_of row ≤ 20 → wanted_of row.text (lack_of row) ≡ cond b (Some (record { order = row.text; lack = lack_of row })) None
wanted_by true row is few = grind (arith, nat_tests, is, few)
wanted_by false row is few = grind (arith, nat_tests, is, few)

at_most : (b : Bool) (wagons had : ℕ) → wagons ≤ 20 → cond b 0 (wagons - had) ≤ 20
at_most true wagons had h = omega arith
at_most false wagons had h = omega (arith, h)

pub wanted_is : (row : OrderRowValue) → row.text.wagons ≤ 20 → wanted_of row.text (lack_of row) ≡ wanted_in row
wanted_is row few = wanted_by (is_waiting row) row refl (at_most row.withdrawn row.text.wagons (length row.promised + length row.filled) few)
