-- A certificate of the problem of an office has no wagon and no order that has changed in that office.
use Rattle.std.proofs.Common.{◌≡◌, ◌∙◌, ◌+◌, ◌<◌, ◌≤◌, ℕ, zero, suc, Bool, true, false, cond, List, [], ◌∷◌, length, map, take, get_or, refl, ap, arith}
use Rattle.std.specs.Prelude.{Option, None, Some, All, slice_get, slice_index}
use Rattle.std.proofs.lemmas.Bool.Decides.{nat_tests}
use Rattle.std.proofs.lemmas.List.Elements.{All-cons, All-get_or, All-nil}
use Rattle.std.proofs.lemmas.List.Sums.{sum_by-take-drop}
use Rattle.std.proofs.lemmas.Option.{slice_get-get_or, slice_get_within}
use Rattle.wagons_and_orders.specs.Wanted.{WantedOrder}
use Rattle.line_network.specs.Network.{NetworkValue}
use Rattle.problem_table.specs.Allowed.{IsTableOf}
use Rattle.cost_table.specs.Plan.{serves}
use Rattle.cost_table.specs.Table.{Table, lack_at, order_count}
use Rattle.fleet_rows.specs.Rows.{order_in}
use Rattle.operating_db.specs.Commits.{Pair, lack_in, times_of_order}
use Rattle.operating_db.specs.Office.{Office}
use Rattle.operating_db.specs.Problem.{problem_of}
use Rattle.price_checker.proofs.FirstBelow.{first_below_none}
use Rattle.commit_book.specs.Commits.{free_in, is_same_free, lacks_fewer, order_changed, order_changed_at, wagon_changed, wagon_of}
use Rattle.faults.specs.declared.faults.Refusal.{Refusal}
use Rattle.faults.specs.declared.faults.Refusal.TheVariants.{WagonChanged}
use Rattle.commit_book.proofs.Offices.{IsNamedOnce, same}
use Rattle.commit_book.proofs.Placed.{ArePlaced, order_there, order_times, wagon_there}
use Rattle.sessions.proofs.Found.{order_same, wagon_same}
use Rattle.sessions.proofs.SameTables.{columns}

none_where_true : (b : Bool) (rest : Option Refusal) (refusal : Refusal) → b ≡ true → rest ≡ None → cond b rest (Some refusal) ≡ None
none_where_true b rest refusal h k = rw h k

pub no_wagon_changed : (office : Office) (at : ℕ) → IsNamedOnce office → (pairs : List Pair) (indices : List (ℕ × ℕ)) → ArePlaced (problem_of office at) pairs indices → wagon_changed (problem_of office at) office pairs ≡ None
no_wagon_changed office at once [] [] placed = refl
no_wagon_changed office at once (pair ∷ pairs) (index ∷ indices) placed =
    let problem = problem_of office at in
    let wagon = wagon_there problem pair.0 index.0 placed.0.wagon in
    let test = wagon_same office at once pair.0 index.0 wagon.0 wagon.1 wagon.2 in
    none_where_true (is_same_free (wagon_of problem pair.0) (free_in office pair.0)) (wagon_changed problem office pairs) (WagonChanged pair.0) test (no_wagon_changed office at once pairs indices placed.1)
no_wagon_changed office at once [] (index ∷ indices) placed = absurd placed
no_wagon_changed office at once (pair ∷ pairs) [] placed = absurd placed

-- ---- orders

-- an order lacks as many wagons as all the pairs give it
abbrev IsWithin : Office → List Pair → Pair → Type 0
IsWithin office all pair = times_of_order pair.1 all ≤ lack_in (order_in office.orders pair.1)

index-map : {A : Type 0} (f : A → ℕ) (xs : List A) (i : ℕ) (x : A) → slice_get xs i ≡ Some x → slice_index (map f xs) i ≡ f x
index-map f [] i x h = cc
index-map f (y ∷ xs) zero x h = let is : y ≡ x = cc in ap f is
index-map f (y ∷ xs) (suc i) x h = index-map f xs i x h

within_by : (net : NetworkValue) (office : Office) (at : ℕ) (t : Table) → IsNamedOnce office → IsTableOf net (problem_of office at) t → (all : List Pair) (all_indices : List (ℕ × ℕ)) → ArePlaced (problem_of office at) all all_indices
    → ((j : ℕ) → j < order_count t → serves j all_indices ≤ lack_at t j) → (pairs : List Pair) (indices : List (ℕ × ℕ)) → ArePlaced (problem_of office at) pairs indices → All (IsWithin office all) pairs
within_by net office at t once is all all_indices are_all lacks [] [] placed = All-nil (IsWithin office all)
within_by net office at t once is all all_indices are_all lacks (pair ∷ pairs) (index ∷ indices) placed =
    let problem = problem_of office at in
    let order = order_there problem pair.1 index.1 placed.0.order in
    let count = order_times problem all all_indices are_all pair.1 index.1 placed.0.order in
    let in_problem = slice_get_within problem.orders index.1 order.0 order.1 in
    let j : index.1 < order_count t = omega (arith, in_problem, columns net problem t is) in
    let bound = lacks index.1 j in
    let column : lack_at t index.1 ≡ order.0.lack = ap (λ ls. slice_index ls index.1) is.lacks ∙ index-map (λ (o : WantedOrder). o.lack) problem.orders index.1 order.0 order.1 in
    let lack = order_same office once pair.1 index.1 order.0 order.1 order.2 in
    All-cons (IsWithin office all) pair pairs (omega (arith, count, bound, column, lack))
    (within_by net office at t once is all all_indices are_all lacks pairs indices placed.1)
within_by net office at t once is all all_indices are_all lacks [] (index ∷ indices) placed = absurd placed
within_by net office at t once is all all_indices are_all lacks (pair ∷ pairs) [] placed = absurd placed

no_order_at : (office : Office) (pairs : List Pair) → All (IsWithin office pairs) pairs → (k : ℕ) → k < length pairs → order_changed_at office pairs k ≡ None
no_order_at office pairs all k lt =
    let pair = get_or pairs k ([], []) in
    let there : slice_get pairs k ≡ Some pair = slice_get-get_or pairs k ([], []) lt in
    let bound : times_of_order pair.1 pairs ≤ lack_in (order_in office.orders pair.1) = All-get_or (IsWithin office pairs) pairs k ([], []) lt all in
    let part = sum_by-take-drop (λ (p : Pair). cond (same pair.1 p.1) 1 0) pairs (k + 1) in
    let few : times_of_order pair.1 (take (k + 1) pairs) ≤ lack_in (order_in office.orders pair.1) = omega (arith, part, bound) in
    let test : lacks_fewer office (take (k + 1) pairs) pair.1 ≡ false = grind (arith, nat_tests, few) in
    rw (there, test) refl

pub no_order_changed : (net : NetworkValue) (office : Office) (at : ℕ) (t : Table) → IsNamedOnce office → IsTableOf net (problem_of office at) t → (pairs : List Pair) (indices : List (ℕ × ℕ)) → ArePlaced (problem_of office at) pairs indices
    → ((j : ℕ) → j < order_count t → serves j indices ≤ lack_at t j) → order_changed office pairs ≡ None
no_order_changed net office at t once is pairs indices placed lacks =
    first_below_none (length pairs) (order_changed_at office pairs) (no_order_at office pairs (within_by net office at t once is pairs indices placed lacks pairs indices placed))
