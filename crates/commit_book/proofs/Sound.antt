-- A commit that pays what it owes is what the headline says of it.
use Rattle.std.proofs.Common.{◌≡◌, ◌∙◌, ◌<◌, ◌≤◌, ℕ, zero, suc, List, [], ◌∷◌, map, ap, arith}
use Rattle.std.specs.Prelude.{Some, All, slice_get, slice_index}
use Rattle.std.proofs.lemmas.List.Elements.{All-cons, All-nil}
use Rattle.move_messages.specs.declared.commit_text.CommitText.{CommitText}
use Rattle.wagons_and_orders.specs.Wanted.{WantedOrder}
use Rattle.line_network.specs.Network.{NetworkValue}
use Rattle.problem_table.specs.Allowed.{IsTableOf}
use Rattle.cost_table.specs.Plan.{AllAllowed, serves}
use Rattle.cost_table.specs.Problem.{ProblemValue}
use Rattle.cost_table.specs.Table.{Table, lack_at, order_count}
use Rattle.operating_db.specs.Commits.{Pair, times_of_order}
use Rattle.move_messages.specs.declared.event.Event.{Event}
use Rattle.commit_book.specs.Headline.{IsReached, IsSound}
use Rattle.commit_book.specs.History.{IsLeast, problem_at, version}
use Rattle.commit_book.specs.Setting.{Setting}
use Rattle.commit_book.proofs.Offices.{IsNamedOnce, problem_named}
use Rattle.commit_book.proofs.Placed.{ArePlaced, named_once, order_there, order_times, some_same, stand_placed, wagon_there}

-- what a column has at the index of an item
index-map : {A : Type 0} (f : A → ℕ) (xs : List A) (i : ℕ) (x : A) → slice_get xs i ≡ Some x → slice_index (map f xs) i ≡ f x
index-map f [] i x h = cc
index-map f (y ∷ xs) zero x h = ap f (some_same y x h)
index-map f (y ∷ xs) (suc i) x h = index-map f xs i x h

-- the pairs of some indexes that are allowed, where `all` are the pairs of all indexes
reached_by : (net : NetworkValue) (problem : ProblemValue) (t : Table) (all : List Pair) (all_indexes : List (ℕ × ℕ)) → IsTableOf net problem t → ArePlaced problem all all_indexes → ((j : ℕ) → j < order_count t → serves j all_indexes ≤ lack_at t j)
    → (pairs : List Pair) (indexes : List (ℕ × ℕ)) → ArePlaced problem pairs indexes → AllAllowed t indexes → All (IsReached net problem all) pairs
reached_by net problem t all all_indexes table are_all lacks [] [] placed allowed = All-nil (IsReached net problem all)
reached_by net problem t all all_indexes table are_all lacks (pair ∷ pairs) (index ∷ indexes) placed allowed =
    let wagon = wagon_there problem pair.0 index.0 placed.0.wagon in
    let order = order_there problem pair.1 index.1 placed.0.order in
    let km = allowed.0.2 in
    let reaches = (table.cells index.0 index.1 km.0 wagon.0 order.0 wagon.1 order.1).0 km.1 in
    let count = order_times problem all all_indexes are_all pair.1 index.1 placed.0.order in
    let bound = lacks index.1 allowed.0.1 in
    let column : lack_at t index.1 ≡ order.0.lack = ap (λ ls. slice_index ls index.1) table.lacks ∙ index-map (λ (o : WantedOrder). o.lack) problem.orders index.1 order.0 order.1 in
    let no_more : times_of_order pair.1 all ≤ order.0.lack = omega (arith, count, bound, column) in
    All-cons (IsReached net problem all) pair pairs
    (record {
      i = index.0;
      wagon = wagon.0;
      is_free = wagon.1;
      its_number = wagon.2;
      j = index.1;
      wanted = order.0;
      is_waiting = order.1;
      its_id = order.2;
      km = km.0;
      reaches = reaches;
      no_more = no_more;
    })
    (reached_by net problem t all all_indexes table are_all lacks pairs indexes placed.1 allowed.1)
reached_by net problem t all all_indexes table are_all lacks [] (index ∷ indexes) placed allowed = absurd placed
reached_by net problem t all all_indexes table are_all lacks (pair ∷ pairs) [] placed allowed = absurd placed

pub sound : (setting : Setting) (before : List Event) (commit : CommitText) → IsLeast setting before commit → IsNamedOnce (version setting before commit.version) → IsSound setting before commit
sound setting before commit least named =
    let problem = problem_at setting before commit.version commit.at in
    let placed = stand_placed problem (problem_named (version setting before commit.version) commit.at named) commit.pairs least.positions least.are_positions in
    record {
      least = least;
      distinct = named_once problem commit.pairs least.positions placed least.certificate.plan.once;
      reached = reached_by least.is_table.network problem least.table commit.pairs least.positions least.is_table.of_problem placed least.certificate.plan.within commit.pairs least.positions placed least.certificate.plan.allowed;
    }
