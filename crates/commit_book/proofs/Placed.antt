-- The indexes of a commit's pairs: which wagon and order each names, and that a name stands as often as its index.
use Rattle.std.proofs.Common.{◌≡◌, ◌≤◌, ℕ, zero, suc, Bool, true, false, cond, List, [], ◌∷◌, length, map, refl, sym, ◌∙◌, ap, arith, subst}
use Rattle.std.specs.Prelude.{◌==◌, Option, Some, None, Ok, count_by, position, slice_get}
use Rattle.std.proofs.lemmas.Bool.Decides.{nat_tests}
use Rattle.std.proofs.lemmas.List.{length-map}
use Rattle.std.proofs.lemmas.List.Sums.{sum_by-cons}
use Rattle.std.proofs.lemmas.Option.{slice_get_within}
use Rattle.wagons_and_orders.specs.declared.free_wagon.FreeWagon.{FreeWagon}
use Rattle.wagons_and_orders.specs.Wanted.{WantedOrder}
use Rattle.line_network.specs.Network.{NetworkValue}
use Rattle.problem_table.specs.Allowed.{IsTableOf}
use Rattle.cost_table.specs.Names.{both, is_name, pair_of}
use Rattle.cost_table.specs.Plan.{serves, uses}
use Rattle.cost_table.specs.Problem.{ProblemValue, names_of_problem, order_names, wagon_names}
use Rattle.cost_table.specs.Table.{Table, order_count, wagon_count}
use Rattle.cost_table.proofs.NameLemmas.{found_at, held_at}
use Rattle.price_checker.proofs.FaultFree.{AllInRange}
use Rattle.operating_db.specs.Commits.{Pair, times_of_order, times_of_wagon}
use Rattle.operating_db.proofs.Names.{same, same_is, same_self}
use Rattle.price_checker.specs.NamedPairs.{before_rest, found_or, positions_of}
use Rattle.price_checker.proofs.Checked.{first_position}
use Rattle.commit_book.specs.History.{ArePositions}
use Rattle.commit_book.proofs.Offices.{IsNamedOnceIn}

-- where a wagon stands in a problem; an order
abbrev pub wagon_index : ProblemValue → List ℕ → Option ℕ
wagon_index problem number = position (is_name number) (wagon_names problem.wagons)

abbrev pub order_index : ProblemValue → List ℕ → Option ℕ
order_index problem id = position (is_name id) (order_names problem.orders)

pub record IsPlaced (problem : ProblemValue) (pair : Pair) (index : ℕ × ℕ) : Type 0 where
  pub wagon : wagon_index problem pair.0 ≡ Some index.0
  pub order : order_index problem pair.1 ≡ Some index.1

abbrev pub ArePlaced : ProblemValue → List Pair → List (ℕ × ℕ) → Type 0
ArePlaced problem [] [] = Unit {0}
ArePlaced problem (pair ∷ pairs) (index ∷ indexes) = IsPlaced problem pair index × ArePlaced problem pairs indexes
ArePlaced problem [] (index ∷ indexes) = ⊥
ArePlaced problem (pair ∷ pairs) [] = ⊥

-- ---- positions are such indexes

placed_by : (problem : ProblemValue) (pair : Pair) (index : ℕ × ℕ) (i j : Option ℕ) → wagon_index problem pair.0 ≡ i → order_index problem pair.1 ≡ j → both i j ≡ Some index → IsPlaced problem pair index
placed_by problem pair index None j wagon order h = absurd cc
placed_by problem pair index (Some i) None wagon order h = absurd cc
placed_by problem pair index (Some i) (Some j) wagon order h =
    let same_index : (i, j) ≡ index = cc in
    subst (IsPlaced problem pair) same_index (record { wagon = wagon; order = order })

pub positions_placed : (problem : ProblemValue) (pairs : List Pair) (positions : List (ℕ × ℕ)) → positions_of (names_of_problem problem) pairs ≡ Ok positions → ArePlaced problem pairs positions
unfolding positions_of
positions_placed problem [] positions h = let none : [] ≡ positions = cc in subst (ArePlaced problem []) none tt
positions_placed problem (pair ∷ pairs) positions h =
    let first = first_position (names_of_problem problem) pair pairs positions h in
    subst (ArePlaced problem (pair ∷ pairs)) first.same
    (placed_by problem pair first.position (wagon_index problem pair.0) (order_index problem pair.1) refl refl first.found, positions_placed problem pairs first.rest first.others)

-- and they are what is looked for
pub placed_positions : (problem : ProblemValue) (pairs : List Pair) (indexes : List (ℕ × ℕ)) → ArePlaced problem pairs indexes → positions_of (names_of_problem problem) pairs ≡ Ok indexes
unfolding positions_of
placed_positions problem [] [] h = refl
placed_positions problem (pair ∷ pairs) (index ∷ indexes) h =
    let found : pair_of (names_of_problem problem) pair.0 pair.1 ≡ Some (index.0, index.1) = rw (h.0.wagon, h.0.order) refl in
    let rest = placed_positions problem pairs indexes h.1 in
    λ k. before_rest (found_or pair (found k)) (rest k)
placed_positions problem [] (index ∷ indexes) h = absurd h
placed_positions problem (pair ∷ pairs) [] h = absurd h

-- the names stand at their indexes
pub placed_stand : (problem : ProblemValue) (pairs : List Pair) (indexes : List (ℕ × ℕ)) → ArePlaced problem pairs indexes → ArePositions problem pairs indexes
placed_stand problem [] [] h = tt
placed_stand problem (pair ∷ pairs) (index ∷ indexes) h =
    ((found_at (wagon_names problem.wagons) pair.0 index.0 h.0.wagon, found_at (order_names problem.orders) pair.1 index.1 h.0.order), placed_stand problem pairs indexes h.1)
placed_stand problem [] (index ∷ indexes) h = absurd h
placed_stand problem (pair ∷ pairs) [] h = absurd h

-- where no name stands twice, the names that stand at positions are found there
pub stand_placed : (problem : ProblemValue) → IsNamedOnceIn problem → (pairs : List Pair) (positions : List (ℕ × ℕ)) → ArePositions problem pairs positions → ArePlaced problem pairs positions
stand_placed problem once [] [] h = tt
stand_placed problem once (pair ∷ pairs) (position ∷ positions) h =
    (record { wagon = held_at (wagon_names problem.wagons) pair.0 position.0 once.wagons h.0.0; order = held_at (order_names problem.orders) pair.1 position.1 once.orders h.0.1 }, stand_placed problem once pairs positions h.1)
stand_placed problem once [] (position ∷ positions) h = absurd h
stand_placed problem once (pair ∷ pairs) [] h = absurd h

-- ---- what stands at an index

pub some_same : {A : Type 0} (x y : A) → let o : Option A = Some x in o ≡ Some y → x ≡ y
some_same x y h = cc

-- the item at an index has that name
abbrev pub HasName : {A : Type 0} → (A → List ℕ) → List A → List ℕ → ℕ → Type 0
HasName {A} name_of xs name i = (x : A) × (slice_get xs i ≡ Some x) × (name_of x ≡ name)

named_at : {A : Type 0} (name_of : A → List ℕ) (xs : List A) (name : List ℕ) (i : ℕ) → slice_get (map name_of xs) i ≡ Some name → HasName name_of xs name i
named_at name_of [] name i h = absurd cc
named_at name_of (x ∷ xs) name zero h = (x, refl, some_same (name_of x) name h)
named_at name_of (x ∷ xs) name (suc i) h = named_at name_of xs name i h

pub wagon_there : (problem : ProblemValue) (number : List ℕ) (i : ℕ) → wagon_index problem number ≡ Some i → HasName (λ (w : FreeWagon). w.number) problem.wagons number i
wagon_there problem number i h = named_at (λ (w : FreeWagon). w.number) problem.wagons number i (found_at (wagon_names problem.wagons) number i h)

pub order_there : (problem : ProblemValue) (id : List ℕ) (j : ℕ) → order_index problem id ≡ Some j → HasName (λ (o : WantedOrder). o.order.id) problem.orders id j
order_there problem id j h = named_at (λ (o : WantedOrder). o.order.id) problem.orders id j (found_at (order_names problem.orders) id j h)

-- each index is one of the table's
pub placed_in_range : (net : NetworkValue) (problem : ProblemValue) (t : Table) → IsTableOf net problem t → (pairs : List Pair) (indexes : List (ℕ × ℕ)) → ArePlaced problem pairs indexes → AllInRange t indexes
placed_in_range net problem t table [] [] h = tt
placed_in_range net problem t table (pair ∷ pairs) (index ∷ indexes) h =
    let wagon = wagon_there problem pair.0 index.0 h.0.wagon in
    let order = order_there problem pair.1 index.1 h.0.order in
    let i = slice_get_within problem.wagons index.0 wagon.0 wagon.1 in
    let j = slice_get_within problem.orders index.1 order.0 order.1 in
    let rows : wagon_count t ≡ length problem.wagons = table.wagons in
    let columns : order_count t ≡ length problem.orders = ap (λ (ls : List ℕ). length ls) table.lacks ∙ length-map problem.orders (λ (o : WantedOrder). o.lack) in
    (omega (arith, i, rows), omega (arith, j, columns), placed_in_range net problem t table pairs indexes h.1)
placed_in_range net problem t table [] (index ∷ indexes) h = absurd h
placed_in_range net problem t table (pair ∷ pairs) [] h = absurd h

-- ---- how often a name stands

-- the names on one side of the pairs, and their indexes
abbrev AreIndexed : (index_of : List ℕ → Option ℕ) → (name : Pair → List ℕ) → (side : ℕ × ℕ → ℕ) → List Pair → List (ℕ × ℕ) → Type 0
AreIndexed index_of name side [] [] = Unit {0}
AreIndexed index_of name side (pair ∷ pairs) (index ∷ indexes) = (index_of (name pair) ≡ Some (side index)) × AreIndexed index_of name side pairs indexes
AreIndexed index_of name side [] (index ∷ indexes) = ⊥
AreIndexed index_of name side (pair ∷ pairs) [] = ⊥

wagons_indexed : (problem : ProblemValue) (pairs : List Pair) (indexes : List (ℕ × ℕ)) → ArePlaced problem pairs indexes → AreIndexed (wagon_index problem) (λ (p : Pair). p.0) (λ (p : ℕ × ℕ). p.0) pairs indexes
wagons_indexed problem [] [] h = tt
wagons_indexed problem (pair ∷ pairs) (index ∷ indexes) h = (h.0.wagon, wagons_indexed problem pairs indexes h.1)
wagons_indexed problem [] (index ∷ indexes) h = h
wagons_indexed problem (pair ∷ pairs) [] h = h

orders_indexed : (problem : ProblemValue) (pairs : List Pair) (indexes : List (ℕ × ℕ)) → ArePlaced problem pairs indexes → AreIndexed (order_index problem) (λ (p : Pair). p.1) (λ (p : ℕ × ℕ). p.1) pairs indexes
orders_indexed problem [] [] h = tt
orders_indexed problem (pair ∷ pairs) (index ∷ indexes) h = (h.0.order, orders_indexed problem pairs indexes h.1)
orders_indexed problem [] (index ∷ indexes) h = h
orders_indexed problem (pair ∷ pairs) [] h = h

-- two names at one index are one
wagons_one_to_one : (problem : ProblemValue) (a b : List ℕ) (i : ℕ) → wagon_index problem a ≡ Some i → wagon_index problem b ≡ Some i → a ≡ b
wagons_one_to_one problem a b i h g = some_same a b (sym (found_at (wagon_names problem.wagons) a i h) ∙ found_at (wagon_names problem.wagons) b i g)

orders_one_to_one : (problem : ProblemValue) (a b : List ℕ) (i : ℕ) → order_index problem a ≡ Some i → order_index problem b ≡ Some i → a ≡ b
orders_one_to_one problem a b i h g = some_same a b (sym (found_at (order_names problem.orders) a i h) ∙ found_at (order_names problem.orders) b i g)

same_tests : (x y : List ℕ) (i j : ℕ) (b : Bool) → same x y ≡ b → (x ≡ y → j ≡ i) → (j ≡ i → x ≡ y) → b ≡ (j == i)
same_tests x y i j true is f g = let e : j ≡ i = f (same_is x y is) in grind (arith, nat_tests, e)
same_tests x y i j false is f g =
    let apart : j ≡ i → ⊥ = λ e. differ (sym is ∙ (ap (λ n. same x n) (sym (g e)) ∙ same_self x)) in
    grind (arith, nat_tests, apart)
  where
    differ : false ≡ true → ⊥
    differ h = cc

-- a name stands as often as its index
count_same : (index_of : List ℕ → Option ℕ) (name : Pair → List ℕ) (side : ℕ × ℕ → ℕ) → ((a b : List ℕ) (i : ℕ) → index_of a ≡ Some i → index_of b ≡ Some i → a ≡ b)
    → (pairs : List Pair) (indexes : List (ℕ × ℕ)) → AreIndexed index_of name side pairs indexes → (q : List ℕ) (i : ℕ) → index_of q ≡ Some i
    → count_by (λ (p : Pair). same q (name p)) pairs ≡ count_by (λ (p : ℕ × ℕ). side p == i) indexes
count_same index_of name side one [] [] h q i is = refl
count_same index_of name side one (pair ∷ pairs) (index ∷ indexes) h q i is =
    let rest = count_same index_of name side one pairs indexes h.1 q i is in
    let tests = same_tests q (name pair) i (side index) (same q (name pair)) refl
    (λ e. some_same (side index) i (sym h.0 ∙ (ap index_of (sym e) ∙ is)))
    (λ e. one q (name pair) i is (h.0 ∙ ap (λ (k : ℕ). Some k) e)) in
    let left = sum_by-cons (λ (p : Pair). cond (same q (name p)) 1 0) pair pairs in
    let right = sum_by-cons (λ (p : ℕ × ℕ). cond (side p == i) 1 0) index indexes in
    let here : ◌≡◌ {A = ℕ} (cond (same q (name pair)) 1 0) (cond (side index == i) 1 0) = ap (λ b. cond b 1 0) tests in
    omega (arith, rest, left, right, here)
count_same index_of name side one [] (index ∷ indexes) h q i is = absurd h
count_same index_of name side one (pair ∷ pairs) [] h q i is = absurd h

none_some : (i : ℕ) → let o : Option ℕ = Some i in None ≡ o → ⊥
none_some i h = cc

differs : (x y : List ℕ) (b : Bool) → same x y ≡ b → (x ≡ y → ⊥) → b ≡ false
differs x y true is apart = absurd (apart (same_is x y is))
differs x y false is apart = refl

-- a name with no index stands nowhere
count_none : (index_of : List ℕ → Option ℕ) (name : Pair → List ℕ) (side : ℕ × ℕ → ℕ) (pairs : List Pair) (indexes : List (ℕ × ℕ)) → AreIndexed index_of name side pairs indexes → (q : List ℕ) → index_of q ≡ None
    → ◌≡◌ {A = ℕ} (count_by (λ (p : Pair). same q (name p)) pairs) 0
count_none index_of name side [] [] h q is = refl
count_none index_of name side (pair ∷ pairs) (index ∷ indexes) h q is =
    let rest = count_none index_of name side pairs indexes h.1 q is in
    let left = sum_by-cons (λ (p : Pair). cond (same q (name p)) 1 0) pair pairs in
    let other = differs q (name pair) (same q (name pair)) refl (λ e. none_some (side index) (sym is ∙ (ap index_of e ∙ h.0))) in
    let here : ◌≡◌ {A = ℕ} (cond (same q (name pair)) 1 0) 0 = ap (λ b. cond b 1 0) other in
    omega (arith, rest, left, here)
count_none index_of name side [] (index ∷ indexes) h q is = absurd h
count_none index_of name side (pair ∷ pairs) [] h q is = absurd h

pub order_times : (problem : ProblemValue) (pairs : List Pair) (indexes : List (ℕ × ℕ)) → ArePlaced problem pairs indexes → (id : List ℕ) (j : ℕ) → order_index problem id ≡ Some j → times_of_order id pairs ≡ serves j indexes
order_times problem pairs indexes placed id j is =
    count_same (order_index problem) (λ (p : Pair). p.1) (λ (p : ℕ × ℕ). p.1) (orders_one_to_one problem) pairs indexes (orders_indexed problem pairs indexes placed) id j is

once_by : (problem : ProblemValue) (pairs : List Pair) (indexes : List (ℕ × ℕ)) → ArePlaced problem pairs indexes → ((i : ℕ) → uses i indexes ≤ 1) → (number : List ℕ) (o : Option ℕ) → wagon_index problem number ≡ o → times_of_wagon number pairs ≤ 1
once_by problem pairs indexes placed once number None is =
    let c = count_none (wagon_index problem) (λ (p : Pair). p.0) (λ (p : ℕ × ℕ). p.0) pairs indexes (wagons_indexed problem pairs indexes placed) number is in
    omega (arith, c)
once_by problem pairs indexes placed once number (Some i) is =
    let c = count_same (wagon_index problem) (λ (p : Pair). p.0) (λ (p : ℕ × ℕ). p.0) (wagons_one_to_one problem) pairs indexes (wagons_indexed problem pairs indexes placed) number i is in
    let k = once i in
    omega (arith, c, k)

-- where no index is used twice, no wagon is named twice
pub named_once : (problem : ProblemValue) (pairs : List Pair) (indexes : List (ℕ × ℕ)) → ArePlaced problem pairs indexes → ((i : ℕ) → uses i indexes ≤ 1) → (number : List ℕ) → times_of_wagon number pairs ≤ 1
named_once problem pairs indexes placed once number = once_by problem pairs indexes placed once number (wagon_index problem number) refl
