-- How the rows of a problem's table grow.
use Rattle.std.proofs.Common.{◌≡◌, ◌+◌, ◌<◌, ◌≤◌, ℕ, zero, suc, Bool, true, false, Option, Some, None, cond, List, [], ◌∷◌, ◌++◌, length, get_or, take, drop, min, refl, sym, ap, ◌∙◌, subst, arith, append-nil, append_assoc, length-take-le}
use Rattle.std.specs.Prelude.{◌↔◌, All, IfSome, slice_get, ◌==◌}
use Rattle.std.specs.Option.{option_or}
use Rattle.std.proofs.lemmas.List.{drop_at, take_more, get_or_push, get_or_append_left, get_or_default, take_all, length-append, length-map}
use Rattle.std.proofs.lemmas.List.Elements.{All-push, All-weaker}
use Rattle.std.proofs.lemmas.Bool.Decides.{nat_tests}
use Rattle.std.proofs.lemmas.Option.{slice_get_within}
use Rattle.wagons_and_orders.specs.declared.free_wagon.FreeWagon.{FreeWagon}
use Rattle.wagons_and_orders.specs.Wanted.{WantedOrder}
use Rattle.cost_table.specs.TableLimits.{max_cost, IsTable, IsRow}
use Rattle.cost_table.specs.Table.{Table, cost_at, order_count}
use Rattle.cost_table.specs.TableRows.{all_rows, cost_in, costs_of}
use Rattle.wagons_and_orders.specs.WantedLimits.{IsLack}
use Rattle.cost_table.specs.Problem.{ProblemValue, penalties_of, lacks_of}
use Rattle.cost_table.specs.ProblemLimits.{IsProblem}
use Rattle.problem_table.specs.Allowed.{Reaches, IsTableOf}
use Rattle.problem_table.specs.Lasting.{IsLastingTable}
use Rattle.problem_table.specs.inner.AllowedRows.{AddsLastingRow, AddsRow, AreLastingRows, IsLastingRow, IsRowOf, table_of_rows}
use Rattle.line_network.specs.Network.{NetworkValue}
use Rattle.cost_table.proofs.TableLemmas.{cost_in_within}
use Rattle.cost_table.proofs.TableRowLemmas.{cost_at-table_with, cost_by_row, costs_even, costs_within, length-all_rows, row_is, row_of_all}

-- what stands in a list with one more: what stood there, or the one more
pub data Stands {X : Type 0} (xs : List X) (y : X) (i : ℕ) (x : X) : Type 0 where
  before : i < length xs → slice_get xs i ≡ Some x → Stands xs y i x
  last : i ≡ length xs → y ≡ x → Stands xs y i x

stands_after : {X : Type 0} (w : X) (xs : List X) (y : X) (i : ℕ) (x : X) → Stands xs y i x → Stands (w ∷ xs) y (suc i) x
stands_after w xs y i x (before l e) = before (omega arith) e
stands_after w xs y i x (last l e) = last (omega arith) e

pub same_some : {X : Type 0} (x y : X) → Some x ≡ Some y → x ≡ y
same_some x y h = cc

pub stands : {X : Type 0} (xs : List X) (y : X) (i : ℕ) (x : X) → slice_get (xs ++ y ∷ []) i ≡ Some x → Stands xs y i x
stands [] y zero x h = last refl (same_some y x h)
stands [] y (suc i) x h = cc
stands (w ∷ xs) y zero x h = before (omega arith) h
stands (w ∷ xs) y (suc i) x h = stands_after w xs y i x (stands xs y i x h)

-- something stands at each index of a list
pub some_at : {X : Type 0} (xs : List X) (i : ℕ) → i < length xs → (x : X) × (slice_get xs i ≡ Some x)
some_at [] i h = absurd (omega arith)
some_at (x ∷ xs) zero h = (x, refl)
some_at (x ∷ xs) (suc i) h = some_at xs i (omega arith)

-- what stands at an index of the first items stands there in the list
pub slice_get-take : {X : Type 0} (k : ℕ) (xs : List X) (i : ℕ) (x : X) → slice_get (take k xs) i ≡ Some x → slice_get xs i ≡ Some x
slice_get-take zero [] i x h = cc h
slice_get-take zero (y ∷ xs) i x h = cc h
slice_get-take (suc k) [] i x h = cc h
slice_get-take (suc k) (y ∷ xs) zero x h = h
slice_get-take (suc k) (y ∷ xs) (suc i) x h = slice_get-take k xs i x h

-- the cell of order j at a cost, if there is one
abbrev pub cell_of : ℕ → Option ℕ → List (ℕ × ℕ)
cell_of j None = []
cell_of j (Some km) = (j, km) ∷ []

cost_in-cell : (j : ℕ) (o : Option ℕ) → cost_in (cell_of j o) j ≡ o
cost_in-cell j None = refl
cost_in-cell j (Some km) = grind (arith, nat_tests)

cost_in-other : (j k : ℕ) (o : Option ℕ) → j < k → cost_in (cell_of k o) j ≡ None
cost_in-other j k None h = refl
cost_in-other j k (Some km) h = grind (arith, nat_tests, h)

or_none : (o : Option ℕ) → option_or o None ≡ o
or_none None = refl
or_none (Some x) = refl

cond_or : (b : Bool) (c : ℕ) (o p : Option ℕ) → cond b (Some c) (option_or o p) ≡ option_or (cond b (Some c) o) p
cond_or true c o p = refl
cond_or false c o p = refl

cost_in-append : (row more : List (ℕ × ℕ)) (j : ℕ) → cost_in (row ++ more) j ≡ option_or (cost_in row j) (cost_in more j)
cost_in-append [] more j = refl
cost_in-append (cell ∷ row) more j =
    ap (λ o. cond (cell.0 == j) (Some cell.1) o) (cost_in-append row more j) ∙ cond_or (cell.0 == j) cell.1 (cost_in row j) (cost_in more j)

none_past : (n j : ℕ) (row : List (ℕ × ℕ)) (o : Option ℕ) → IsRow n 0 row → n ≤ j → cost_in row j ≡ o → o ≡ None
none_past n j row None h l e = refl
none_past n j row (Some c) h l e = let within = cost_in_within n 0 j c row h e in absurd (omega (arith, within.0))

IsRow-more : (n m low : ℕ) (row : List (ℕ × ℕ)) → n ≤ m → IsRow n low row → IsRow m low row
IsRow-more n m low [] l h = tt
IsRow-more n m low (cell ∷ row) l h = (h.0, omega (arith, h.1), h.2, IsRow-more n m (cell.0 + 1) row l h.3)

IsRow-push : (n low c : ℕ) (row : List (ℕ × ℕ)) → low ≤ n → c ≤ max_cost → IsRow n low row → IsRow (n + 1) low (row ++ (n, c) ∷ [])
IsRow-push n low c [] l m h = (l, omega arith, m, tt)
IsRow-push n low c (cell ∷ row) l m h = (h.0, omega (arith, h.1), h.2, IsRow-push n (cell.0 + 1) c row (omega (arith, h.1)) m h.3)

IsRow-cell : (n : ℕ) (row : List (ℕ × ℕ)) (o : Option ℕ) → IfSome o (λ km. km ≤ max_cost) → IsRow n 0 row → IsRow (n + 1) 0 (row ++ cell_of n o)
IsRow-cell n row None m h = subst (IsRow (n + 1) 0) (sym (append-nil row)) (IsRow-more n (n + 1) 0 row (omega arith) h)
IsRow-cell n row (Some c) m h = IsRow-push n 0 c row (omega arith) m h

-- a cost that is the same means the same
iff_by : {P : Type 0} (a b : Option ℕ) (km : ℕ) → a ≡ b → (b ≡ Some km) ↔ P → (a ≡ Some km) ↔ P
iff_by a b km e h = (λ i. h.0 (sym e ∙ i), λ p. e ∙ h.1 p)

module _ (R : WantedOrder → ℕ → Type 0) where
  -- a row goes on with the next order
  IsRowOf-push : (orders : List WantedOrder) (wanted : WantedOrder) (row : List (ℕ × ℕ)) (o : Option ℕ) → IsRowOf R orders row → ((km : ℕ) → (o ≡ Some km) ↔ R wanted km) → IfSome o (λ km. km ≤ max_cost) → length (orders ++ wanted ∷ []) ≡ length orders + 1 → IsRowOf R (orders ++ wanted ∷ []) (row ++ cell_of (length orders) o)
  IsRowOf-push orders wanted row o h means limit longer = record {
    ascends = subst (λ (n : ℕ). IsRow n 0 (row ++ cell_of (length orders) o)) (sym longer) (IsRow-cell (length orders) row o limit h.ascends);
    cells = λ j km x there. by j km x (stands orders wanted j x there);
  } where
    by : (j km : ℕ) (x : WantedOrder) → Stands orders wanted j x → (cost_in (row ++ cell_of (length orders) o) j ≡ Some km) ↔ R x km
    by j km x (before l e) =
        iff_by _ (cost_in row j) km (cost_in-append row (cell_of (length orders) o) j ∙ (ap (option_or (cost_in row j)) (cost_in-other j (length orders) o l) ∙ or_none (cost_in row j))) (h.cells j km x e)
    by j km x (last l e) =
        let here : cost_in row j ≡ None = none_past (length orders) j row (cost_in row j) h.ascends (omega (arith, l)) refl in
        let cell : cost_in (cell_of (length orders) o) j ≡ o = subst (λ (k : ℕ). cost_in (cell_of (length orders) o) k ≡ o) (sym l) (cost_in-cell (length orders) o) in
        subst (λ (y : WantedOrder). (cost_in (row ++ cell_of (length orders) o) j ≡ Some km) ↔ R y km) e
        (iff_by _ o km (cost_in-append row (cell_of (length orders) o) j ∙ (ap (λ p. option_or p (cost_in (cell_of (length orders) o) j)) here ∙ cell)) (means km))

  pub AddsRow-start : (old : List (ℕ × ℕ)) → AddsRow R [] old old
  AddsRow-start old = record { row = []; behind = sym (append-nil old); is = record { ascends = tt; cells = λ j km x there. absurd (none-at x there) } } where
    none-at : (x : WantedOrder) → None ≡ Some x → ⊥
    none-at x h = cc

  -- the next order
  pub AddsRow-next : (orders : List WantedOrder) (wanted : WantedOrder) (o : Option ℕ) (old now new : List (ℕ × ℕ)) → AddsRow R orders old now → ((km : ℕ) → (o ≡ Some km) ↔ R wanted km) → IfSome o (λ km. km ≤ max_cost) → new ≡ now ++ cell_of (length orders) o → AddsRow R (orders ++ wanted ∷ []) old new
  AddsRow-next orders wanted o old now new h means limit added = record {
    row = h.row ++ cell_of (length orders) o;
    behind = added ∙ (ap (λ es. es ++ cell_of (length orders) o) h.behind ∙ append_assoc old h.row (cell_of (length orders) o));
    is = IsRowOf-push orders wanted h.row o h.is means limit (length-append orders (wanted ∷ []));
  }

-- ---- rows that last

-- a row that was put behind others, at each moment up to a last one
pub record Added (net : NetworkValue) (at : ℕ) (wagon : FreeWagon) (orders : List WantedOrder) (old new : List (ℕ × ℕ)) (end : ℕ) : Type 0 where
  pub row : List (ℕ × ℕ)
  pub behind : new ≡ old ++ row
  pub is : IsLastingRow net at wagon orders row end

pub added : (net : NetworkValue) (at : ℕ) (wagon : FreeWagon) (orders : List WantedOrder) (old new : List (ℕ × ℕ)) (end : ℕ) → at ≤ end → ((m : ℕ) → at ≤ m → m ≤ end → AddsRow (λ wanted. Reaches net m wagon wanted.order) orders old new) → Added net at wagon orders old new end
added net at wagon orders old new end within adds =
    let first = adds at (omega arith) within in
    record {
      row = first.row;
      behind = first.behind;
      is = λ m l u.
          let here = adds m l u in
          let same : here.row ≡ first.row = sym (drop_at old here.row (length old) refl) ∙ (ap (drop (length old)) (sym here.behind ∙ first.behind) ∙ drop_at old first.row (length old) refl) in
          subst (IsRowOf (λ wanted. Reaches net m wagon wanted.order) orders) same here.is;
    }

-- a row that was put first
pub added_first : (net : NetworkValue) (at : ℕ) (wagon : FreeWagon) (orders : List WantedOrder) (old new : List (ℕ × ℕ)) (end : ℕ) → old ≡ [] → at ≤ end → ((m : ℕ) → at ≤ m → m ≤ end → AddsRow (λ wanted. Reaches net m wagon wanted.order) orders old new) → IsLastingRow net at wagon orders new end
added_first net at wagon orders old new end none within adds =
    let first = added net at wagon orders old new end within adds in
    let same : first.row ≡ new = sym (first.behind ∙ ap (λ (before : List (ℕ × ℕ)). before ++ first.row) none) in
    subst (λ (row : List (ℕ × ℕ)). IsLastingRow net at wagon orders row end) same first.is

module _ (net : NetworkValue) (at : ℕ) where
  pub lasting_start : (orders : List WantedOrder) → AreLastingRows net at [] orders [] []
  lasting_start orders = record {
    count = refl;
    moments = refl;
    within = λ k d l. absurd (omega arith);
    each = λ i wagon there. absurd (none-at wagon there);
  } where
    none-at : (x : FreeWagon) → None ≡ Some x → ⊥
    none-at x h = cc

  -- the row of one wagon more
  pub lasting_next : (wagons : List FreeWagon) (orders : List WantedOrder) (k : ℕ) (wagon : FreeWagon) (rows rows' : List (List (ℕ × ℕ))) (lasts lasts' : List ℕ) → k < length wagons → wagon ≡ get_or wagons k wagon → AreLastingRows net at (take k wagons) orders rows lasts → AddsLastingRow net at wagon orders rows rows' lasts lasts' → AreLastingRows net at (take (k + 1) wagons) orders rows' lasts'
  lasting_next wagons orders k wagon rows rows' lasts lasts' within is_at h adds =
      let short : length (take k wagons) ≡ k = length-take-le k wagons (omega arith) in
      let more : take (k + 1) wagons ≡ take k wagons ++ wagon ∷ [] = take_more wagons k wagon within ∙ ap (λ y. take k wagons ++ y ∷ []) (sym is_at) in
      let long : length (take (k + 1) wagons) ≡ k + 1 = length-take-le (k + 1) wagons (omega arith) in
      let count : length rows ≡ k = h.count ∙ short in
      let moments : length lasts ≡ k = h.moments ∙ short in
      rw (adds.rows, adds.moments) (record {
        count = omega (arith, length-append rows (adds.row ∷ []), count, long);
        moments = omega (arith, length-append lasts (adds.last ∷ []), moments, long);
        within = All-push (λ last. at ≤ last) lasts adds.last h.within adds.within;
        each = λ i x there. by i x (stands (take k wagons) wagon i x (subst (λ (ws : List FreeWagon). slice_get ws i ≡ Some x) more there)) short count moments;
      }) where
        by : (i : ℕ) (x : FreeWagon) → Stands (take k wagons) wagon i x → length (take k wagons) ≡ k → length rows ≡ k → length lasts ≡ k → IsLastingRow net at x orders (get_or (rows ++ adds.row ∷ []) i []) (get_or (lasts ++ adds.last ∷ []) i 0)
        by i x (before l e) short count moments =
            rw (get_or_append_left rows (adds.row ∷ []) [] i (omega (arith, l, short, count)), get_or_append_left lasts (adds.last ∷ []) 0 i (omega (arith, l, short, moments))) (h.each i x e)
        by i x (last l e) short count moments =
            rw (get_or_push rows adds.row [] i (omega (arith, l, short, count)), get_or_push lasts adds.last 0 i (omega (arith, l, short, moments)))
            (subst (λ (w : FreeWagon). IsLastingRow net at w orders adds.row adds.last) e adds.is)

  pub lasting_whole : (wagons : List FreeWagon) (orders : List WantedOrder) (k : ℕ) (rows : List (List (ℕ × ℕ))) (lasts : List ℕ) → length wagons ≤ k → AreLastingRows net at (take k wagons) orders rows lasts → AreLastingRows net at wagons orders rows lasts
  lasting_whole wagons orders k rows lasts l h = subst (λ (ws : List FreeWagon). AreLastingRows net at ws orders rows lasts) (take_all k wagons l) h

  -- each of these rows ascends
  pub lasting_ascend : (wagons : List FreeWagon) (orders : List WantedOrder) (rows : List (List (ℕ × ℕ))) (lasts : List ℕ) → AreLastingRows net at wagons orders rows lasts → All (IsRow (length orders) 0) rows
  lasting_ascend wagons orders rows lasts h = λ k d l.
      let there = some_at wagons k (omega (arith, l, h.count)) in
      let within : at ≤ get_or lasts k 0 = h.within k 0 (omega (arith, l, h.count, h.moments)) in
      subst (IsRow (length orders) 0) (get_or_default rows k [] d l) (h.each k there.0 there.1 at (omega arith) within).ascends

-- ---- the table of a problem

-- what every problem keeps doesn't depend on its moment
pub IsProblem-at : (problem : ProblemValue) (m : ℕ) → IsProblem problem → IsProblem (record problem { at = m })
IsProblem-at problem m h = record {
  few_wagons = h.few_wagons;
  few_orders = h.few_orders;
  lack_in_all = h.lack_in_all;
  each_wagon_once = h.each_wagon_once;
  each_order_once = h.each_order_once;
}

lack_count : (problem : ProblemValue) → length (lacks_of problem.orders) ≡ length problem.orders
lack_count problem = length-map problem.orders (λ (o : WantedOrder). o.lack)

pub rows_for_orders : (problem : ProblemValue) (rows : List (List (ℕ × ℕ))) → All (IsRow (length problem.orders) 0) rows → All (IsRow (length (lacks_of problem.orders)) 0) rows
rows_for_orders problem rows ascend = subst (λ (n : ℕ). All (IsRow n 0) rows) (sym (lack_count problem)) ascend

-- rows of a problem are a table
pub IsTable-with : (problem : ProblemValue) (rows : List (List (ℕ × ℕ))) → IsProblem problem → length rows ≡ length problem.wagons → All (IsRow (length problem.orders) 0) rows → All (λ penalty. penalty ≤ max_cost) (penalties_of problem.orders) → All IsLack (lacks_of problem.orders) → IsTable (table_of_rows rows problem.orders)
IsTable-with problem rows kept count ascend costs all_lacks =
    let penalty_count : length (penalties_of problem.orders) ≡ length problem.orders = length-map problem.orders (λ (o : WantedOrder). o.order.penalty) in
    record {
      wagons = omega (arith, count, kept.few_wagons, length-map rows (costs_of (length (lacks_of problem.orders))));
      orders = omega (arith, lack_count problem, kept.few_orders);
      penalty_count = penalty_count ∙ sym (lack_count problem);
      even = costs_even (length (lacks_of problem.orders)) rows;
      costs = costs_within (length (lacks_of problem.orders)) rows (rows_for_orders problem rows ascend);
      penalties = costs;
      lacks = all_lacks;
      lack_in_all = kept.lack_in_all;
    }

-- rows that last are a table that lasts
pub lasting_table : (net : NetworkValue) (problem : ProblemValue) (rows : List (List (ℕ × ℕ))) (lasts : List ℕ) → AreLastingRows net problem.at problem.wagons problem.orders rows lasts → IsLastingTable net problem (table_of_rows rows problem.orders) lasts
lasting_table net problem rows lasts h = record {
  wagons = length-map rows (costs_of (length (lacks_of problem.orders))) ∙ h.count;
  moments = h.moments;
  within = h.within;
  penalties = refl;
  lacks = refl;
  cells = λ i j km wagon wanted at to m l u. iff_by (cost_at (table_of_rows rows problem.orders) i j) (cost_in (get_or rows i []) j) km (cost_at-table_with rows (penalties_of problem.orders) (lacks_of problem.orders) i j legal) ((h.each i wagon at m l u).cells j km wanted to);
} where
  legal : All (IsRow (length (lacks_of problem.orders)) 0) rows
  legal = rows_for_orders problem rows (lasting_ascend net problem.at problem.wagons problem.orders rows lasts h)

-- and the other way round
pub lasting_rows : (net : NetworkValue) (problem : ProblemValue) (t : Table) (lasts : List ℕ) → IsTable t → IsLastingTable net problem t lasts → AreLastingRows net problem.at problem.wagons problem.orders (all_rows t) lasts
lasting_rows net problem t lasts legal h =
    let orders : length t.lacks ≡ length problem.orders = ap length h.lacks ∙ lack_count problem in
    record {
      count = length-all_rows t ∙ h.wagons;
      moments = h.moments;
      within = h.within;
      each = λ i wagon at m l u. record {
        ascends = subst (λ (n : ℕ). IsRow n 0 (get_or (all_rows t) i [])) orders (subst (IsRow (order_count t) 0) (sym (row_of_all t i)) (row_is t i legal));
        cells = λ j km wanted to. iff_by (cost_in (get_or (all_rows t) i []) j) (cost_at t i j) km (ap (λ row. cost_in row j) (row_of_all t i) ∙ sym (cost_by_row t i j)) (h.cells i j km wagon wanted at to m l u);
      };
    }

-- a table that lasts is the table of each moment up to the least of the last ones
pub lasting_at : (net : NetworkValue) (problem : ProblemValue) (t : Table) (lasts : List ℕ) (m : ℕ) → IsLastingTable net problem t lasts → problem.at ≤ m → All (λ last. m ≤ last) lasts → IsTableOf net (record problem { at = m }) t
lasting_at net problem t lasts m h from up = record {
  wagons = h.wagons;
  penalties = h.penalties;
  lacks = h.lacks;
  cells = λ i j km wagon wanted at to. h.cells i j km wagon wanted at to m from (up i 0 (omega (arith, within i wagon at, h.moments)));
} where
  within : (i : ℕ) (wagon : FreeWagon) → slice_get problem.wagons i ≡ Some wagon → i < length problem.wagons
  within i wagon at = slice_get_within problem.wagons i wagon at

-- ---- the least of some moments

pub least_more : (lasts : List ℕ) (k least less : ℕ) → k < length lasts → less ≡ min least (get_or lasts k 0) → All (λ end. least ≤ end) (take k lasts) → All (λ end. less ≤ end) (take (k + 1) lasts)
least_more lasts k least less within is all =
    subst (All (λ end. less ≤ end)) (sym (take_more lasts k 0 within))
    (All-push (λ end. less ≤ end) (take k lasts) (get_or lasts k 0) (All-weaker (λ end. least ≤ end) (λ end. less ≤ end) (λ end l. omega (arith, l, is)) (take k lasts) all) (omega (arith, is)))

pub least_all : (lasts : List ℕ) (k least : ℕ) → length lasts ≤ k → All (λ end. least ≤ end) (take k lasts) → All (λ end. least ≤ end) lasts
least_all lasts k least l all = subst (All (λ end. least ≤ end)) (take_all k lasts l) all

-- ---- what was made

-- a table of rows that last, and up to when it does
pub made_lasting : (net : NetworkValue) (problem : ProblemValue) (rows : List (List (ℕ × ℕ))) (lasts : List ℕ) (t : Table) (lasts' : List ℕ) → AreLastingRows net problem.at problem.wagons problem.orders rows lasts → t ≡ table_of_rows rows problem.orders → lasts' ≡ lasts → IsLastingTable net problem t lasts'
made_lasting net problem rows lasts t lasts' h is are = rw (is, are) (lasting_table net problem rows lasts h)

pub made_at : (net : NetworkValue) (problem : ProblemValue) (rows : List (List (ℕ × ℕ))) (lasts : List ℕ) (t : Table) (until m : ℕ) → AreLastingRows net problem.at problem.wagons problem.orders rows lasts → t ≡ table_of_rows rows problem.orders → All (λ end. until ≤ end) lasts → problem.at ≤ m → m ≤ until → IsTableOf net (record problem { at = m }) t
made_at net problem rows lasts t until m h is least from up =
    rw is (lasting_at net problem (table_of_rows rows problem.orders) lasts m (lasting_table net problem rows lasts h) from (All-weaker (λ end. until ≤ end) (λ end. m ≤ end) (λ end l. omega (arith, l, up)) lasts least))

pub made_now : (net : NetworkValue) (problem : ProblemValue) (rows : List (List (ℕ × ℕ))) (lasts : List ℕ) (t : Table) → AreLastingRows net problem.at problem.wagons problem.orders rows lasts → t ≡ table_of_rows rows problem.orders → IsTableOf net problem t
made_now net problem rows lasts t h is = rw is (lasting_at net problem (table_of_rows rows problem.orders) lasts problem.at (lasting_table net problem rows lasts h) (omega arith) h.within)
