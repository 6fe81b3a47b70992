-- Rows whose cells go along with their orders.
use Rattle.std.proofs.Common.{◌≡◌, ◌+◌, ◌<◌, ◌≤◌, ◌∙◌, ℕ, Bool, true, false, cond, Option, Some, inl, inr, List, [], ◌∷◌, ◌++◌, length, get_or, take, drop, refl, sym, ap, subst, arith, length-drop, length-take-le, ◌-◌, zero, suc}
use Rattle.std.specs.Prelude.{◌↔◌, ◌==◌, nat_lt, All, slice_get}
use Rattle.std.proofs.Math.Seq.{drop-append-add}
use Rattle.std.proofs.lemmas.List.{get_or-append_right, get_or-take, drop-append-le, drop_all, drop_more, length-append, take-append-drop, take_all}
use Rattle.std.proofs.lemmas.List.Elements.{All-append, All-cons, All-drop, All-head, All-nil, All-tail, filter_map-append}
use Rattle.std.proofs.lemmas.Bool.{cases_lt}
use Rattle.std.proofs.lemmas.Bool.Decides.{nat_tests}
use Rattle.std.proofs.lemmas.Option.{slice_get_within}
use Rattle.wagons_and_orders.specs.declared.free_wagon.FreeWagon.{FreeWagon}
use Rattle.wagons_and_orders.specs.Wanted.{WantedOrder}
use Rattle.line_network.specs.Network.{NetworkValue}
use Rattle.cost_table.specs.Problem.{ProblemValue}
use Rattle.cost_table.specs.TableLimits.{IsRow}
use Rattle.cost_table.specs.TableRows.{cost_in}
use Rattle.problem_table.specs.Allowed.{Reaches}
use Rattle.problem_table.specs.declared.goals.Goal.{Goal}
use Rattle.problem_table.specs.declared.moved.Moved.{Moved}
use Rattle.problem_table.specs.inner.AllowedRows.{IsLastingRow, IsRowOf}
use Rattle.problem_table.specs.inner.Goals.{goals_from}
use Rattle.problem_table.specs.inner.Moved.{AreMoved, AreSteady, GoesAlong, HaveSameTexts, moved_cell, moved_cells}
use Rattle.problem_table.specs.inner.RowsSoFar.{RowSoFar}
use Rattle.problem_table.proofs.AllowedLemmas.{same_some, slice_get-take, some_at}

-- what stands at a position is one thing
same_at : {X : Type 0} (xs : List X) (i : ℕ) (x y : X) → slice_get xs i ≡ Some x → slice_get xs i ≡ Some y → x ≡ y
same_at xs i x y h g = same_some x y (sym h ∙ g)

iff_of : {P Q : Type 0} (a b : Option ℕ) (km : ℕ) → a ≡ b → P ≡ Q → (b ≡ Some km) ↔ P → (a ≡ Some km) ↔ Q
iff_of a b km e s h = (λ i. subst (λ (T : Type 0). T) s (h.0 (sym e ∙ i)), λ q. e ∙ h.1 (subst (λ (T : Type 0). T) (sym s) q))

module _ (positions : List ℕ) (kept : ℕ) where
  -- a cell whose order stays, and one whose order is gone
  stays : (cell : ℕ × ℕ) (row : List (ℕ × ℕ)) → get_or positions cell.0 0 < kept → moved_cells positions kept (cell ∷ row) ≡ (get_or positions cell.0 0, cell.1) ∷ moved_cells positions kept row
  stays cell row l = by (nat_lt (get_or positions cell.0 0) kept) refl where
    by : (b : Bool) → nat_lt (get_or positions cell.0 0) kept ≡ b → moved_cells positions kept (cell ∷ row) ≡ (get_or positions cell.0 0, cell.1) ∷ moved_cells positions kept row
    by true e = rw e refl
    by false e = absurd (grind (arith, nat_tests, e, l))

  goes : (cell : ℕ × ℕ) (row : List (ℕ × ℕ)) → kept ≤ get_or positions cell.0 0 → moved_cells positions kept (cell ∷ row) ≡ moved_cells positions kept row
  goes cell row l = by (nat_lt (get_or positions cell.0 0) kept) refl where
    by : (b : Bool) → nat_lt (get_or positions cell.0 0) kept ≡ b → moved_cells positions kept (cell ∷ row) ≡ moved_cells positions kept row
    by true e = absurd (grind (arith, nat_tests, e, l))
    by false e = rw e refl

  module _ (count : ℕ) (ascend : (i j : ℕ) → i < j → j < count → get_or positions i 0 < kept → get_or positions j 0 < kept → get_or positions i 0 < get_or positions j 0) where
    -- moved cells ascend
    pub moved_ascend : (low low' : ℕ) (row : List (ℕ × ℕ)) → IsRow count low row → ((i : ℕ) → low ≤ i → i < count → get_or positions i 0 < kept → low' ≤ get_or positions i 0) → IsRow kept low' (moved_cells positions kept row)
    moved_ascend low low' [] h above = tt
    moved_ascend low low' (cell ∷ row) h above = elim (cases_lt (get_or positions cell.0 0) kept) [
      | inl l ↦
          let rest = moved_ascend (cell.0 + 1) (get_or positions cell.0 0 + 1) row h.3 (λ i from within here. let more = ascend cell.0 i (omega (arith, from)) within l here in omega (arith, more)) in
          subst (IsRow kept low') (sym (stays cell row l)) (above cell.0 h.0 h.1 l, l, h.2, rest)
      | inr l ↦
          subst (IsRow kept low') (sym (goes cell row l)) (moved_ascend (cell.0 + 1) low' row h.3 (λ i from within here. above i (omega (arith, from, h.0)) within here))
    ]

    -- a moved row has at an order's new position what the row has at the earlier one
    pub moved_cost : (i : ℕ) → i < count → get_or positions i 0 < kept → (low : ℕ) (row : List (ℕ × ℕ)) → IsRow count low row → cost_in (moved_cells positions kept row) (get_or positions i 0) ≡ cost_in row i
    moved_cost i within here low [] h = refl
    moved_cost i within here low (cell ∷ row) h = elim (cases_lt (get_or positions cell.0 0) kept) [
      | inl l ↦
          let rest = moved_cost i within here (cell.0 + 1) row h.3 in
          ap (λ cells. cost_in cells (get_or positions i 0)) (stays cell row l)
          ∙ (ap (λ (o : Option ℕ). cond (get_or positions cell.0 0 == get_or positions i 0) (Some cell.1) o) rest
          ∙ ap (λ (b : Bool). cond b (Some cell.1) (cost_in row i)) (same_test cell.0 h.1 l))
      | inr l ↦
          let rest = moved_cost i within here (cell.0 + 1) row h.3 in
          ap (λ cells. cost_in cells (get_or positions i 0)) (goes cell row l)
          ∙ (rest ∙ ap (λ (b : Bool). cond b (Some cell.1) (cost_in row i)) (sym (other_test cell.0 l)))
    ] where
      same_test : (c : ℕ) → c < count → get_or positions c 0 < kept → (get_or positions c 0 == get_or positions i 0) ≡ (c == i)
      same_test c l k = elim (cases_lt c i) [
        | inl below ↦ let less = ascend c i below within k here in grind (arith, nat_tests, less, below)
        | inr not_below ↦ elim (cases_lt i c) [
          | inl above ↦ let more = ascend i c above l here k in grind (arith, nat_tests, more, above)
          | inr not_above ↦ let at : c ≡ i = omega (arith, not_below, not_above) in rw at (both i)
        ]
      ] where
        both : (i : ℕ) → (get_or positions i 0 == get_or positions i 0) ≡ (i == i)
        both i = grind (arith, nat_tests)

      other_test : (c : ℕ) → kept ≤ get_or positions c 0 → (c == i) ≡ false
      other_test c gone = by (c == i) refl where
        by : (b : Bool) → (c == i) ≡ b → b ≡ false
        by false e = refl
        by true e = let same : c ≡ i = grind (arith, nat_tests, e) in absurd (omega (arith, gone, here, ap (λ (k : ℕ). get_or positions k 0) same))

-- the cells of a row ascend
from_low : (count low : ℕ) (row : List (ℕ × ℕ)) → IsRow count low row → (k : ℕ) (d : ℕ × ℕ) → k < length row → low ≤ (get_or row k d).0
from_low count low [] h k d l = absurd (omega arith)
from_low count low (cell ∷ row) h zero d l = h.0
from_low count low (cell ∷ row) h (suc k) d l = let more = from_low count (cell.0 + 1) row h.3 k d (omega arith) in omega (arith, more, h.0)

-- so those up to one are of orders before another where that one is
before_up_to : (count low order : ℕ) (row : List (ℕ × ℕ)) → IsRow count low row → (k : ℕ) (d : ℕ × ℕ) → k < length row → (get_or row k d).0 < order → All (λ (cell : ℕ × ℕ). cell.0 < order) (take (suc k) row)
before_up_to count low order [] h k d l is = absurd (omega arith)
before_up_to count low order (cell ∷ row) h zero d l is = All-cons (λ (cell : ℕ × ℕ). cell.0 < order) cell [] is (All-nil (λ (cell : ℕ × ℕ). cell.0 < order))
before_up_to count low order (cell ∷ row) h (suc k) d l is =
    let more = from_low count (cell.0 + 1) row h.3 k d (omega arith) in
    All-cons (λ (cell : ℕ × ℕ). cell.0 < order) cell (take (suc k) row) (omega (arith, more, is)) (before_up_to count (cell.0 + 1) order row h.3 k d (omega arith) is)

pub first_before : (count order : ℕ) (row : List (ℕ × ℕ)) → IsRow count 0 row → (k : ℕ) → 1 ≤ k → k ≤ length row → (d : ℕ × ℕ) → (get_or row (k - 1) d).0 < order → All (λ (cell : ℕ × ℕ). cell.0 < order) (take k row)
first_before count order row h k some within d is =
    let next : suc (k - 1) ≡ k = omega (arith, some) in
    subst (λ (n : ℕ). All (λ (cell : ℕ × ℕ). cell.0 < order) (take n row)) next (before_up_to count 0 order row h (k - 1) d (omega (arith, some, within)) is)

-- cells of orders that stand where they stood stay as they are
steady_same : (positions : List ℕ) (kept steady : ℕ) → AreSteady positions kept steady → (row : List (ℕ × ℕ)) → All (λ (cell : ℕ × ℕ). cell.0 < steady) row → moved_cells positions kept row ≡ row
steady_same positions kept steady h [] all = refl
steady_same positions kept steady h (cell ∷ row) all =
    let here = h cell.0 (All-head (λ (cell : ℕ × ℕ). cell.0 < steady) cell row all) in
    stays positions kept cell row (omega (arith, here.0, here.1))
    ∙ (ap (λ (position : ℕ). (position, cell.1) ∷ moved_cells positions kept row) here.0 ∙ ap (λ (cells : List (ℕ × ℕ)). cell ∷ cells) (steady_same positions kept steady h row (All-tail (λ (cell : ℕ × ℕ). cell.0 < steady) cell row all)))

-- each cell of a row is of an order
pub cells_within : (count low : ℕ) (row : List (ℕ × ℕ)) → IsRow count low row → (k : ℕ) (d : ℕ × ℕ) → k < length row → (get_or row k d).0 < count
cells_within count low [] h k d l = absurd (omega arith)
cells_within count low (cell ∷ row) h zero d l = h.1
cells_within count low (cell ∷ row) h (suc k) d l = cells_within count (cell.0 + 1) row h.3 k d (omega arith)

pub later_within : (count : ℕ) (row : List (ℕ × ℕ)) (first : ℕ) → IsRow count 0 row → All (λ (cell : ℕ × ℕ). cell.0 < count) (drop first row)
later_within count row first h = All-drop (λ (cell : ℕ × ℕ). cell.0 < count) first row (cells_within count 0 row h)

-- the cells behind the last one, and one cell more before those that are behind
pub behind_none : (steady : ℕ) (row : List (ℕ × ℕ)) (k : ℕ) → length row ≤ k → All (λ (cell : ℕ × ℕ). steady ≤ cell.0) (drop k row)
behind_none steady row k past = subst (All (λ (cell : ℕ × ℕ). steady ≤ cell.0)) (sym (drop_all k row past)) (All-nil (λ (cell : ℕ × ℕ). steady ≤ cell.0))

pub one_behind : (steady : ℕ) (row : List (ℕ × ℕ)) (later : ℕ) (d : ℕ × ℕ) → later < length row → steady ≤ (get_or row (length row - later - 1) d).0 → All (λ (cell : ℕ × ℕ). steady ≤ cell.0) (drop (length row - later) row) → All (λ (cell : ℕ × ℕ). steady ≤ cell.0) (drop (length row - (later + 1)) row)
one_behind steady row later d within here h =
    let k = length row - later - 1 in
    let next : k + 1 ≡ length row - later = omega (arith, within) in
    let same : length row - (later + 1) ≡ k = omega (arith, within) in
    subst (λ (n : ℕ). All (λ (cell : ℕ × ℕ). steady ≤ cell.0) (drop n row)) (sym same)
    (subst (All (λ (cell : ℕ × ℕ). steady ≤ cell.0)) (sym (drop_more row k d (omega (arith, within))))
    (All-cons (λ (cell : ℕ × ℕ). steady ≤ cell.0) (get_or row k d) (drop (k + 1) row) here (subst (λ (n : ℕ). All (λ (cell : ℕ × ℕ). steady ≤ cell.0) (drop n row)) (sym next) h)))

-- where each order that stays stands where it stood, no order behind those stays
none_stays : (earlier orders : List WantedOrder) (positions : List ℕ) (kept steady : ℕ) → AreMoved earlier orders positions kept → AreSteady positions kept steady → kept ≤ steady → (i : ℕ) → steady ≤ i → i < length positions → kept ≤ get_or positions i 0
none_stays earlier orders positions kept steady are h all i behind within = elim (cases_lt (get_or positions i 0) kept) [
  | inl stays ↦
      let place = get_or positions i 0 in
      let at = h place (omega (arith, stays, all)) in
      let less = are.ascend place i (omega (arith, stays, all, behind)) (omega (arith, within, are.count)) (omega (arith, at.0, stays)) stays in
      absurd (omega (arith, less, at.0))
  | inr gone ↦ gone
]

-- then no cell of theirs stays either
pub none_later : (earlier orders : List WantedOrder) (positions : List ℕ) (kept steady : ℕ) → AreMoved earlier orders positions kept → AreSteady positions kept steady → kept ≤ steady → (row : List (ℕ × ℕ))
    → All (λ (cell : ℕ × ℕ). steady ≤ cell.0) row → All (λ (cell : ℕ × ℕ). cell.0 < length positions) row → moved_cells positions kept row ≡ []
none_later earlier orders positions kept steady are h all [] behind within = refl
none_later earlier orders positions kept steady are h all (cell ∷ row) behind within =
    let here = none_stays earlier orders positions kept steady are h all cell.0 (All-head (λ (one : ℕ × ℕ). steady ≤ one.0) cell row behind) (All-head (λ (one : ℕ × ℕ). one.0 < length positions) cell row within) in
    goes positions kept cell row here ∙ none_later earlier orders positions kept steady are h all row (All-tail (λ (one : ℕ × ℕ). steady ≤ one.0) cell row behind) (All-tail (λ (one : ℕ × ℕ). one.0 < length positions) cell row within)

-- a row whose first cells stay as they are
pub steady_first : (positions : List ℕ) (kept steady : ℕ) (row : List (ℕ × ℕ)) (first : ℕ) → AreSteady positions kept steady → All (λ (cell : ℕ × ℕ). cell.0 < steady) (take first row) → take first row ++ moved_cells positions kept (drop first row) ≡ moved_cells positions kept row
steady_first positions kept steady row first h all =
    ap (λ (cells : List (ℕ × ℕ)). cells ++ moved_cells positions kept (drop first row)) (sym (steady_same positions kept steady h (take first row) all))
    ∙ (sym (filter_map-append (moved_cell positions kept) (take first row) (drop first row)) ∙ ap (moved_cells positions kept) (take-append-drop first row))

-- ---- cells that stand in two places

-- none of the others is of the first orders
pub behind_first : (steady : ℕ) (first rest : List (ℕ × ℕ)) (count : ℕ) → count ≤ length first → All (λ (cell : ℕ × ℕ). steady ≤ cell.0) (drop count first) → All (λ (cell : ℕ × ℕ). steady ≤ cell.0) (drop 0 rest) → All (λ (cell : ℕ × ℕ). steady ≤ cell.0) (drop count (first ++ rest))
behind_first steady first rest count within all others =
    subst (All (λ (cell : ℕ × ℕ). steady ≤ cell.0)) (sym (drop-append-le count first rest within)) (All-append (λ (cell : ℕ × ℕ). steady ≤ cell.0) (drop count first) rest all others)

-- some of the others are
pub before_rest : (orders steady : ℕ) (first rest : List (ℕ × ℕ)) (count : ℕ) → IsRow orders 0 (first ++ rest) → 1 ≤ count → count ≤ length rest → All (λ (cell : ℕ × ℕ). cell.0 < steady) (take count rest)
    → All (λ (cell : ℕ × ℕ). cell.0 < steady) (take (length first + count) (first ++ rest))
before_rest orders steady first rest count is some within all =
    let d : ℕ × ℕ = (0, 0) in
    let n = length first + count in
    let last : get_or (take count rest) (count - 1) d ≡ get_or rest (count - 1) d = get_or-take count rest (count - 1) d (omega (arith, some)) in
    let back : n - 1 - length first ≡ count - 1 = omega (arith, some) in
    let there : get_or (first ++ rest) (n - 1) d ≡ get_or rest (count - 1) d = get_or-append_right first rest (length first) (n - 1) d refl (omega (arith, some)) ∙ ap (λ (k : ℕ). get_or rest k d) back in
    let below : (get_or (take count rest) (count - 1) d).0 < steady = all (count - 1) d (omega (arith, some, within, length-take-le count rest within)) in
    let here : (get_or (first ++ rest) (n - 1) d).0 < steady = subst (λ (cell : ℕ × ℕ). cell.0 < steady) (last ∙ sym there) below in
    first_before orders steady (first ++ rest) is n (omega (arith, some)) (omega (arith, within, length-append first rest)) d here

pub behind_rest : (steady : ℕ) (first rest : List (ℕ × ℕ)) (count : ℕ) → All (λ (cell : ℕ × ℕ). steady ≤ cell.0) (drop count rest) → All (λ (cell : ℕ × ℕ). steady ≤ cell.0) (drop (length first + count) (first ++ rest))
behind_rest steady first rest count all = subst (All (λ (cell : ℕ × ℕ). steady ≤ cell.0)) (sym (drop-append-add first rest count)) all

module _ (R : WantedOrder → ℕ → Type 0) (same : (one other : WantedOrder) (km : ℕ) → other.order ≡ one.order → R one km ≡ R other km) where
  -- a row goes along with its orders
  pub moved_row : (earlier orders : List WantedOrder) (positions : List ℕ) (kept : ℕ) (row : List (ℕ × ℕ)) → AreMoved earlier orders positions kept → IsRowOf R earlier row → IsRowOf R (take kept orders) (moved_cells positions kept row)
  moved_row earlier orders positions kept row h is =
      let short : length (take kept orders) ≡ kept = length-take-le kept orders h.within in
      record {
        ascends = subst (λ (n : ℕ). IsRow n 0 (moved_cells positions kept row)) (sym short)
            (moved_ascend positions kept (length earlier) h.ascend 0 0 row is.ascends (λ i from within here. omega arith));
        cells = λ k km wanted there. at k km wanted there (omega (arith, slice_get_within (take kept orders) k wanted there, short));
      } where
        at : (k km : ℕ) (wanted : WantedOrder) → slice_get (take kept orders) k ≡ Some wanted → k < kept → (cost_in (moved_cells positions kept row) k ≡ Some km) ↔ R wanted km
        at k km wanted there within =
            let source = h.from k within in
            let one = some_at earlier source.0 source.1 in
            let stays_here : get_or positions source.0 0 < kept = omega (arith, source.2, within) in
            let to : slice_get orders (get_or positions source.0 0) ≡ Some wanted = ap (slice_get orders) source.2 ∙ slice_get-take kept orders k wanted there in
            let order = h.each source.0 one.0 wanted one.1 stays_here to in
            let cost = ap (cost_in (moved_cells positions kept row)) (sym source.2) ∙ moved_cost positions kept (length earlier) h.ascend source.0 source.1 stays_here 0 row is.ascends in
            iff_of _ (cost_in row source.0) km cost (same one.0 wanted km order) (is.cells source.0 km one.0 one.1)

  -- a row over the same orders, whatever they lack
  pub same_row : (earlier orders : List WantedOrder) (row : List (ℕ × ℕ)) → HaveSameTexts earlier orders → IsRowOf R earlier row → IsRowOf R orders row
  same_row earlier orders row h is = record {
    ascends = subst (λ (n : ℕ). IsRow n 0 row) h.count is.ascends;
    cells = λ k km wanted there.
        let one = some_at earlier k (omega (arith, h.count, slice_get_within orders k wanted there)) in
        iff_of _ (cost_in row k) km refl (same one.0 wanted km (h.each k one.0 wanted one.1 there)) (is.cells k km one.0 one.1);
  }

-- which order a wagon reaches is a matter of its text
pub by_text : (net : NetworkValue) (m : ℕ) (wagon : FreeWagon) (one other : WantedOrder) (km : ℕ) → other.order ≡ one.order → Reaches net m wagon one.order km ≡ Reaches net m wagon other.order km
by_text net m wagon one other km h = rw h refl

-- the orders from a position on, as a part of all
pub came_part : (k : ℕ) (orders : List WantedOrder) → take (length orders - k) (drop k orders) ≡ drop k orders
came_part k orders = take_all (length orders - k) (drop k orders) (omega (arith, length-drop k orders))

-- a row that goes along is one over the earlier orders
pub along_ascends : (net : NetworkValue) (problem : ProblemValue) (wagon : FreeWagon) (moved : Moved) (row : List (ℕ × ℕ)) (last : ℕ) → GoesAlong problem net wagon moved row last → problem.at ≤ last → IsRow (length moved.positions.items) 0 row
along_ascends net problem wagon moved row last h within = subst (λ (n : ℕ). IsRow n 0 row) (sym h.are.count) (h.is problem.at (omega arith) within).ascends

-- a row that went along, before the goals of the orders that came
pub along_so_far : (net : NetworkValue) (problem : ProblemValue) (wagon : FreeWagon) (moved : Moved) (row now : List (ℕ × ℕ)) (last : ℕ) (goals : List Goal)
    → GoesAlong problem net wagon moved row last → now ≡ moved_cells moved.positions.items moved.kept row → goals ≡ goals_from net wagon.class moved.kept (drop moved.kept problem.orders)
    → (m : ℕ) → problem.at ≤ m → m ≤ last → RowSoFar net m wagon problem.orders goals [] now
along_so_far net problem wagon moved row now last goals h is left m from up =
    let short : length (take moved.kept problem.orders) ≡ moved.kept = length-take-le moved.kept problem.orders h.are.within in
    record {
      before = take moved.kept problem.orders;
      later = drop moved.kept problem.orders;
      all = take-append-drop moved.kept problem.orders;
      left_is = left ∙ ap (λ (k : ℕ). goals_from net wagon.class k (drop moved.kept problem.orders)) (sym short);
      row = record {
        row = moved_cells moved.positions.items moved.kept row;
        behind = is;
        is = moved_row (λ (wanted : WantedOrder). Reaches net m wagon wanted.order) (by_text net m wagon) h.earlier problem.orders moved.positions.items moved.kept row h.are (h.is m from up);
      };
    }

pub same_lasting_row : (net : NetworkValue) (at : ℕ) (wagon : FreeWagon) (earlier orders : List WantedOrder) (row : List (ℕ × ℕ)) (end : ℕ) → HaveSameTexts earlier orders → IsLastingRow net at wagon earlier row end → IsLastingRow net at wagon orders row end
same_lasting_row net at wagon earlier orders row end same h = λ m from up. same_row (λ (wanted : WantedOrder). Reaches net m wagon wanted.order) (by_text net m wagon) earlier orders row same (h m from up)
