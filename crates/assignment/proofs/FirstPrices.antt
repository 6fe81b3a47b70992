use Rattle.std.proofs.Common.{◌≡◌, ◌≢◌, ◌+◌, ◌<◌, ◌≤◌, ℕ, zero, suc, List, Option, Some, None, length, get_or, set, min, replicate, refl, sym, ◌∙◌, ap, arith, inl, inr, subst}
use Rattle.std.proofs.lemmas.Bool.{cases_eq}
use Rattle.cost_table.specs.Table.{Table, cost_at, wagon_count, order_count, penalty_at}
use Rattle.cost_table.specs.TableLimits.{IsTable, IsRow}
use Rattle.cost_table.specs.TableRows.{row_at}
use Rattle.assignment.specs.inner.Costs.{cell_cost, ArePricesOf, AreColumnsOf, cost_before, cost_within, cost_two}
use Rattle.assignment.specs.inner.State.{Kept, IsKept, order_at, orders_of}
use Rattle.assignment.proofs.CostSteps.{before_is, within_new, within_kept, within_whole, row_from}
use Rattle.assignment.proofs.TwoRows.{two_below, two_new, two_kept}
use Rattle.assignment.proofs.Writes.{same_at, other_at, written_length}
use Rattle.assignment.proofs.Limits.{cell_order, cell_wagon}

-- the same cells, told otherwise
columns_same : (t : Table) (cell cell' : ℕ → ℕ → Option ℕ) (costs v nearest : List ℕ) → ((i j : ℕ) → i < wagon_count t → j < order_count t → cell' i j ≡ cell i j) → AreColumnsOf t cell costs v nearest → AreColumnsOf t cell' costs v nearest
columns_same t cell cell' costs v nearest same h = record {
  costs = record { count = h.costs.count; each = λ i j li lj. h.costs.each i j li lj ∙ ap cell_cost (sym (same i j li lj)) };
  prices = record { count = h.prices.count; below_penalty = h.prices.below_penalty; below_cells = λ i j c li lj is. h.prices.below_cells i j c li lj (sym (same i j li lj) ∙ is) };
  hints = h.hints;
}

pub columns_whole : (t : Table) (n m : ℕ) (costs v nearest : List ℕ) → length (row_at t n) ≤ m → AreColumnsOf t (cost_within t n m) costs v nearest → AreColumnsOf t (cost_before t (n + 1)) costs v nearest
columns_whole t n m costs v nearest all = columns_same t (cost_within t n m) (cost_before t (n + 1)) costs v nearest (λ i j li lj. within_whole t n m i j all)

pub columns_all : (t : Table) (n : ℕ) (costs v nearest : List ℕ) → wagon_count t ≤ n → AreColumnsOf t (cost_before t n) costs v nearest → AreColumnsOf t (cost_at t) costs v nearest
columns_all t n costs v nearest all = columns_same t (cost_before t n) (cost_at t) costs v nearest (λ i j li lj. sym (before_is t n i j (omega arith)))

pub columns_both : (t : Table) (n m : ℕ) (costs v nearest : List ℕ) → order_count t ≤ m → AreColumnsOf t (cost_two t n m) costs v nearest → AreColumnsOf t (cost_before t (n + 2)) costs v nearest
columns_both t n m costs v nearest all = columns_same t (cost_two t n m) (cost_before t (n + 2)) costs v nearest (λ i j li lj. sym (two_below t n m i j (omega (arith, lj, all))))

-- one price is lowered
prices_lowered : (t : Table) (cell cell' : ℕ → ℕ → Option ℕ) (v v' : List ℕ) (k price : ℕ) → k < order_count t → v' ≡ set v k price → price ≤ get_or v k 0 → ((i j : ℕ) → j ≢ k → cell' i j ≡ cell i j) → ((i c : ℕ) → i < wagon_count t → cell' i k ≡ Some c → price ≤ c) → ArePricesOf t cell v → ArePricesOf t cell' v'
prices_lowered t cell cell' v v' k price lk e less kept here h =
    let count = h.count in
    let at : get_or v' k 0 ≡ price = same_at v v' k price 0 (omega (arith, lk, count)) e in
    let other : (j : ℕ) → j ≢ k → get_or v' j 0 ≡ get_or v j 0 = λ j apart. other_at v v' k price 0 j e apart in
    record {
      count = written_length v v' k price e ∙ count;
      below_penalty = λ j lj. elim (cases_eq j k) [
        | inl same ↦ subst (λ (y : ℕ). get_or v' y 0 ≤ penalty_at t y) (sym same) (let b = h.below_penalty k lk in omega (arith, at, less, b))
        | inr apart ↦ let b = h.below_penalty j lj in let o = other j apart in omega (arith, b, o)
      ];
      below_cells = λ i j c li lj is. elim (cases_eq j k) [
        | inl same ↦ let b = here i c li (ap (cell' i) (sym same) ∙ is) in let o = ap (λ y. get_or v' y 0) same in omega (arith, at, b, o)
        | inr apart ↦ let b = h.below_cells i j c li lj (sym (kept i j apart) ∙ is) in let o = other j apart in omega (arith, b, o)
      ];
    }

-- one cell more
prices_more : (t : Table) (n m : ℕ) (v v' : List ℕ) → IsRow (order_count t) 0 (row_at t n) → m < length (row_at t n) → ArePricesOf t (cost_within t n m) v → v' ≡ set v (get_or (row_at t n) m (0, 0)).0 (min (get_or v (get_or (row_at t n) m (0, 0)).0 0) (get_or (row_at t n) m (0, 0)).1) → ArePricesOf t (cost_within t n (m + 1)) v'
prices_more t n m v v' is lm h e =
    let cell = get_or (row_at t n) m (0, 0) in
    let k = cell.0 in
    let lk : k < order_count t = (row_from (order_count t) 0 m (row_at t n) is lm).1 in
    prices_lowered t (cost_within t n m) (cost_within t n (m + 1)) v v' k (min (get_or v k 0) cell.1) lk e (omega arith)
    (λ i j apart. within_kept t n m i j lm (λ _. apart))
    (λ i c li there. elim (cases_eq i n) [
      | inl same ↦ let both : Some cell.1 ≡ Some c = sym (within_new t n m is lm) ∙ ap (λ x. cost_within t n (m + 1) x k) (sym same) ∙ there in let one : cell.1 ≡ c = cc in omega (arith, one)
      | inr apart ↦ let b = h.below_cells i k c li lk (sym (within_kept t n m i k lm (λ same. absurd (apart same))) ∙ there) in omega (arith, b)
    ])
    h

-- the same where the row was read
pub prices_read : (t : Table) (n m : ℕ) (row : List (ℕ × ℕ)) (v v' : List ℕ) → row ≡ row_at t n → IsRow (order_count t) 0 row → m < length row → ArePricesOf t (cost_within t n m) v → v' ≡ set v (get_or row m (0, 0)).0 (min (get_or v (get_or row m (0, 0)).0 0) (get_or row m (0, 0)).1) → ArePricesOf t (cost_within t n (m + 1)) v'
prices_read t n m row v v' re is lm h e =
    subst (λ (r : List (ℕ × ℕ)). IsRow (order_count t) 0 r → m < length r → v' ≡ set v (get_or r m (0, 0)).0 (min (get_or v (get_or r m (0, 0)).0 0) (get_or r m (0, 0)).1) → ArePricesOf t (cost_within t n (m + 1)) v') (sym re)
    (λ is' lm' e'. prices_more t n m v v' is' lm' h e') is lm e

-- both cells of one order more
pub prices_two : (t : Table) (n m a b : ℕ) (v v' : List ℕ) → m < order_count t → cost_at t n m ≡ Some a → cost_at t (n + 1) m ≡ Some b → ArePricesOf t (cost_two t n m) v → v' ≡ set v m (min (get_or v m 0) (min a b)) → ArePricesOf t (cost_two t n (m + 1)) v'
prices_two t n m a b v v' lm first second h e =
    prices_lowered t (cost_two t n m) (cost_two t n (m + 1)) v v' m (min (get_or v m 0) (min a b)) lm e (omega arith)
    (λ i j apart. two_kept t n m i j (λ same. absurd (apart same)))
    (λ i c li there. elim (cases_eq i n) [
      | inl same ↦ let both : Some a ≡ Some c = sym (two_new t n m n (omega arith) ∙ first) ∙ ap (λ x. cost_two t n (m + 1) x m) (sym same) ∙ there in let one : a ≡ c = cc in omega (arith, one)
      | inr not_first ↦ elim (cases_eq i (n + 1)) [
        | inl same ↦ let both : Some b ≡ Some c = sym (two_new t n m (n + 1) (omega arith) ∙ second) ∙ ap (λ x. cost_two t n (m + 1) x m) (sym same) ∙ there in let one : b ≡ c = cc in omega (arith, one)
        | inr not_second ↦ let below = h.below_cells i m c li lm (sym (two_kept t n m i m (λ _. (not_first, not_second))) ∙ there) in omega (arith, below)
      ]
    ])
    h

-- what is kept before the first unit is taken in
pub kept_first : (s : Kept) → IsTable s.table → length s.u ≡ wagon_count s.table → length s.order_of ≡ wagon_count s.table → ((i : ℕ) → get_or s.u i 0 ≡ 0) → ((i : ℕ) (k : ℕ) → order_at s.order_of i ≡ Some k → ⊥) → ArePricesOf s.table (cost_at s.table) s.v → IsKept s
kept_first s legal lu lh unpriced none prices = record {
  table = legal;
  priced = record {
    wagons = lu;
    orders = prices.count;
    no_gap = λ i j c is. let p = prices.below_cells i j c (cell_wagon s.table i j c legal is) (cell_order s.table i j c legal is) is in omega (arith, p);
    below_penalty = prices.below_penalty;
  };
  held = record {
    wagons = lh;
    tight = λ i k is. absurd (none i k is);
    idle = λ i is. unpriced i;
  };
}

-- a wagon whose number stands for no order has none
pub no_orders : (n i : ℕ) → order_at (orders_of (replicate n 4294967295)) i ≡ None
no_orders zero i = refl
no_orders (suc n) zero = refl
no_orders (suc n) (suc i) = no_orders n i

pub all_same : {X : Type 0} (n i : ℕ) (a : X) → get_or (replicate n a) i a ≡ a
all_same zero i a = refl
all_same (suc n) zero a = refl
all_same (suc n) (suc i) a = all_same n i a
