-- The cells of a group's row are placed one after another, wherever the row is split.
use Rattle.std.proofs.Common.{◌≡◌, ◌+◌, ◌*◌, ◌<◌, ◌++◌, ℕ, List, length, get_or, set, min, refl, sym, ◌∙◌, ap, arith, subst, length-append, get_or-append-add}
use Rattle.std.proofs.lemmas.List.{get_or_append_left}
use Rattle.cost_table.specs.Table.{Table, wagon_count, order_count}
use Rattle.cost_table.specs.TableLimits.{IsRow}
use Rattle.cost_table.specs.TableRows.{row_at}
use Rattle.assignment.specs.inner.Costs.{AreColumnsOf, cost_within}
use Rattle.assignment.specs.inner.Groups.{group_table}
use Rattle.assignment.proofs.CostSteps.{more_read, place_read, row_from}
use Rattle.assignment.proofs.FirstPrices.{prices_read}
use Rattle.assignment.proofs.Grouping.{group_count, group_row}

-- this is the cell at place m of wagon n's row
pub record IsCellAt (t : Table) (n w m : ℕ) (cell : ℕ × ℕ) : Type 0 where
  pub wagons : w ≡ wagon_count t
  pub wagon : n < wagon_count t
  pub row : IsRow (order_count t) 0 (row_at t n)
  pub within : m < length (row_at t n)
  pub is : get_or (row_at t n) m (0, 0) ≡ cell

-- the cells of a row that is split
cell_at : (t : Table) (first : List ℕ) (g m : ℕ) (row : List (ℕ × ℕ)) (cell : ℕ × ℕ) → g < length first → row ≡ row_at t (get_or first g 0) → IsRow (order_count t) 0 row → m < length row → get_or row m (0, 0) ≡ cell → IsCellAt (group_table t first) g (length first) m cell
cell_at t first g m row cell l is legal lm at =
    let same : row ≡ row_at (group_table t first) g = is ∙ sym (group_row t first g l) in
    let count = group_count t first in
    record {
      wagons = sym count;
      wagon = omega (arith, l, count);
      row = subst (IsRow (order_count t) 0) same legal;
      within = subst (λ (r : List (ℕ × ℕ)). m < length r) same lm;
      is = ap (λ r. get_or r m (0, 0)) (sym same) ∙ at;
    }

pub front_cell : (t : Table) (first : List ℕ) (g x : ℕ) (front behind : List (ℕ × ℕ)) → g < length first → front ++ behind ≡ row_at t (get_or first g 0) → IsRow (order_count t) 0 (front ++ behind) → x < length front → IsCellAt (group_table t first) g (length first) x (get_or front x (0, 0))
front_cell t first g x front behind l is legal lx =
    let count = length-append front behind in
    cell_at t first g x (front ++ behind) (get_or front x (0, 0)) l is legal (omega (arith, lx, count)) (get_or_append_left front behind (0, 0) x lx)

pub behind_cell : (t : Table) (first : List ℕ) (g m x : ℕ) (front behind : List (ℕ × ℕ)) → g < length first → front ++ behind ≡ row_at t (get_or first g 0) → IsRow (order_count t) 0 (front ++ behind) → x < length behind → m ≡ length front + x → IsCellAt (group_table t first) g (length first) m (get_or behind x (0, 0))
behind_cell t first g m x front behind l is legal lx em =
    let count = length-append front behind in
    cell_at t first g m (front ++ behind) (get_or behind x (0, 0)) l is legal (omega (arith, lx, count, em)) (ap (λ k. get_or (front ++ behind) k (0, 0)) em ∙ get_or-append-add front behind x (0, 0))

-- where a cell's cost and its order's price stand
pub cell_room : (t : Table) (n w m : ℕ) (cell : ℕ × ℕ) (costs v nearest : List ℕ) → IsCellAt t n w m cell → AreColumnsOf t (cost_within t n m) costs v nearest → (cell.0 * w + n < length costs) × (cell.0 < length v)
cell_room t n w m cell costs v nearest at h =
    let k = (row_from (order_count t) 0 m (row_at t n) at.row at.within).1 in
    let count = h.prices.count in
    subst (λ (c : ℕ × ℕ). (c.0 * w + n < length costs) × (c.0 < length v)) at.is (place_read t n m w (row_at t n) costs refl at.wagons at.wagon at.row at.within h.costs.count, omega (arith, k, count))

-- one cell more is placed
pub cell_placed : (t : Table) (n w m : ℕ) (cell : ℕ × ℕ) (costs costs' v v' nearest nearest' : List ℕ) → IsCellAt t n w m cell → AreColumnsOf t (cost_within t n m) costs v nearest → costs' ≡ set costs (cell.0 * w + n) cell.1 → v' ≡ set v cell.0 (min (get_or v cell.0 0) cell.1) → length nearest' ≡ length nearest → AreColumnsOf t (cost_within t n (m + 1)) costs' v' nearest'
cell_placed t n w m cell costs costs' v v' nearest nearest' at h put lowered hints = record {
  costs = more_read t n m w (row_at t n) costs costs' refl at.wagons at.wagon at.row at.within h.costs (subst (λ (c : ℕ × ℕ). costs' ≡ set costs (c.0 * w + n) c.1) (sym at.is) put);
  prices = prices_read t n m (row_at t n) v v' refl at.row at.within h.prices (subst (λ (c : ℕ × ℕ). v' ≡ set v c.0 (min (get_or v c.0 0) c.1)) (sym at.is) lowered);
  hints = hints ∙ h.hints;
}
