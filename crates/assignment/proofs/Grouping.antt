-- What the wagons of a group have in common.
use Rattle.std.proofs.Common.{◌≡◌, ◌<◌, ℕ, List, [], length, get_or, sym, ◌∙◌, ap}
use Rattle.std.proofs.lemmas.List.{length-map, get_or-map}
use Rattle.cost_table.specs.Table.{Table, cost_at, costs_at, wagon_count}
use Rattle.cost_table.specs.TableRows.{cells_of, cost_in, row_at}
use Rattle.cost_table.proofs.TableRowLemmas.{cost_by_row}
use Rattle.assignment.specs.declared.groups.Groups.{Groups}
use Rattle.assignment.specs.inner.Groups.{AreFirst, AreGroups, group_in, group_table, prices_of}

-- the row of a group
pub group_row : (t : Table) (first : List ℕ) (g : ℕ) → g < length first → row_at (group_table t first) g ≡ row_at t (get_or first g 0)
group_row t first g l = ap (cells_of 0) (get_or-map (costs_at t) first g 0 [] l)

-- the cells of a group are those of each of its wagons
pub group_cells : (t : Table) (groups : Groups) (i k : ℕ) → AreGroups t groups → i < wagon_count t → cost_at (group_table t groups.first.items) (group_in groups i) k ≡ cost_at t i k
group_cells t groups i k h l =
    cost_by_row (group_table t groups.first.items) (group_in groups i) k
    ∙ (ap (λ r. cost_in r k) (group_row t groups.first.items (group_in groups i) (h.group i l) ∙ sym (h.row i l)) ∙ sym (cost_by_row t i k))

pub group_price : (groups : List ℕ) (u : List ℕ) (i : ℕ) → i < length groups → get_or (prices_of groups u) i 0 ≡ get_or u (get_or groups i 0) 0
group_price groups u i l = get_or-map (λ g. get_or u g 0) groups i 0 0 l

pub group_count : (t : Table) (first : List ℕ) → wagon_count (group_table t first) ≡ length first
group_count t first = length-map first (costs_at t)

pub are_first : (t : Table) (groups : Groups) → AreGroups t groups → AreFirst t groups.first.items
are_first t groups h = record { few = h.few; within = h.first_within }
