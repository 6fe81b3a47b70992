use Rattle.std.proofs.Common.{◌∙◌, ◌≡◌, ◌++◌, [], ℕ, List, ap, drop, length, refl, rules, subst, sym, take}
use Rattle.cost_table.specs.RowParts.{cells_in}
use Rattle.cost_table.specs.SharedRows.{rows_in}
use Rattle.std.specs.Prelude.{slice_index_or}
use Rattle.problem_table.specs.declared.goals.ClassGoals.{ClassGoals}
use Rattle.problem_table.specs.inner.Goals.{AreGoalsOf, goals_from}
use Rattle.problem_table.specs.inner.Moved.{moved_cells}
use Rattle.problem_table.proofs.MovedLemmas.{along_ascends, along_so_far, came_part, later_within, none_later, steady_first}
use Rattle.problem_table.proofs.changed.move_row.Goals as goal

pub steady_cells-steady-requires : goal.steady_cells-steady-requires
steady_cells-steady-requires c = rw c.row-cells.ensures (along_ascends c.args.tables.now c.args.problem.now c.args.wagon.now c.args.moving.now.moved _ c.args.row.last c.requires.along c.requires.within)

pub move_later_cells-requires-clause-within : goal.move_later_cells-requires-clause-within
move_later_cells-requires-clause-within c =
    let row = slice_index_or (rows_in c.args.row.rows.now) c.args.row.at [] in
    rw (c.split_at.ensures.behind, c.row-cells.ensures) (later_within (length c.args.moving.now.moved.positions.items) row c.steady_cells-steady.result (along_ascends c.args.tables.now c.args.problem.now c.args.wagon.now c.args.moving.now.moved row c.args.row.last c.requires.along c.requires.within))

pub move_later_cells-requires-clause-none : goal.move_later_cells-requires-clause-none
move_later_cells-requires-clause-none c =
    let moved = c.args.moving.now.moved in
    let row = slice_index_or (rows_in c.args.row.rows.now) c.args.row.at [] in
    let steady = c.steady_cells-steady.result in
    let along = c.requires.along in
    λ all. rw (c.split_at.ensures.behind, c.row-cells.ensures) (none_later along.earlier c.args.problem.now.orders moved.positions.items moved.kept moved.steady along.are along.steady all (drop steady row) (rw c.row-cells.ensures at c.steady_cells-steady.ensures.behind)
    (later_within (length moved.positions.items) row steady (along_ascends c.args.tables.now c.args.problem.now c.args.wagon.now moved row c.args.row.last along c.requires.within)))

pub go_on-requires-clause-so_far : goal.go_on-requires-clause-so_far
go_on-requires-clause-so_far c =
    let net = c.args.tables.now in
    let moved = c.args.moving.now.moved in
    let came = drop moved.kept c.args.problem.now.orders in
    let found = rw (c.network.ensures, c.orders.ensures.orders, came_part moved.kept c.args.problem.now.orders) at (c.in_ok-class.ensures.found c.in_ok-class.class c.index.result.now c.in_ok-class.ensures.within) in
    let here : AreGoalsOf net moved.kept came c.index.result.now = subst (λ (one : ClassGoals). AreGoalsOf net moved.kept came one) (sym c.index.ensures) found in
    let class = ap (λ (one : ClassGoals). one.class) c.index.ensures ∙ c.in_ok-class.ensures.class c.index.result.now in
    let row = slice_index_or (rows_in c.args.row.rows.now) c.args.row.at [] in
    let steady = c.steady_cells-steady.result in
    let front : cells_in c.split_at.result.0 ≡ take steady row = c.split_at.ensures.front ∙ ap (take steady) c.row-cells.ensures in
    let behind : cells_in c.split_at.result.1 ≡ drop steady row = c.split_at.ensures.behind ∙ ap (drop steady) c.row-cells.ensures in
    let more : c.move_later_cells.new.entries.items ≡ moved_cells moved.positions.items moved.kept (drop steady row) =
    c.in_ok-move_later_cells.ensures ∙ rw (c.clear.ensures.items, behind) refl in
    let cells : cells_in c.split_at.result.0 ++ c.move_later_cells.new.entries.items ≡ moved_cells moved.positions.items moved.kept row =
    rw (front, more) (steady_first moved.positions.items moved.kept moved.steady row steady c.requires.along.steady (rw c.row-cells.ensures at c.steady_cells-steady.ensures.before)) in
    along_so_far net c.args.problem.now c.args.wagon.now moved row _ c.args.row.last _ c.requires.along cells
    (c.deref.ensures.value ∙ (here ∙ ap (λ (of : List ℕ). goals_from net of moved.kept came) class))

pub returns-clause-row : goal.returns-clause-row
returns-clause-row c =
    let row = slice_index_or (rows_in c.args.row.rows.now) c.args.row.at [] in
    let steady = c.steady_cells-steady.result in
    let front : cells_in c.split_at.result.0 ≡ take steady row = c.split_at.ensures.front ∙ ap (take steady) c.row-cells.ensures in
    let more = c.in_ok-push_moved.ensures in
    record {
      row = take steady row ++ c.go_on.new.entries.items;
      last = c.in_ok-last.last;
      more = record { shared = more.shared; placed = more.placed; rows = rw c.deref-2.ensures.value at more.rows; moments = search rules };
      within = c.in_ok-last.ensures.within;
      is = rw front at c.in_ok-last.ensures.row;
    }

pub returns-clause-came : goal.returns-clause-came
returns-clause-came c = rw (c.network.ensures, c.orders.ensures.orders, came_part c.args.moving.now.moved.kept c.args.problem.now.orders) at c.in_ok-class.ensures.found
