use Rattle.std.proofs.Common.{◌∙◌, ◌++◌, ◌<◌, ℕ, List, length, append-nil, append_assoc, ap, sym}
use Rattle.std.proofs.lemmas.List.Elements.{filter_map-append}
use Rattle.cost_table.proofs.PartLemmas.{first_all, rest_all}
use Rattle.problem_table.specs.inner.Moved.{moved_cell, moved_cells}
use Rattle.problem_table.proofs.moved.move_later_cells.Goals as goal

pub returns-then-moved : goal.returns-then-moved
returns-then-moved c = sym (ap (λ (more : List (ℕ × ℕ)). c.args.entries.now.items ++ more) (c.requires.none c.if-moved.true) ∙ append-nil c.args.entries.now.items)

pub move_cells-requires : goal.move_cells-requires
move_cells-requires c = first_all (λ (cell : ℕ × ℕ). cell.0 < length c.args.moved.now.positions.items) c.args.later.first.now c.args.later.rest.now c.requires.within

pub move_cells-requires-2 : goal.move_cells-requires-2
move_cells-requires-2 c = rest_all (λ (cell : ℕ × ℕ). cell.0 < length c.args.moved.now.positions.items) c.args.later.first.now c.args.later.rest.now c.requires.within

pub returns : goal.returns
returns c =
    let moved = moved_cells c.args.moved.now.positions.items c.args.moved.now.kept in
    let all = filter_map-append (moved_cell c.args.moved.now.positions.items c.args.moved.now.kept) c.args.later.first.now c.args.later.rest.now in
    rw (all, ← append_assoc c.args.entries.now.items (moved c.args.later.first.now) (moved c.args.later.rest.now), ← c.in_ok-move_cells.ensures) c.move_cells-2.ensures
