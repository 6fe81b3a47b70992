use Rattle.std.proofs.Common.{◌≤◌, ℕ, arith, drop, subst}
use Rattle.std.specs.Prelude.{All}
use Rattle.cost_table.proofs.PartLemmas.{first_is_row, rest_is_row}
use Rattle.problem_table.proofs.MovedLemmas.{before_rest, behind_first, behind_rest}
use Rattle.problem_table.proofs.moved.steady_cells.Goals as goal

pub steady_part-requires : goal.steady_part-requires
steady_part-requires c = rest_is_row _ 0 c.args.row.first.now c.args.row.rest.now c.requires

pub steady_part-requires-in-0 : goal.steady_part-requires-in-0
steady_part-requires-in-0 c = first_is_row _ 0 c.args.row.first.now c.args.row.rest.now c.requires

pub returns-in-0-clause-behind : goal.returns-in-0-clause-behind
returns-in-0-clause-behind c = behind_first c.args.moved.now.steady c.args.row.first.now c.args.row.rest.now c.steady_part-in-0.result c.steady_part-in-0.ensures.within c.steady_part-in-0.ensures.behind
    (subst (λ (n : ℕ). All (λ (cell : ℕ × ℕ). c.args.moved.now.steady ≤ cell.0) (drop n c.args.row.rest.now)) c.in-0.is c.steady_part.ensures.behind)

pub returns-in_default-clause-before : goal.returns-in_default-clause-before
returns-in_default-clause-before c = before_rest _ c.args.moved.now.steady c.args.row.first.now c.args.row.rest.now c.steady_part.result c.requires (omega (arith, c.in_default)) c.steady_part.ensures.within c.steady_part.ensures.before

pub returns-in_default-clause-behind : goal.returns-in_default-clause-behind
returns-in_default-clause-behind c = behind_rest c.args.moved.now.steady c.args.row.first.now c.args.row.rest.now c.steady_part.result c.steady_part.ensures.behind
