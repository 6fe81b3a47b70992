use Rattle.std.proofs.Common.{◌∙◌, ℕ, List, ap}
use Rattle.std.specs.Prelude.{slice_set}
use Rattle.exact_costs.proofs.ChangedTables.{without_penalty_made}
use Rattle.exact_costs.proofs.changed_table.without_penalty.Goals as goal

pub of_rows-requires : goal.of_rows-requires
of_rows-requires c = (without_penalty_made c.in_ok-rows.rows c.args.cells.now c.args.j (slice_set c.in_ok-penalties.penalties.items c.args.j 0) c.in_ok-lacks.lacks.items c.rows.ensures.table c.in_ok-rows.ensures.placed (c.in_ok-rows.ensures.rows ∙ c.rows.ensures.rows) (ap (λ (penalties : List ℕ). slice_set penalties c.args.j 0) c.in_ok-penalties.ensures) c.in_ok-lacks.ensures).stored

pub returns : goal.returns
returns c = c.of_rows.ensures ∙ (without_penalty_made c.in_ok-rows.rows c.args.cells.now c.args.j (slice_set c.in_ok-penalties.penalties.items c.args.j 0) c.in_ok-lacks.lacks.items c.rows.ensures.table c.in_ok-rows.ensures.placed (c.in_ok-rows.ensures.rows ∙ c.rows.ensures.rows) (ap (λ (penalties : List ℕ). slice_set penalties c.args.j 0) c.in_ok-penalties.ensures) c.in_ok-lacks.ensures).same
