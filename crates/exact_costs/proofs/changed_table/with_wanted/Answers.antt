use Rattle.std.proofs.Common.{◌∙◌, ℕ, List, ap}
use Rattle.std.specs.Prelude.{slice_set}
use Rattle.cost_table.specs.TableLimits.{max_cost}
use Rattle.exact_costs.proofs.ChangedTables.{with_wanted_made}
use Rattle.exact_costs.proofs.changed_table.with_wanted.Goals as goal

pub of_rows-requires : goal.of_rows-requires
of_rows-requires c = (with_wanted_made c.in_ok-rows.rows c.args.cells.now c.args.j c.args.lack (slice_set c.in_ok-penalties.penalties.items c.args.j max_cost) (slice_set c.in_ok-lacks.lacks.items c.args.j c.args.lack) c.rows.ensures.table c.in_ok-rows.ensures.placed (c.in_ok-rows.ensures.rows ∙ c.rows.ensures.rows) (ap (λ (penalties : List ℕ). slice_set penalties c.args.j max_cost) c.in_ok-penalties.ensures) (ap (λ (lacks : List ℕ). slice_set lacks c.args.j c.args.lack) c.in_ok-lacks.ensures) c.requires.order c.requires.lack c.requires.in_all).stored

pub returns : goal.returns
returns c = c.of_rows.ensures ∙ (with_wanted_made c.in_ok-rows.rows c.args.cells.now c.args.j c.args.lack (slice_set c.in_ok-penalties.penalties.items c.args.j max_cost) (slice_set c.in_ok-lacks.lacks.items c.args.j c.args.lack) c.rows.ensures.table c.in_ok-rows.ensures.placed (c.in_ok-rows.ensures.rows ∙ c.rows.ensures.rows) (ap (λ (penalties : List ℕ). slice_set penalties c.args.j max_cost) c.in_ok-penalties.ensures) (ap (λ (lacks : List ℕ). slice_set lacks c.args.j c.args.lack) c.in_ok-lacks.ensures) c.requires.order c.requires.lack c.requires.in_all).same
