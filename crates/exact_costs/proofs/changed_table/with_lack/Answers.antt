use Rattle.std.proofs.Common.{◌∙◌, ℕ, List, ap}
use Rattle.std.specs.Prelude.{slice_set}
use Rattle.exact_costs.proofs.ChangedTables.{with_lack_made}
use Rattle.exact_costs.proofs.changed_table.with_lack.Goals as goal

pub of_rows-requires : goal.of_rows-requires
of_rows-requires c = (with_lack_made c.in_ok-rows.rows c.args.cells.now c.args.j c.args.lack c.in_ok-penalties.penalties.items (slice_set c.in_ok-lacks.lacks.items c.args.j c.args.lack) c.rows.ensures.table c.in_ok-rows.ensures.placed (c.in_ok-rows.ensures.rows ∙ c.rows.ensures.rows) c.in_ok-penalties.ensures (ap (λ (lacks : List ℕ). slice_set lacks c.args.j c.args.lack) c.in_ok-lacks.ensures) c.requires.order c.requires.lack c.requires.in_all).stored

pub returns : goal.returns
returns c = c.of_rows.ensures ∙ (with_lack_made c.in_ok-rows.rows c.args.cells.now c.args.j c.args.lack c.in_ok-penalties.penalties.items (slice_set c.in_ok-lacks.lacks.items c.args.j c.args.lack) c.rows.ensures.table c.in_ok-rows.ensures.placed (c.in_ok-rows.ensures.rows ∙ c.rows.ensures.rows) c.in_ok-penalties.ensures (ap (λ (lacks : List ℕ). slice_set lacks c.args.j c.args.lack) c.in_ok-lacks.ensures) c.requires.order c.requires.lack c.requires.in_all).same
