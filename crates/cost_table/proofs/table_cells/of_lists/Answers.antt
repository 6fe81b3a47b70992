use Rattle.std.proofs.Common.{◌∙◌}
use Rattle.cost_table.proofs.TableLemmas.{passes, stored_lists, table_kept, unfaulted}
use Rattle.cost_table.proofs.table_cells.of_lists.Goals as goal

pub invariant_of-result : goal.invariant_of-result
invariant_of-result c =
    let rows = c.args.rows.now in
    let penalties = c.args.penalties.items in
    let lacks = c.args.lacks.items in
    let fit = unfaulted rows penalties lacks c.requires.fit in
    (stored_lists c.in_ok-rows.rows rows penalties lacks c.in_ok-rows.ensures.placed (c.in_ok-rows.ensures.rows ∙ c.in_ok-flatten.ensures)
    (table_kept rows penalties lacks (passes rows penalties lacks fit.0 fit.1) c.requires.numbers c.requires.penalties c.requires.lacks)).0

pub returns : goal.returns
returns c =
    let rows = c.args.rows.now in
    let penalties = c.args.penalties.items in
    let lacks = c.args.lacks.items in
    let fit = unfaulted rows penalties lacks c.requires.fit in
    (stored_lists c.in_ok-rows.rows rows penalties lacks c.in_ok-rows.ensures.placed (c.in_ok-rows.ensures.rows ∙ c.in_ok-flatten.ensures)
    (table_kept rows penalties lacks (passes rows penalties lacks fit.0 fit.1) c.requires.numbers c.requires.penalties c.requires.lacks)).1
