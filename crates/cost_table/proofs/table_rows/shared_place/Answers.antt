use Rattle.std.proofs.Common.{◌≡◌, ◌-◌, rules}
use Rattle.cost_table.proofs.AmongLemmas.{shared_at}
use Rattle.cost_table.proofs.table_rows.shared_place.Goals as goal

pub returns-clause-row : goal.returns-clause-row
returns-clause-row c =
    let before : c.saturating_sub.result ≡ c.args.number - 1 = search rules in
    rw (before, c.own_row-cells.ensures) (shared_at c.args.block.now c.args.number)
