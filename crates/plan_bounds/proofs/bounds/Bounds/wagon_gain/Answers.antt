use Rattle.std.proofs.Common.{◌≡◌, arith, subst, sym}
use Rattle.std.proofs.lemmas.Grind.{common_steps}
use Rattle.cost_table.specs.Table.{order_count}
use Rattle.cost_table.specs.TableRows.{costs_of}
use Rattle.plan_bounds.specs.PricedPlan.{IsCertified}
use Rattle.plan_bounds.specs.Changes.{gain_of, with_wagon}
use Rattle.plan_bounds.specs.Bounds.{NoneSavesMore}
use Rattle.plan_bounds.proofs.OtherTables.{one_wagon_more_saves_its_gain}
use Rattle.plan_bounds.proofs.bounds.Bounds.wagon_gain.Goals as goal

pub returns-clause-bound : goal.returns-clause-bound
returns-clause-bound c =
    let p = c.args.self.now in
    let row = c.args.row.now in
    let certified : IsCertified p = subst IsCertified c.self.view_is c.self.invariant in
    let value : c.gain.result ≡ gain_of p.v row = grind (arith, common_steps) in
    subst (NoneSavesMore p (with_wagon p.table (costs_of (order_count p.table) row))) (sym value) (one_wagon_more_saves_its_gain p certified row)
