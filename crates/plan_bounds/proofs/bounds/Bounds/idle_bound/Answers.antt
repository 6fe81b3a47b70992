use Rattle.std.proofs.Common.{◌≡◌, ◌∙◌, arith, subst, sym}
use Rattle.std.proofs.lemmas.Grind.{common_steps}
use Rattle.std.specs.Prelude.{slice_index}
use Rattle.cost_table.specs.Table.{costs_at}
use Rattle.plan_bounds.specs.PricedPlan.{IsCertified}
use Rattle.plan_bounds.specs.Changes.{with_wagon, without_wagon}
use Rattle.plan_bounds.specs.Bounds.{AllCostMore, CostsMore, IsIdle, NoneSavesMore}
use Rattle.plan_bounds.proofs.OtherPlans.{certified_has_no_slack, idle_wagons_cost_their_price}
use Rattle.plan_bounds.proofs.OtherTables.{its_twin_saves_its_price, without_a_wagon_costs_its_price}
use Rattle.plan_bounds.proofs.bounds.Bounds.idle_bound.Goals as goal

pub returns-clause-idle : goal.returns-clause-idle
returns-clause-idle c =
    let p = c.args.self.now in
    let certified : IsCertified p = subst IsCertified c.self.view_is c.self.invariant in
    let value : c.index.result.now ≡ slice_index p.u c.args.i = grind (arith, common_steps) in
    subst (CostsMore p (IsIdle c.args.i)) (sym value) (idle_wagons_cost_their_price p certified c.args.i c.requires)

pub returns-clause-own : goal.returns-clause-own
returns-clause-own c =
    let p = c.args.self.now in
    let certified : IsCertified p = subst IsCertified c.self.view_is c.self.invariant in
    let value : c.index.result.now ≡ slice_index p.u c.args.i = grind (arith, common_steps) in
    λ idle. value ∙ (certified_has_no_slack p certified).idle c.args.i c.requires idle

pub returns-clause-wagon_less : goal.returns-clause-wagon_less
returns-clause-wagon_less c =
    let p = c.args.self.now in
    let certified : IsCertified p = subst IsCertified c.self.view_is c.self.invariant in
    let value : c.index.result.now ≡ slice_index p.u c.args.i = grind (arith, common_steps) in
    subst (AllCostMore p (without_wagon p.table c.args.i)) (sym value) (without_a_wagon_costs_its_price p certified c.args.i c.requires)

pub returns-clause-twin : goal.returns-clause-twin
returns-clause-twin c =
    let p = c.args.self.now in
    let certified : IsCertified p = subst IsCertified c.self.view_is c.self.invariant in
    let value : c.index.result.now ≡ slice_index p.u c.args.i = grind (arith, common_steps) in
    subst (NoneSavesMore p (with_wagon p.table (costs_at p.table c.args.i))) (sym value) (its_twin_saves_its_price p certified c.args.i c.requires)
