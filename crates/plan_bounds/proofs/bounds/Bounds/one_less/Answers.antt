use Rattle.std.proofs.Common.{◌≡◌, ◌-◌, arith, subst, sym}
use Rattle.std.proofs.lemmas.Grind.{common_steps}
use Rattle.std.specs.Prelude.{slice_index}
use Rattle.cost_table.specs.Table.{lack_at}
use Rattle.plan_bounds.specs.PricedPlan.{IsCertified}
use Rattle.plan_bounds.specs.Changes.{with_lack}
use Rattle.plan_bounds.specs.Bounds.{NoneSavesMore}
use Rattle.plan_bounds.proofs.OtherTables.{one_less_saves_the_price}
use Rattle.plan_bounds.proofs.bounds.Bounds.one_less.Goals as goal

pub returns-clause-bound : goal.returns-clause-bound
returns-clause-bound c =
    let p = c.args.self.now in
    let certified : IsCertified p = subst IsCertified c.self.view_is c.self.invariant in
    let value : c.index.result.now ≡ slice_index p.v c.args.j = grind (arith, common_steps) in
    subst (NoneSavesMore p (with_lack p.table c.args.j (lack_at p.table c.args.j - 1))) (sym value) (one_less_saves_the_price p certified c.args.j c.requires)
