use Rattle.std.proofs.Common.{◌≡◌, List, subst}
use Rattle.std.specs.Prelude.{position}
use Rattle.wagons_and_orders.specs.declared.free_wagon.FreeWagon.{FreeWagon}
use Rattle.cost_table.specs.Names.{is_name}
use Rattle.plan_reasons.proofs.NamedThere.{found_there, named_there}
use Rattle.plan_reasons.proofs.finders.find_wagon.Goals as goal

pub returns-clause-found : goal.returns-clause-found
returns-clause-found c =
    let items = c.args.problem.now.wagons in
    let name = c.args.number.now in
    let is = subst (λ (xs : List FreeWagon). c.wagon_at.result ≡ position (λ x. is_name name x.number) xs) c.wagons.ensures.wagons c.wagon_at.ensures in
    named_there (λ (x : FreeWagon). x.number) items name c.wagon_at.result is

pub returns-clause-held : goal.returns-clause-held
returns-clause-held c =
    let items = c.args.problem.now.wagons in
    let name = c.args.number.now in
    let is = subst (λ (xs : List FreeWagon). c.wagon_at.result ≡ position (λ x. is_name name x.number) xs) c.wagons.ensures.wagons c.wagon_at.ensures in
    found_there (λ (x : FreeWagon). x.number) items name c.wagon_at.result is c.wagons.ensures.problem.each_wagon_once
