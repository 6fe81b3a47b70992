use Rattle.std.proofs.Common.{◌∙◌, sym}
use Rattle.wagons_and_orders.specs.declared.free_wagon.FreeWagon.{FreeWagon}
use Rattle.cost_table.specs.Names.{is_name}
use Rattle.fleet_rows.proofs.Named.{found_at_place, not_found, read_at}
use Rattle.commit_book.proofs.Searches.{index_in}
use Rattle.commit_book.proofs.ascending_problem.AscendingProblem.wagon.Goals as goal

pub returns-in_err-index : goal.returns-in_err-index
returns-in_err-index c =
    let index = index_in c.wagons-wagons.result.now c.args.number _ c.in_err-index.ensures in
    let none = not_found (λ (w : FreeWagon). is_name c.args.number w.number) c.wagons-wagons.result.now (sym index) in
    rw c.from_residual.ensures (rw (c.wagons-wagons.ensures.wagons, c.self.view_is) at (sym none))

pub returns : goal.returns
returns c =
    let index = index_in c.wagons-wagons.result.now c.args.number _ c.in_ok-index.ensures in
    let (found, within) = found_at_place (λ (w : FreeWagon). is_name c.args.number w.number) c.wagons-wagons.result.now c.in_ok-index.index (sym index) in
    let read = read_at c.get.result c.wagons-wagons.result.now c.in_ok-index.index c.get.ensures.lookup.0 c.get.ensures.lookup.1 within in
    rw (c.wagons-wagons.ensures.wagons, c.self.view_is) at (read ∙ sym found)
