use Rattle.std.proofs.Common.{sym}
use Rattle.fleet_rows.proofs.Wagons.{number-wagon_in}
use Rattle.operating_db.specs.Office.{Office}
use Rattle.operating_db.proofs.States.{place_there}
use Rattle.operating_db.proofs.office_state.OfficeState.change_by.Goals as goal

pub step-requires-clause-same_wagon : goal.step-requires-clause-same_wagon
step-requires-clause-same_wagon c = sym (number-wagon_in c.self.inside.wagons c.args.message.now.wagon c.in-Some.row.now (sym c.in-Some.ensures.row))

pub step-requires-clause-promised : goal.step-requires-clause-promised
step-requires-clause-promised c =
    let office : Office = record { wagons = c.self.inside.wagons; orders = c.self.inside.orders; network = c.self.inside.network } in
    place_there office c.args.message.now.wagon c.in-Some.row.now c.order_place.result c.in-Some.ensures.row (rw (← c.self.view_is) at c.order_place.ensures) c.self.invariant.promises
