use Rattle.operating_db.proofs.States.{order_new, placed_state}
use Rattle.operating_db.specs.Office.{Office}
use Rattle.operating_db.proofs.office_state.OfficeState.place.Goals as goal

pub invariant_of-self : goal.invariant_of-self
invariant_of-self c =
    let office : Office = record { wagons = c.self.inside.wagons; orders = c.self.inside.orders; network = c.self.inside.network } in
    let new = order_new office c.args.text.now c.placeable.result (rw (← c.self.view_is) at c.placeable.ensures.possible) c.in_default.not-Err in
    placed_state _ c.args.text.now c.push.new.self c.push.result new c.push.ensures.added c.push.ensures.refused c.self.invariant
