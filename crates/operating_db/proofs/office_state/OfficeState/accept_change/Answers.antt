use Rattle.operating_db.specs.After.{after_call}
use Rattle.operating_db.specs.Office.{Office}
use Rattle.operating_db.proofs.States.{change_done, change_possible, change_settles, change_state}
use Rattle.operating_db.proofs.office_state.OfficeState.accept_change.Goals as goal

pub put-requires-clause-its_index : goal.put-requires-clause-its_index
put-requires-clause-its_index c = rw (← c.self.view_is) at c.requires.index

pub put-requires-clause-possible : goal.put-requires-clause-possible
put-requires-clause-possible c =
    let office : Office = record { wagons = c.self.inside.wagons; orders = c.self.inside.orders; network = c.self.inside.network } in
    change_possible office c.args.message.now c.args.found.now.change c.args.found.now.promise (rw (← c.self.view_is) at c.requires.change) c.for_the_prover.ensures

pub settle-requires : goal.settle-requires
settle-requires c =
    let office : Office = record { wagons = c.self.inside.wagons; orders = c.self.inside.orders; network = c.self.inside.network } in
    change_settles office c.args.message.now c.args.found.now.change c.args.found.now.promise (rw (← c.self.view_is) at c.requires.change) c.self.invariant.promises

pub invariant_of-self : goal.invariant_of-self
invariant_of-self c =
    change_state _ c.args.message.now c.args.found.now.change c.args.found.now.promise c.put.new.self c.settle.new.orders (rw (← c.self.view_is) at c.requires.change) c.put.ensures c.settle.ensures c.self.invariant

pub returns-clause-done : goal.returns-clause-done
unfolding after_call
returns-clause-done c =
    let office : Office = record { wagons = c.self.inside.wagons; orders = c.self.inside.orders; network = c.self.inside.network } in
    rw (← c.self.view_is) (change_done office c.args.message.now c.args.found.now.change c.args.found.now.promise c.put.new.self c.settle.new.orders (rw (← c.self.view_is) at c.requires.change) c.put.ensures c.settle.ensures)
