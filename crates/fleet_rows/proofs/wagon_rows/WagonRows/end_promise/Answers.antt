use Rattle.fleet_rows.proofs.Wagons.{unpromised_possible}
use Rattle.fleet_rows.proofs.wagon_rows.WagonRows.end_promise.Goals as goal

pub set_promise-requires : goal.set_promise-requires
set_promise-requires c = unpromised_possible c.args.number _ c.for_the_prover.ensures
