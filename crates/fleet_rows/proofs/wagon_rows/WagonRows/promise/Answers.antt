use Rattle.fleet_rows.proofs.Wagons.{promised_possible}
use Rattle.fleet_rows.proofs.wagon_rows.WagonRows.promise.Goals as goal

pub set_promise-requires : goal.set_promise-requires
set_promise-requires c = promised_possible c.args.number c.args.id _ c.requires c.for_the_prover.ensures
