use Rattle.fleet_rows.proofs.Wagons.{put_is, rows_with}
use Rattle.fleet_rows.proofs.wagon_rows.WagonRows.put.Goals as goal

pub set-requires-clause-valid : goal.set-requires-clause-valid
set-requires-clause-valid c =
    let (old, at, named) = c.requires.its_index in
    rows_with _ c.args.index old c.args.row.now c.for_the_prover.ensures at named c.requires.few_kg c.requires.possible

pub returns : goal.returns
returns c =
    let (old, at, named) = c.requires.its_index in
    rw c.set.ensures (put_is _ c.args.index old c.args.row.now c.for_the_prover.ensures.ascending at named)
