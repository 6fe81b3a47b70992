use Rattle.std.proofs.Common.{Ok, Err}
use Rattle.fleet_rows.proofs.ReadingLemmas.{gives_from, stops_from}
use Rattle.fleet_rows.proofs.reading.read_all.Goals as goal

pub returns-in-Ok-clause-meaning : goal.returns-in-Ok-clause-meaning
returns-in-Ok-clause-meaning g c =
    let (all, left, is, stop) = c.in-Ok.ensures.meaning in
    (all, left, gives_from (Ok c.in-Ok.so_far) all is, stops_from (Ok c.in-Ok.so_far) all stop)

pub returns-in-Err-clause-meaning : goal.returns-in-Err-clause-meaning
returns-in-Err-clause-meaning g c =
    let (all, left, is, stop) = c.in-Err.ensures.meaning in
    (all, left, gives_from (Err c.in-Err.stop) all is, stops_from (Err c.in-Err.stop) all stop)
