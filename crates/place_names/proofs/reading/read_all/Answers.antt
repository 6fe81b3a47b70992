use Rattle.std.proofs.Common.{Ok, Err}
use Rattle.place_names.proofs.ReadingLemmas.{gives_from}
use Rattle.place_names.proofs.reading.read_all.Goals as goal

pub returns-in-Ok-clause-meaning : goal.returns-in-Ok-clause-meaning
returns-in-Ok-clause-meaning g c =
    let (all, left, is, stop) = c.in-Ok.ensures.meaning in
    (all, left, gives_from (Ok c.in-Ok.places) all is)

pub returns-in-Err-clause-meaning : goal.returns-in-Err-clause-meaning
returns-in-Err-clause-meaning g c =
    let (all, left, is, stop) = c.in-Err.ensures.meaning in
    (all, left, gives_from (Err c.in-Err.stop.fault) all is)
