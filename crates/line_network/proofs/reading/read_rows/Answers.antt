use Rattle.line_network.proofs.ReadingLemmas.{gives_from, stops_from}
use Rattle.line_network.proofs.reading.read_rows.Goals as goal

pub returns-clause-meaning : goal.returns-clause-meaning
returns-clause-meaning g c =
    let (all, left, is, stop) = c.read_records.ensures.meaning in
    (all, left, gives_from c.read_records.result all is, stops_from c.read_records.result all stop)
