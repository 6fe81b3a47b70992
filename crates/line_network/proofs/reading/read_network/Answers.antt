use Rattle.csv_records.proofs.Remaining.{from_start}
use Rattle.line_network.proofs.NetworkOfLemmas.{IsReadTo-gives}
use Rattle.line_network.proofs.reading.read_network.Goals as goal

pub returns : goal.returns
returns g c =
    let (rows, left, gives, stop) = c.read_rows.ensures.meaning in
    let all = from_start g.R.Read.remaining c.open_records-rows.result (g.R.Read.remaining c.args.reader) rows c.open_records-rows.ensures.source c.open_records-rows.ensures.state left in
    IsReadTo-gives _ rows c.read_rows.result all gives stop
