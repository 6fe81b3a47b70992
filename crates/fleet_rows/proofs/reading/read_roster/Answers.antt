use Rattle.csv_records.proofs.Remaining.{from_start}
use Rattle.fleet_rows.proofs.RosterOfLemmas.{IsReadTo-gives}
use Rattle.fleet_rows.proofs.reading.read_roster.Goals as goal

pub returns : goal.returns
returns g c =
    let (records, left, gives, stop) = c.read_all.ensures.meaning in
    let all = from_start g.R.Read.remaining c.open_records-records.result (g.R.Read.remaining c.args.reader) records c.open_records-records.ensures.source c.open_records-records.ensures.state left in
    IsReadTo-gives _ records c.read_all.result all gives c.read_all.ensures.roster stop
