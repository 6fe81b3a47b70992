use Rattle.csv_records.proofs.Remaining.{from_start}
use Rattle.place_names.proofs.PlacesOfLemmas.{AreReadFrom-gives}
use Rattle.place_names.proofs.places.Places.read_names.Goals as goal

pub returns : goal.returns
returns g c =
    let (records, left, gives) = c.read_all.ensures.meaning in
    let all = from_start g.R.Read.remaining c.open_records-records.result (g.R.Read.remaining c.args.reader) records c.open_records-records.ensures.source c.open_records-records.ensures.state left in
    AreReadFrom-gives _ records c.read_all.result all gives
