use Rattle.std.proofs.Common.{◌-◌}
use Rattle.csv_records.proofs.Collecting.{HasRead}
use Rattle.csv_records.specs.Requests.{AsksAtMost, IsSetUp}
use Rattle.csv_records.proofs.reading.collect.Given as goal

abbrev pub invariant-loop-number : goal.invariant-loop-number
invariant-loop-number g l = record {
  set_up : IsSetUp l.reader;
  read : HasRead g.R.Read.remaining g.T.FromRecords.made_of l.fn.reader l.reader l.number l.made;
  asked : AsksAtMost g.R.Read.remaining l.fn.reader (l.number - 1) l.reader;
}
