use Rattle.std.proofs.Common.{◌≡◌, [], take}
use Rattle.csv.specs.Records.{fields_of, partial_of}
use Rattle.text_tables.proofs.csv_rows.record_of.Given as goal

abbrev pub invariant-loop-k : goal.invariant-loop-k
invariant-loop-k l = record {
  fields : fields_of l.fields ≡ take l.k l.row;
  partial : partial_of l.fields ≡ [];
}
