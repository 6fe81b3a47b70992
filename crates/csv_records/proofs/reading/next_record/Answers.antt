use Rattle.std.proofs.Common.{rules}
use Rattle.csv.specs.Records.{fields_of}
use Rattle.csv_records.specs.Requests.{answered}
use Rattle.csv_records.proofs.reading.next_record.Goals as goal

pub returns-in-Ok-clause-asked : goal.returns-in-Ok-clause-asked
returns-in-Ok-clause-asked g c = answered c.in-Ok.found (fields_of c.read_byte_record.new.row) (search rules)
