use Rattle.csv.specs.Records.{fields_of}
use Rattle.fault_texts.proofs.Showing.{first_known, first_none}
use Rattle.fault_texts.proofs.headers.first_field.Goals as goal

pub returns-in-Some : goal.returns-in-Some
returns-in-Some c = first_known (fields_of c.args.fields.now) c.in-Some.field.now c.in-Some.ensures.value

pub returns-in-None : goal.returns-in-None
returns-in-None c = first_none (fields_of c.args.fields.now) c.in-None.ensures.value
