use Rattle.csv_records.proofs.FieldLemmas.{text_in-read}
use Rattle.csv_records.proofs.fields.text_of.Goals as goal

pub returns : goal.returns
returns c = rw c.ok.ensures.value (text_in-read _ _ c.args.field.now c.from_utf8.result c.from_utf8.ensures.cases)
