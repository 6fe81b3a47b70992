use Rattle.std.proofs.Common.{◌∙◌, sym}
use Rattle.csv_records.proofs.FieldLemmas.{place_in-no_text}
use Rattle.csv_records.proofs.fields.place_of.Goals as goal

pub returns-in_err-text : goal.returns-in_err-text
returns-in_err-text c = c.from_residual.ensures ∙ sym (place_in-no_text _ _ c.args.field.now c.from_utf8.result c.from_utf8.ensures.cases (sym c.ok.ensures.value ∙ c.in_err-text.was))
