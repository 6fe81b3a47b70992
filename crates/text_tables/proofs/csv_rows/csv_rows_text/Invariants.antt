use Rattle.std.proofs.Common.{◌≡◌, false, take, Some}
use Rattle.csv.specs.Writing.{default_writer, fields_written, has_written, text_written, writer_setup}
use Rattle.text_tables.specs.CsvRows.{csv_text}
use Rattle.text_tables.proofs.csv_rows.csv_rows_text.Given as goal

abbrev pub invariant-loop-row : goal.invariant-loop-row
invariant-loop-row l = record {
  text : text_written (λ v. Some v.items) l.writer ≡ Some (csv_text (take l.row-index l.rows));
  setup : writer_setup l.writer ≡ default_writer;
  fields : fields_written l.writer ≡ 0;
  clean : has_written l.writer ≡ false;
}
