-- The forms in which rows are printed.
use Rattle.std.specs.Prelude.{ℕ, List}
use Rattle.text_tables.specs.Aligned.{aligned_text}
use Rattle.text_tables.specs.CsvRows.{csv_text}
use Rattle.text_tables.specs.JsonRows.{json_lines}
use Rattle.text_tables.specs.Row.{Row}
use Rattle.text_tables.specs.declared.aligned.Side.{Side}
use Rattle.text_tables.specs.declared.form.Form.{Form}
use Rattle.text_tables.specs.declared.form.Form.TheVariants.{Csv, Json, Table}

-- rows as lines with columns, as CSV, or as lines of JSON
abbrev pub rows_text : Form → List Side → List Row → List ℕ
rows_text Table sides rows = aligned_text sides rows
rows_text Csv sides rows = csv_text rows
rows_text Json sides rows = json_lines sides rows
