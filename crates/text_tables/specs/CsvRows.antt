-- Rows as CSV. A field with a comma, a quotation mark or a line break in it stands in quotation marks.
use Rattle.std.specs.Prelude.{ℕ, List}
use Rattle.std.specs.List.{flat_map}
use Rattle.csv.specs.Writing.{default_writer, row_text}
use Rattle.text_tables.specs.Row.{Row}

-- rows as the records of a file of CSV
abbrev pub csv_text : List Row → List ℕ
csv_text rows = flat_map (row_text default_writer) rows
