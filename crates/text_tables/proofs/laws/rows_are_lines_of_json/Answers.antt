use Rattle.text_tables.proofs.RowLines.{rows_are_lines}
use Rattle.text_tables.proofs.RowsKept.{numbers_are_numbers, row_is_kept}
use Rattle.text_tables.proofs.Utf8Lines.{lines_are_utf8}
use Rattle.text_tables.proofs.laws.rows_are_lines_of_json.Goals as goal

pub returns-clause-lines : goal.returns-clause-lines
returns-clause-lines c = rows_are_lines

pub returns-clause-kept : goal.returns-clause-kept
returns-clause-kept c = row_is_kept

pub returns-clause-utf8 : goal.returns-clause-utf8
returns-clause-utf8 c = lines_are_utf8

pub returns-clause-numbers : goal.returns-clause-numbers
returns-clause-numbers c = numbers_are_numbers
