-- The details of a table line's refusal: what its reply has behind the number.
use Rattle.std.specs.Prelude.{ℕ, List, []}
use Rattle.faults.specs.declared.faults.TableFault.{TableFault}
use Rattle.faults.specs.declared.faults.TableFault.TheVariants as table
use Rattle.reply_texts.specs.Details.{check_details, line_details}
use Rattle.reply_texts.specs.Words.{next_word}
use Rattle.table_lines.specs.declared.table_refusal.TableRefusal.{TableRefusal}
use Rattle.table_lines.specs.declared.table_refusal.TableRefusal.TheVariants.{OutOfMemory, Line, Table, Check, PlanTooLong}

-- of a table: the wagon or the order that is listed twice
abbrev pub table_details : TableFault → List ℕ
table_details table.OutOfMemory = []
table_details (table.DuplicateWagon wagon) = next_word wagon
table_details (table.DuplicateOrder order) = next_word order
table_details table.TooLarge = []
table_details table.UnevenRows = []

-- of a table line
abbrev pub table_line_details : TableRefusal → List ℕ
table_line_details OutOfMemory = []
table_line_details (Line fault) = line_details fault
table_line_details (Table fault) = table_details fault
table_line_details (Check fault) = check_details fault
table_line_details PlanTooLong = []
