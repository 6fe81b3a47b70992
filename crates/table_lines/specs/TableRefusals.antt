-- The refusals of a table line: their numbers, and the faults that they come from.
use Rattle.std.specs.Prelude.{ℕ}
use Rattle.line_fields.specs.Faults.{line_fault_number}
use Rattle.line_fields.specs.declared.fault.LineFault.{LineFault}
use Rattle.line_fields.specs.declared.fault.LineFault.TheVariants as line
use Rattle.faults.specs.Numbers.{table_fault_number, named_fault_number}
use Rattle.faults.specs.declared.faults.TableFault.{TableFault}
use Rattle.faults.specs.declared.faults.TableFault.TheVariants as table
use Rattle.faults.specs.declared.faults.NamedFault.{NamedFault}
use Rattle.faults.specs.declared.faults.NamedFault.TheVariants as check
use Rattle.table_lines.specs.declared.table_refusal.TableRefusal.{TableRefusal}
use Rattle.table_lines.specs.declared.table_refusal.TableRefusal.TheVariants.{OutOfMemory, Line, Table, Check, PlanTooLong}

-- the number that stands for a refusal in a reply
abbrev pub table_refusal_number : TableRefusal → ℕ
table_refusal_number OutOfMemory = 1
table_refusal_number (Line fault) = line_fault_number fault
table_refusal_number (Table fault) = table_fault_number fault
table_refusal_number (Check fault) = named_fault_number fault
table_refusal_number PlanTooLong = 92

-- a fault of the line
abbrev pub refusal_of_line : LineFault → TableRefusal
refusal_of_line line.OutOfMemory = OutOfMemory
refusal_of_line line.NotJson = Line line.NotJson
refusal_of_line line.NotAnObject = Line line.NotAnObject
refusal_of_line line.UnknownType = Line line.UnknownType
refusal_of_line (line.MissingField field) = Line (line.MissingField field)
refusal_of_line (line.BadField field fault) = Line (line.BadField field fault)

-- a fault of its table
abbrev pub refusal_of_table : TableFault → TableRefusal
refusal_of_table table.OutOfMemory = OutOfMemory
refusal_of_table (table.DuplicateWagon wagon) = Table (table.DuplicateWagon wagon)
refusal_of_table (table.DuplicateOrder order) = Table (table.DuplicateOrder order)
refusal_of_table table.TooLarge = Table table.TooLarge
refusal_of_table table.UnevenRows = Table table.UnevenRows

-- a fault of its pairs and prices
abbrev pub refusal_of_check : NamedFault → TableRefusal
refusal_of_check check.OutOfMemory = OutOfMemory
refusal_of_check check.WrongLengths = Check check.WrongLengths
refusal_of_check (check.NotAllowed wagon order) = Check (check.NotAllowed wagon order)
refusal_of_check (check.UsedTwice wagon order) = Check (check.UsedTwice wagon order)
refusal_of_check (check.PriceGap wagon order) = Check (check.PriceGap wagon order)
refusal_of_check (check.OverPenalty order) = Check (check.OverPenalty order)
refusal_of_check (check.SumsDiffer left right) = Check (check.SumsDiffer left right)
refusal_of_check (check.NotInProblem wagon order) = Check (check.NotInProblem wagon order)
