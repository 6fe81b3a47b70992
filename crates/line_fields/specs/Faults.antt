-- The numbers of the faults of a line and of its fields.
use Rattle.std.specs.Prelude.{ℕ}
use Rattle.rail_codes.specs.CodeFault.{fault_number}
use Rattle.line_fields.specs.declared.fault.FieldFault.{FieldFault}
use Rattle.line_fields.specs.declared.fault.FieldFault.TheVariants.{Code, WrongKind, OutOfRange}
use Rattle.line_fields.specs.declared.fault.LineFault.{LineFault}
use Rattle.line_fields.specs.declared.fault.LineFault.TheVariants.{OutOfMemory, NotJson, NotAnObject, UnknownType, MissingField, BadField}

-- what is wrong with the value of a field
abbrev pub field_fault_number : FieldFault → ℕ
field_fault_number (Code fault) = fault_number fault
field_fault_number WrongKind = 19
field_fault_number OutOfRange = 20

-- why a line is refused
abbrev pub line_fault_number : LineFault → ℕ
line_fault_number OutOfMemory = 1
line_fault_number NotJson = 21
line_fault_number NotAnObject = 22
line_fault_number UnknownType = 23
line_fault_number (MissingField field) = 24
line_fault_number (BadField field fault) = 25
