-- A line that states a table, whatever plan stands there or none: what is read of it, and how it is read with its plan.
use Rattle.std.specs.Prelude.{ℕ, List, Result}
use Rattle.line_fields.specs.declared.fault.LineFault.{LineFault}
use Rattle.line_fields.specs.Values.{◌>>=◌}
use Rattle.line_fields.specs.Line.{object_of}
use Rattle.table_lines.specs.TableLine.{TableText, table_of, with_plan_of}

-- the table that a line states, without a plan, or the first fault
unfoldable pub table_of_line : List ℕ → Result TableText LineFault
table_of_line bytes = object_of bytes >>= table_of

-- first the table that a line states, then its plan
abbrev pub table_then_plan : List ℕ → Result TableText LineFault
table_then_plan bytes = object_of bytes >>= λ d. table_of d >>= with_plan_of d
