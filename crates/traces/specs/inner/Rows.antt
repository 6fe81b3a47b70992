-- The row of what is asked for, as a trace keeps it.
use Rattle.std.specs.Prelude.{Option, Some, None}
use Rattle.traces.specs.declared.asked_row.AskedRow.{AskedRow}
use Rattle.traces.specs.declared.step.Step.{Step}

-- the row after a step; where there is none, it stays
abbrev pub row_after : AskedRow → Option Step → AskedRow
row_after row None = row
row_after row (Some step) = step.after
