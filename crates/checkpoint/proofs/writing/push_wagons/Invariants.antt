use Rattle.std.proofs.Common.{take, string_bytes}
use Rattle.checkpoint.specs.inner.Lines.{AddsLines}
use Rattle.checkpoint.specs.LineWriting.{IsWagonLine}
use Rattle.checkpoint.specs.declared.line.CheckpointLine.TheVariants.{Wagon}
use Rattle.checkpoint.proofs.writing.push_wagons.Given as goal

abbrev pub invariant-loop-row : goal.invariant-loop-row
invariant-loop-row l = AddsLines IsWagonLine Wagon (take l.row-index l.rows) (string_bytes l.initial.text) (string_bytes l.text)
