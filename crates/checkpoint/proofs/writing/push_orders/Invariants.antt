use Rattle.std.proofs.Common.{take, string_bytes}
use Rattle.std.specs.List.{filter}
use Rattle.checkpoint.specs.Checkpoint.{order_said}
use Rattle.checkpoint.specs.inner.Lines.{AddsLines}
use Rattle.checkpoint.specs.LineWriting.{IsOrderLine}
use Rattle.wagons_and_orders.specs.Lack.{is_open}
use Rattle.checkpoint.proofs.writing.push_orders.Given as goal

abbrev pub invariant-loop-row : goal.invariant-loop-row
invariant-loop-row l = AddsLines IsOrderLine order_said (filter is_open (take l.row-index l.rows)) (string_bytes l.initial.text) (string_bytes l.text)
