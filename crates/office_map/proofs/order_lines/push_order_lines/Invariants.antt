use Rattle.std.proofs.Common.{take, string_bytes}
use Rattle.reply_texts.specs.Lines.{Adds, AreLines}
use Rattle.office_map.specs.Orders.{IsOrderLine}
use Rattle.office_map.proofs.order_lines.push_order_lines.Given as goal

abbrev pub invariant-loop-order : goal.invariant-loop-order
invariant-loop-order l = Adds (AreLines (IsOrderLine l.wagons) (take l.order-index l.orders)) (string_bytes l.initial.text) (string_bytes l.text)
