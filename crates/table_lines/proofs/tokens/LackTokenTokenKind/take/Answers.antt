use Rattle.std.proofs.Common.{arith}
use Rattle.table_lines.proofs.Spelled.{number_is_spelled}
use Rattle.move_messages.specs.OrderLimits.{max_order_wagons}
use Rattle.table_lines.proofs.tokens.LackTokenTokenKind.take.Goals as goal

pub returns-then-number-from-clause-value : goal.returns-then-number-from-clause-value
returns-then-number-from-clause-value c =
    number_is_spelled c.args.reader.now c.take_number.new.reader 1 max_order_wagons c.in_ok-number.number c.in_ok-number.ensures.value (omega arith) (omega arith)
