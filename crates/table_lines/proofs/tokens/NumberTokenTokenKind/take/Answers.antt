use Rattle.std.proofs.Common.{arith}
use Rattle.table_lines.proofs.Spelled.{number_is_spelled}
use Rattle.table_lines.proofs.tokens.NumberTokenTokenKind.take.Goals as goal

pub returns-then-number-self-clause-value : goal.returns-then-number-self-clause-value
returns-then-number-self-clause-value c =
    number_is_spelled c.args.reader.now c.take_number.new.reader 0 c.args.self.now.high c.in_ok-number.number c.in_ok-number.ensures.value (omega arith) (omega arith)
