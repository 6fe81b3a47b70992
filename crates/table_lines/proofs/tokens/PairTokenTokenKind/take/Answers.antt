use Rattle.std.proofs.Common.{◌≡◌, ◌∷◌, Some, arith}
use Rattle.json.specs.Token as token
use Rattle.json.specs.Json.{after_end_array}
use Rattle.table_lines.proofs.Spelled.{pair_spelled}
use Rattle.table_lines.proofs.tokens.PairTokenTokenKind.take.Goals as goal

pub returns-clause-value : goal.returns-clause-value
returns-clause-value c =
    let opening : c.args.reader.now ≡ token.begin_array ∷ c.take_begin_array.new.reader = grind arith in
    let over : after_end_array c.take-2.new.reader ≡ Some c.take_end_array.new.self = grind arith in
    pair_spelled c.args.reader.now c.take_begin_array.new.reader c.take.new.reader c.take-2.new.reader c.take_end_array.new.self c.in_ok-wagon.wagon c.in_ok-order.order
    opening c.in_ok-wagon.ensures.value c.in_ok-wagon.ensures.shorter c.in_ok-order.ensures.value c.in_ok-order.ensures.shorter over
