use Rattle.table_lines.proofs.Spelled.{some_number_is_spelled}
use Rattle.table_lines.proofs.found_lists.skip_number.Goals as goal

pub returns-clause-number : goal.returns-clause-number
returns-clause-number c = some_number_is_spelled c.args.reader.now c.take_number.new.reader c.in_ok-take_number.field-0 c.in_ok-take_number.ensures.value
