use Rattle.table_lines.proofs.Spelled.{if_some, row_spelled}
use Rattle.table_lines.proofs.tokens.RowTokenTokenKind.take.Goals as goal

pub returns-clause-value : goal.returns-clause-value
returns-clause-value c =
    if_some c.take_list.result _ _ (λ row. row_spelled c.args.reader.now c.take_list.new.reader row.items) c.take_list.ensures.value
