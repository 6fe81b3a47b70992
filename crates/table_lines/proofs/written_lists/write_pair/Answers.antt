use Rattle.std.proofs.lemmas.Result.{on_ok_weaker}
use Rattle.line_fields.proofs.Writing.{pair_reads}
use Rattle.table_lines.proofs.written_lists.write_pair.Goals as goal

pub returns-clause-reads : goal.returns-clause-reads
returns-clause-reads c = on_ok_weaker c.end_array.result (λ _. pair_reads c.args.number c.args.id c.code_str-wagon.ensures.reads c.code_str-order.ensures.reads) c.end_array.ensures.ok
