use Rattle.std.proofs.lemmas.Result.{on_ok_weaker}
use Rattle.line_fields.proofs.Writing.{pair_reads}
use Rattle.dispatch_sheet.proofs.commit_tokens.write_pair.Goals as goal

pub returns-clause-readable : goal.returns-clause-readable
returns-clause-readable c =
    on_ok_weaker c.end_array.result (λ _. pair_reads c.args.number c.args.id c.code_str.ensures.reads c.code_str-2.ensures.reads) c.end_array.ensures.ok
