use Rattle.std.proofs.lemmas.Result.{IfOk-weaker}
use Rattle.command_line.specs.Values.{all_lent}
use Rattle.command_line.proofs.ExplainLemmas.{of_name, of_number}
use Rattle.command_line.proofs.explained.entries_for.Goals as goal

pub returns-in-Ok : goal.returns-in-Ok
returns-in-Ok c = IfOk-weaker c.entry_of.result _ _ (λ entries alone. of_number c.args.code.now c.in-Ok.number (all_lent entries.items) c.in-Ok.ensures.value.0 alone) c.entry_of.ensures

pub returns-in-Err : goal.returns-in-Err
returns-in-Err c = IfOk-weaker c.entries_named.result _ _ (λ entries named. of_name c.args.code.now (all_lent entries.items) c.in-Err.ensures.value.0 named) c.entries_named.ensures
