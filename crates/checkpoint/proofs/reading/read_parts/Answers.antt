use Rattle.std.proofs.Common.{◌∙◌, Ok, ap, sym, refl}
use Rattle.checkpoint.proofs.Runs.{all_read, is_refused, is_stopped}
use Rattle.checkpoint.proofs.reading.read_parts.Goals as goal

pub returns-in-Ok-parts-clause-ok : goal.returns-in-Ok-parts-clause-ok
returns-in-Ok-parts-clause-ok g c =
    all_read _ _ _ c.in-Ok.count c.args.networks _ c.run_replies.ensures c.in-Ok.is refl (ap Ok c.new.ensures) (c.in-Ok-parts.is ∙ ap Ok (sym c.in-Ok-parts.parts-is))

pub returns-in-Err-parts-clause-err : goal.returns-in-Err-parts-clause-err
returns-in-Err-parts-clause-err g c =
    is_refused _ c.args.networks c.in-Ok.count.lines c.in-Err-parts.fault (all_read _ _ _ c.in-Ok.count c.args.networks _ c.run_replies.ensures c.in-Ok.is refl (ap Ok c.new.ensures) c.in-Err-parts.is)

pub returns-in-Err-clause-err : goal.returns-in-Err-clause-err
returns-in-Err-clause-err g c = is_stopped _ _ _ c.in-Err.fault c.standard-limit.ensures c.run_replies.ensures c.in-Err.is refl
