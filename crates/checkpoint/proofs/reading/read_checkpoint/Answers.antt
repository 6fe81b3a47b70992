use Rattle.checkpoint.proofs.Runs.{parts_valid, read_if_ok, refused_if_err}
use Rattle.checkpoint.proofs.reading.read_checkpoint.Goals as goal

pub close-requires-clause-parts : goal.close-requires-clause-parts
close-requires-clause-parts g c = parts_valid _ c.args.networks c.in-Ok.lines c.in-Ok.parts c.in-Ok.ensures.ok

pub returns-in-Ok-clause-ok : goal.returns-in-Ok-clause-ok
returns-in-Ok-clause-ok g c = read_if_ok _ c.args.networks c.in-Ok.lines c.in-Ok.parts c.close.result c.in-Ok.ensures.ok c.close.ensures.done

pub returns-in-Ok-clause-err : goal.returns-in-Ok-clause-err
returns-in-Ok-clause-err g c = refused_if_err _ c.args.networks c.in-Ok.lines c.in-Ok.parts c.close.result c.in-Ok.ensures.ok c.close.ensures.refused
