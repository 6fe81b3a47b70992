use Rattle.std.proofs.lemmas.Result.{on_ok_weaker}
use Rattle.plan_reasons.proofs.Fields.{moment_field}
use Rattle.plan_reasons.proofs.style.moment_field.Goals as goal

pub returns : goal.returns
returns c = on_ok_weaker c.push_moment.result (λ last. moment_field c.args.style c.args.name.now c.args.moment _ _ _ c.in_ok-push_name.ensures last) c.push_moment.ensures
