use Rattle.std.proofs.Common.{refl, sym, ◌∙◌, subst}
use Rattle.std.specs.Prelude.{IsOk}
use Rattle.std.proofs.lemmas.Result.{on_ok_weaker}
use Rattle.plan_reasons.proofs.PairFields.{arrival_past, arrival_shown}
use Rattle.plan_reasons.proofs.failed_line.push_arrival.Goals as goal

pub returns-in-Ok : goal.returns-in-Ok
returns-in-Ok c =
    let valid = c.from_seconds.ensures.accepts.0 (subst IsOk (sym c.in-Ok.is) refl) in
    on_ok_weaker c.moment_field.result (arrival_shown c.args.style c.args.seconds c.in-Ok.moment _ _ c.in-Ok.ensures.kept valid) c.moment_field.ensures

pub returns-in-Err : goal.returns-in-Err
returns-in-Err c =
    on_ok_weaker c.push_field.result (arrival_past c.args.style c.args.seconds _ _ _ _ (sym c.from_seconds.ensures.meaning ∙ c.in-Err.is) c.requires c.nothing.ensures) c.push_field.ensures
