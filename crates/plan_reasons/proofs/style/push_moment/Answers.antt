use Rattle.std.proofs.Common.{sym, subst, List, ℕ}
use Rattle.std.proofs.lemmas.Result.{on_ok_weaker}
use Rattle.rail_codes.specs.Moment.{IsMomentText}
use Rattle.plan_reasons.proofs.Fields.{moment_value}
use Rattle.plan_reasons.proofs.style.push_moment.Goals as goal

pub returns : goal.returns
returns c =
    let moment = subst (λ (t : List ℕ). IsMomentText c.args.moment t) (sym c.as_str.ensures.value) c.in_ok-shown.ensures.printed in
    on_ok_weaker c.push_shown.result (moment_value c.args.style c.args.moment _ _ _ moment) c.push_shown.ensures
