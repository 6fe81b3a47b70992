use Rattle.std.proofs.Common.{arith}
use Rattle.std.proofs.lemmas.Result.{on_ok_weaker}
use Rattle.plan_reasons.proofs.Lines.{line_of_wagon}
use Rattle.plan_reasons.proofs.wagon_line.push_wagon_line.Goals as goal

pub returns : goal.returns
returns c =
    on_ok_weaker c.push_without.result (λ last. line_of_wagon c.args.style c.args.numbers c.args.planned.now.network c.args.planned.now.problem c.args.planned.now.priced c.args.pair c.journey_of-journey.result c.in_ok-without.without _ _ _ _ c.journey_of-journey.ensures c.in_ok-without.ensures c.in_ok-push_wagon_fields.ensures.km (omega arith) c.in_ok-push_wagon_fields.ensures.text c.in_ok-moment_field.ensures last) c.push_without.ensures
