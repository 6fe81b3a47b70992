use Rattle.std.proofs.Common.{ℕ, List, Option, subst}
use Rattle.std.proofs.lemmas.Result.{IfOk-weaker}
use Rattle.last_texts.specs.PlanOfLast.{IsPrintedIn}
use Rattle.last_texts.proofs.plan.last_plan_text.Goals as goal

-- the zone that was read is the one that is asked for
pub returns-clause-plan : goal.returns-clause-plan
returns-clause-plan c =
    IfOk-weaker c.printed_in.result _ _
    (λ text printed. record {
      plan = c.in_ok-list.list;
      of_last = c.in_ok-list.ensures.plan;
      printed = subst (λ (zone : Option (List ℕ)). IsPrintedIn c.args.options.now.csv c.args.places.now zone c.args.zone.now.bytes.items c.in_ok-list.list text.items) c.requires.zone.name printed;
    })
    c.printed_in.ensures.text
