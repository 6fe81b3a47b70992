use Rattle.std.proofs.Common.{◌∙◌, ◌+◌, ℕ, take, get_or, refl, sym, subst, arith}
use Rattle.std.specs.List.{AllZip}
use Rattle.cost_table.specs.Plan.{AllAllowed}
use Rattle.plan_bounds.proofs.NewPairs.{allowed_at}
use Rattle.text_tables.proofs.RowsBelow.{AllZip-taken_more}
use Rattle.plan_reasons.specs.Journeys.{IsJourney}
use Rattle.plan_table.proofs.listing.all_journeys.Goals as goal

pub journey_of-requires : goal.journey_of-requires
journey_of-requires c =
    let cells = c.args.planned.now.priced.table in
    let allowed = subst (AllAllowed cells) (sym (c.pairs-pair-items.ensures.pairs ∙ c.plan.ensures.value)) c.plan.ensures.certified.plan.allowed in
    allowed_at cells c.pairs-pair-items.result.now c.loop-pair.pair-index (0, 0) allowed (omega arith)

pub loop-pair-preserved : goal.loop-pair-preserved
loop-pair-preserved c =
    let is_journey = IsJourney c.args.planned.now.network c.args.planned.now.problem in
    let pairs = c.pairs-pair-items.result.now in
    let i = c.loop-pair.pair-index in
    let pair : ℕ × ℕ = get_or pairs i (0, 0) in
    subst (AllZip is_journey (take (i + 1) pairs)) (sym c.in_ok-push.ensures.items) (AllZip-taken_more is_journey pairs c.loop-pair.journeys.items i (0, 0) pair c.journey_of.result (omega arith) refl c.loop-pair.invariant c.journey_of.ensures)
