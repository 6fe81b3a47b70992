use Rattle.plan_bounds.specs.Slack.{missed}
use Rattle.plan_table.specs.ListOf.{IsShortfall}
use Rattle.plan_table.proofs.Listed.{listed_next}
use Rattle.plan_table.proofs.listing.all_shortfalls.Goals as goal

pub loop-j-preserved : goal.loop-j-preserved
loop-j-preserved c =
    let planned = c.args.planned.now in
    let p = planned.priced in
    listed_next (IsShortfall planned.network planned.problem p) (missed p planned.priced.pairs) c.loop-j.j c.loop-j.shortfalls.items c.push_missing.new.shortfalls.items c.shortfall_of.result c.shortfall_of.result.missing
    c.loop-j.invariant c.shortfall_of.ensures c.shortfall_of.ensures.missing (c.in_ok-push_missing.ensures {u = tt})
