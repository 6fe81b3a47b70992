use Rattle.plan_reasons.proofs.TwinNumbers.{twin_more}
use Rattle.plan_reasons.proofs.twins.exactly_beside.Goals as goal

pub returns-in-Some : goal.returns-in-Some
returns-in-Some c = twin_more c.args.planned.now c.cells.result.now c.args.found.now c.args.pair c.in-Some.more c.cells.ensures c.requires.found c.in-Some.ensures
