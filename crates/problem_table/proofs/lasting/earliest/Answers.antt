use Rattle.std.proofs.Common.{arith}
use Rattle.problem_table.proofs.AllowedLemmas.{least_all, least_more}
use Rattle.problem_table.proofs.lasting.earliest.Goals as goal

pub loop-last-preserved : goal.loop-last-preserved
loop-last-preserved c = record {
  least = least_more c.args.lasts.now c.loop-last.last-index c.loop-last.least c.min-least.result (omega arith) c.min-least.ensures c.loop-last.invariant.least;
  held = λ at b all. omega (arith, c.loop-last.invariant.held at b all, all c.loop-last.last-index 0 (omega arith), c.min-least.ensures);
}

pub returns-clause-least : goal.returns-clause-least
returns-clause-least c = least_all c.args.lasts.now c.loop-last.last-index c.loop-last.least (omega arith) c.loop-last.invariant.least
