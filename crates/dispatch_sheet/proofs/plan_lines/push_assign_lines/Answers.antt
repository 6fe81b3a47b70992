use Rattle.std.proofs.Common.{arith}
use Rattle.std.proofs.lemmas.Option.{IfSome_then}
use Rattle.dispatch_sheet.proofs.PlanLines.{IsAllowed-at}
use Rattle.dispatch_sheet.proofs.plan_lines.push_assign_lines.Goals as goal

pub push_assign_line-requires-clause-allowed : goal.push_assign_line-requires-clause-allowed
push_assign_line-requires-clause-allowed c = IsAllowed-at c.args.cells.now c.args.pairs.now c.loop-pair.pair-index _ c.requires.allowed (omega arith)

pub push_assign_line-requires-clause-tight : goal.push_assign_line-requires-clause-tight
push_assign_line-requires-clause-tight c = IfSome_then c.args.prices c.requires.tight (λ prices all. all c.loop-pair.pair-index _ (omega arith))
