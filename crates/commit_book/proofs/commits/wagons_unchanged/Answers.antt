use Rattle.std.proofs.Common.{sym, ◌∙◌}
use Rattle.commit_book.proofs.CommitWalks.{wagon_here, wagon_next}
use Rattle.commit_book.proofs.commits.wagons_unchanged.Goals as goal

pub returns-then-not-is_free_as_planned : goal.returns-then-not-is_free_as_planned
returns-then-not-is_free_as_planned c =
    wagon_here c.args.problem.now c.args.now.now.office c.args.pairs.now c.loop-pair.pair-index c.pair-item.result _ c.loop-pair-test.true c.pair-item.is (sym c.is_free_as_planned.ensures ∙ c.if-not-is_free_as_planned.true) c.loop-pair.invariant

pub loop-pair-preserved : goal.loop-pair-preserved
loop-pair-preserved c =
    wagon_next c.args.problem.now c.args.now.now.office c.args.pairs.now c.loop-pair.pair-index c.pair-item.result _ c.loop-pair-test.true c.pair-item.is (sym c.is_free_as_planned.ensures ∙ c.if-not-is_free_as_planned.false) c.loop-pair.invariant
