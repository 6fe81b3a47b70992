use Rattle.std.proofs.Common.{get_or, refl, arith}
use Rattle.assignment.proofs.Passing.{is_less, nearest_from, nearest_more, nearest_of_all}
use Rattle.assignment.proofs.Spans.{none_after, none_before}
use Rattle.assignment.proofs.passes.nearest.Goals as goal

pub loop-g-init : goal.loop-g-init
loop-g-init c = nearest_from (λ k. get_or c.args.ahead.now k 0) c.args.span.start (λ g l. none_before c.args.ahead.now c.args.span g c.requires l)

pub loop-g-preserved : goal.loop-g-preserved
loop-g-preserved c = nearest_more _ c.loop-g.onward c.loop-g.g _ _ c.min-onward.result c.loop-g.invariant refl (is_less _ (omega arith)) c.min-onward.ensures

pub returns : goal.returns
returns c =
    let within = c.requires.within in
    let most = c.loop-g.auto.g-end c.requires.ordered in
    nearest_of_all _ _ c.loop-g.onward c.loop-g.g _ c.loop-g.invariant (omega (arith, most, within)) (λ g l. refl) (λ g after l. none_after c.args.ahead.now c.args.span g c.requires (omega (arith, after, c.loop-g-test.false)) l)
