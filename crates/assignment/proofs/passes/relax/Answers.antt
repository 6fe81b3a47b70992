use Rattle.std.proofs.Common.{◌∙◌, arith, inl, inr}
use Rattle.std.proofs.lemmas.Bool.{cases_lt}
use Rattle.assignment.proofs.Passing.{is_less, nearest_from, nearest_more, nearest_of_all, passed_from, passed_more}
use Rattle.assignment.proofs.Spans.{none_after, none_before}
use Rattle.assignment.proofs.passes.relax.Goals as goal

pub loop-g-init : goal.loop-g-init
loop-g-init c = record {
  ahead = passed_from _ c.args.ahead.now c.args.span.start (λ g l. let none = none_before c.args.ahead.now c.args.span g c.requires.span l in omega (arith, none));
  nearest = nearest_from _ c.args.span.start (λ g l. let none = none_before c.args.ahead.now c.args.span g c.requires.span l in omega (arith, none));
}

pub loop-g-preserved : goal.loop-g-preserved
loop-g-preserved c =
    let g = c.loop-g.g in
    let h = c.loop-g.invariant in
    let ahead = h.ahead.left g (omega arith) in
    let new = rw ahead at c.min-nearer.ensures in
    record {
      ahead = passed_more _ c.args.ahead.now c.loop-g.ahead g c.min-nearer.result h.ahead (omega (arith, c.loop-g-test.true, c.loop-g.auto.ahead)) new;
      nearest = nearest_more _ c.loop-g.onward g c.min-nearer.result _ c.min-onward.result h.nearest new (is_less c.min-nearer.result (omega arith)) c.min-onward.ensures;
    }

pub returns-clause-ahead : goal.returns-clause-ahead
returns-clause-ahead c = λ g l. elim (cases_lt g c.loop-g.g) [
  | inl before ↦ c.loop-g.invariant.ahead.written g before
  | inr after ↦
      let old = none_after c.args.ahead.now c.args.span g c.requires.span (omega (arith, after, c.loop-g-test.false)) l in
      let left = c.loop-g.invariant.ahead.left g after in
      omega (arith, old, left)
]

pub returns-clause-nearest : goal.returns-clause-nearest
returns-clause-nearest c =
    let h = c.loop-g.invariant in
    let within = c.requires.span.within in
    let most = c.loop-g.auto.g-end c.requires.span.ordered in
    nearest_of_all _ _ c.loop-g.onward c.loop-g.g _ h.nearest (omega (arith, most, within, c.loop-g.auto.ahead)) (λ g l. h.ahead.written g l)
    (λ g after l. h.ahead.left g after ∙ none_after c.args.ahead.now c.args.span g c.requires.span (omega (arith, after, c.loop-g-test.false)) (omega (arith, l, c.loop-g.auto.ahead)))
