use Rattle.std.proofs.Common.{ap, arith, sym, ◌∙◌}
use Rattle.std.specs.Cmp.Lexicographic.{slice_cmp}
use Rattle.std.specs.Ordering.{nat_cmp, ordering_then}
use Rattle.rail_codes.proofs.Words.{by_four, rest_ascii, settled}
use Rattle.rail_codes.proofs.ascii_order.order_by_four.Goals as goal

pub returns-in-Equal : goal.returns-in-Equal
returns-in-Equal c =
    let step = by_four c.args.text.now c.args.other.now c.in-Some-Some.first.now c.in-Some-Some.rest.now c.in-Some-Some.other_first.now c.in-Some-Some.other_rest.now c.cmp.result c.in-Some-Some.ensures.cases c.in-Some-Some.ensures'.cases c.requires.text c.requires.other (grind (arith)) in
    c.order_by_three.ensures ∙ sym (step ∙ ap (λ o. ordering_then o (slice_cmp nat_cmp c.in-Some-Some.rest.now c.in-Some-Some.other_rest.now)) c.in-Equal.is)

pub returns-in_default-cmp : goal.returns-in_default-cmp
returns-in_default-cmp c =
    let step = by_four c.args.text.now c.args.other.now c.in-Some-Some.first.now c.in-Some-Some.rest.now c.in-Some-Some.other_first.now c.in-Some-Some.other_rest.now c.cmp.result c.in-Some-Some.ensures.cases c.in-Some-Some.ensures'.cases c.requires.text c.requires.other (grind (arith)) in
    sym (step ∙ settled c.cmp.result (slice_cmp nat_cmp c.in-Some-Some.rest.now c.in-Some-Some.other_rest.now) c.in_default-cmp.not-Equal)

pub order_by_three-requires-clause-text : goal.order_by_three-requires-clause-text
order_by_three-requires-clause-text c = rest_ascii 4 c.args.text.now c.in-Some-Some.rest.now c.in-Some-Some.ensures.cases.1 c.requires.text

pub order_by_three-requires-clause-other : goal.order_by_three-requires-clause-other
order_by_three-requires-clause-other c = rest_ascii 4 c.args.other.now c.in-Some-Some.other_rest.now c.in-Some-Some.ensures'.cases.1 c.requires.other
