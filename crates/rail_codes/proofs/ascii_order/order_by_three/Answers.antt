use Rattle.std.proofs.Common.{ap, arith, sym, ◌∙◌}
use Rattle.std.specs.Cmp.Lexicographic.{slice_cmp}
use Rattle.std.specs.Ordering.{nat_cmp, ordering_then}
use Rattle.rail_codes.proofs.Words.{by_three, settled}
use Rattle.rail_codes.proofs.ascii_order.order_by_three.Goals as goal

pub returns-in-Equal : goal.returns-in-Equal
returns-in-Equal c =
    let step = by_three c.args.text.now c.args.other.now c.in-Some-Some.first.now c.in-Some-Some.rest.now c.in-Some-Some.other_first.now c.in-Some-Some.other_rest.now c.cmp.result c.in-Some-Some.ensures.cases c.in-Some-Some.ensures'.cases c.requires.text c.requires.other (rw (c.three_bytes.ensures, c.three_bytes-in-Some-Some.ensures) at c.cmp.ensures) in
    c.order_of_rest.ensures ∙ sym (step ∙ ap (λ o. ordering_then o (slice_cmp nat_cmp c.in-Some-Some.rest.now c.in-Some-Some.other_rest.now)) c.in-Equal.is)

pub returns-in_default-cmp : goal.returns-in_default-cmp
returns-in_default-cmp c =
    let step = by_three c.args.text.now c.args.other.now c.in-Some-Some.first.now c.in-Some-Some.rest.now c.in-Some-Some.other_first.now c.in-Some-Some.other_rest.now c.cmp.result c.in-Some-Some.ensures.cases c.in-Some-Some.ensures'.cases c.requires.text c.requires.other (rw (c.three_bytes.ensures, c.three_bytes-in-Some-Some.ensures) at c.cmp.ensures) in
    sym (step ∙ settled c.cmp.result (slice_cmp nat_cmp c.in-Some-Some.rest.now c.in-Some-Some.other_rest.now) c.in_default-cmp.not-Equal)
