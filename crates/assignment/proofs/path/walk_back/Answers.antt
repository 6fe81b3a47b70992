use Rattle.std.proofs.Common.{arith}
use Rattle.std.proofs.lemmas.List.{get_or_read}
use Rattle.assignment.specs.inner.State.{kept}
use Rattle.assignment.proofs.Walk.{end_reached, handed_from, via_apart}
use Rattle.assignment.proofs.path.walk_back.Goals as goal

pub hand_on-requires-clause-reached : goal.hand_on-requires-clause-reached
hand_on-requires-clause-reached c = end_reached (kept c.args.state.now) c.args.search.now c.in-Some.wagon c.requires.path c.in-Some.is

pub hand_on-requires-then-index-gt0-clause-apart : goal.hand_on-requires-then-index-gt0-clause-apart
hand_on-requires-then-index-gt0-clause-apart c = λ x pos le.
    let s = kept c.args.state.now in
    let f = c.args.search.now in
    let path = c.requires.path in
    let within = path.search.end.within path.some in
    let vias = path.search.settled.vias in
    let before = c.index_of.ensures.before in
    let via = get_or_read f.via.items f.end.index c.index.result.now (omega (arith, within, vias)) c.index.ensures 0 in
    via_apart s f x f.end.index c.index.result.now path pos (omega (arith, le, before)) within via

pub returns-then-index-gt0-clause-handed_on : goal.returns-then-index-gt0-clause-handed_on
returns-then-index-gt0-clause-handed_on c =
    let s = kept c.args.state.now in
    let f = c.args.search.now in
    let path = c.requires.path in
    let within = path.search.end.within path.some in
    let vias = path.search.settled.vias in
    let via = get_or_read f.via.items f.end.index c.index.result.now (omega (arith, within, vias)) c.index.ensures 0 in
    handed_from s f _ f.end.index c.index.result.now c.in-None.is c.if-index-gt0.true within via c.hand_on-then-index-gt0.ensures.handed_on
