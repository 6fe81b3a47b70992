use Rattle.std.proofs.Common.{sym, arith}
use Rattle.std.proofs.lemmas.List.{length-take-le, take_all}
use Rattle.office.proofs.member_notes.shown_front.Goals as goal

pub returns-then-name-le-MAX_SHOWN : goal.returns-then-name-le-MAX_SHOWN
returns-then-name-le-MAX_SHOWN c = sym (take_all 60 c.args.name.now c.if-name-le-MAX_SHOWN.true)

pub slice_bounds-result-end : goal.slice_bounds-result-end
slice_bounds-result-end c = sym (length-take-le 60 c.args.name.now (omega arith))
