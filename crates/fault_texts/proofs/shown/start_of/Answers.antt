use Rattle.std.proofs.Common.{arith, sym}
use Rattle.std.proofs.lemmas.List.{length-take-le, take_all}
use Rattle.fault_texts.proofs.shown.start_of.Goals as goal

pub slice_bounds-result-end : goal.slice_bounds-result-end
slice_bounds-result-end c = sym (length-take-le 60 c.args.field.now (omega (arith, c.if-field-le-MAX_SHOWN.false)))

pub returns-then-field-le-MAX_SHOWN : goal.returns-then-field-le-MAX_SHOWN
returns-then-field-le-MAX_SHOWN c = sym (take_all 60 c.args.field.now (omega (arith, c.if-field-le-MAX_SHOWN.true)))
