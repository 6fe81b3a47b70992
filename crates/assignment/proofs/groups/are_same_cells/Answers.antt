use Rattle.std.proofs.Common.{◌+◌, length, refl, arith}
use Rattle.std.proofs.lemmas.List.{ext_get_or}
use Rattle.assignment.proofs.Comparing.{part_compared}
use Rattle.assignment.proofs.groups.are_same_cells.Goals as goal

pub parts-preserved : goal.parts-preserved
parts-preserved c = record {
  within = omega (arith, c.parts-test.true);
  same = part_compared c.args.row.now c.args.other.now c.parts.x (c.parts.x + 16) c.parts.invariant.same (omega arith) (omega (arith, c.parts-test.true)) (omega (arith, c.parts-test.true, c.if-len-other.false)) (c.if-not-is_same_part.ensures refl);
}

pub returns : goal.returns
returns c = λ same. ext_get_or (0, 0) c.args.row.now c.args.other.now (omega (arith, c.if-len-other.false)) (λ k l. part_compared c.args.row.now c.args.other.now c.parts.x (length c.args.row.now) c.parts.invariant.same (omega arith) (omega arith) (omega (arith, c.if-len-other.false)) (c.is_same_part-2.ensures same) k (omega (arith, l)))
