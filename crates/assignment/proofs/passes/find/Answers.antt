use Rattle.std.proofs.Common.{arith, inl, inr}
use Rattle.std.proofs.lemmas.Bool.{cases_lt}
use Rattle.assignment.proofs.Passing.{none_in_block}
use Rattle.assignment.proofs.passes.find.Goals as goal

pub blocks-2-preserved : goal.blocks-2-preserved
blocks-2-preserved c =
    let h = c.blocks-2.invariant in
    let from = h.from in
    record {
      from = omega (arith, from);
      before = omega arith;
      none = λ g start to is. elim (cases_lt g c.blocks-2.block) [
        | inl before ↦ h.none g start before is
        | inr after ↦ none_in_block c.args.numbers.now c.blocks-2.block 32 c.args.number g (c.has.ensures c.if-not-has.true) (omega arith) after to is
      ];
    }
