use Rattle.std.proofs.Common.{refl, arith}
use Rattle.wagons_program.proofs.FirstLineLemmas.{left_behind_feed, left_behind_other, none_more, one_more, some_taken, whole_piece}
use Rattle.wagons_program.proofs.first_lines.front_of.Goals.{then-byte-eq10, else-byte-eq10}
use Rattle.wagons_program.proofs.first_lines.front_of.Goals as goal

pub loop-index-init : goal.loop-index-init
loop-index-init c = record { first = λ rest. refl; some = λ z. refl }

pub returns-then-left-eq0-clause-some : goal.returns-then-left-eq0-clause-some
returns-then-left-eq0-clause-some c = λ some long. some_taken _ _ _ c.loop-index.invariant.some c.if-left-eq0.true some

pub returns-then-left-eq0-clause-first : goal.returns-then-left-eq0-clause-first
returns-then-left-eq0-clause-first c = none_more _ _ _ _ c.if-left-eq0.true c.loop-index.invariant.first

pub loop-index-preserved : goal.loop-index-preserved
loop-index-preserved c = record {
  first = one_more c.args.piece.now c.loop-index.index c.args.lines c.loop-index.left c.if-byte-eq10.left (omega arith) (omega arith)
      (elim c.if-byte-eq10.branch [
        | then-byte-eq10 w ↦ left_behind_feed _ _ _ w.if-byte-eq10.true w.left-is
        | else-byte-eq10 w ↦ left_behind_other _ _ _ w.if-byte-eq10.false w.left-is
      ])
      c.loop-index.invariant.first;
  some = λ z. absurd (omega arith);
}

pub returns-clause-first : goal.returns-clause-first
returns-clause-first c = whole_piece _ _ _ _ (omega arith) c.loop-index.invariant.first
