use Rattle.std.proofs.Common.{◌<◌, ◌∙◌, length, refl, sym}
use Rattle.commit_book.proofs.KeptTables.{all_tables, none_yet, one_bare, one_fewer, passed, put_there, two_tables}
use Rattle.commit_book.proofs.kept_problems.forget_tables.Goals as goal
use Rattle.commit_book.proofs.kept_problems.forget_tables.Goals.{then-k-index+then-k-other, else-k-index}

pub loop-k-init : goal.loop-k-init
loop-k-init c = (all_tables c.args.kept.now, none_yet c.args.kept.now c.args.index c.last_other-other.result, refl, refl)

pub loop-k-preserved : goal.loop-k-preserved
loop-k-preserved c = elim c.if-k-index.branch [
  | then-k-index+then-k-other w ↦
      let within : c.loop-k.k < length c.loop-k.kept = rw c.loop-k.auto.kept c.loop-k-test.true in
      rw w.kept-is (
        one_fewer c.args.kept.now c.loop-k.kept c.loop-k.k w.index-kept-k.result _ within refl refl refl refl c.loop-k.invariant.0,
        one_bare c.loop-k.kept c.args.index c.last_other-other.result c.loop-k.k _ refl c.loop-k.invariant.1,
        put_there c.loop-k.kept c.loop-k.k c.args.index _ (λ same. w.if-k-index.true (sym same)) ∙ c.loop-k.invariant.2,
        put_there c.loop-k.kept c.loop-k.k c.last_other-other.result _ (λ same. w.if-k-other.true (sym same)) ∙ c.loop-k.invariant.3,
      )
  | else-k-index w ↦ rw w.kept-is (c.loop-k.invariant.0, passed c.loop-k.kept c.args.index c.last_other-other.result c.loop-k.k w.else-k-index.either c.loop-k.invariant.1, c.loop-k.invariant.2, c.loop-k.invariant.3)
]

pub returns-clause-fewer : goal.returns-clause-fewer
returns-clause-fewer c = c.loop-k.invariant.0

pub returns-clause-few : goal.returns-clause-few
returns-clause-few c =
    two_tables c.args.kept.now c.loop-k.kept c.args.index c.last_other-other.result c.loop-k.k c.last_other-other.ensures (rw c.loop-k.auto.kept c.loop-k-test.false) c.loop-k.invariant.1 c.loop-k.invariant.2 c.loop-k.invariant.3
