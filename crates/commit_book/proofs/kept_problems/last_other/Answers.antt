use Rattle.std.proofs.Common.{◌≡◌, ◌+◌, ◌-◌, ◌<◌, arith, length, subst}
use Rattle.commit_book.proofs.KeptTables.{AreBareFrom, bare_there, last_there, no_other, none_behind, one_before}
use Rattle.commit_book.proofs.kept_problems.last_other.Goals as goal
use Rattle.commit_book.proofs.kept_problems.last_other.Goals.{else-k-index-via-then-k-index+else-is_some, else-k-index-via-else-k-index}

pub loop-behind-init : goal.loop-behind-init
loop-behind-init c = none_behind c.args.kept.now c.args.index _ (omega arith)

pub returns-then-is_some : goal.returns-then-is_some
returns-then-is_some c =
    let n = length c.args.kept.now - 1 - c.loop-behind.behind in
    let next : length c.args.kept.now - c.loop-behind.behind ≡ n + 1 = omega (arith, c.loop-behind-test.true) in
    let within : n < length c.args.kept.now = omega (arith, c.loop-behind-test.true) in
    last_there c.args.kept.now c.args.index n _ c.index-kept-k.result c.is_some.result next within c.if-k-index.true c.index-kept-k.is c.is_some.ensures c.if-is_some.true c.loop-behind.invariant

pub loop-behind-preserved : goal.loop-behind-preserved
loop-behind-preserved c =
    let n = length c.args.kept.now - 1 - c.loop-behind.behind in
    let next : length c.args.kept.now - c.loop-behind.behind ≡ n + 1 = omega (arith, c.loop-behind-test.true) in
    let within : n < length c.args.kept.now = omega (arith, c.loop-behind-test.true) in
    let same : n ≡ length c.args.kept.now - (c.loop-behind.behind + 1) = omega arith in
    subst (AreBareFrom c.args.kept.now c.args.index) same (
    elim c.else-k-index.branch [
      | else-k-index-via-then-k-index+else-is_some w ↦
          one_before c.args.kept.now c.args.index n _ next (λ not one there. bare_there c.args.kept.now n w.index-kept-k.result one w.is_some.result within w.index-kept-k.is w.is_some.ensures w.if-is_some.false there) c.loop-behind.invariant
      | else-k-index-via-else-k-index w ↦ one_before c.args.kept.now c.args.index n _ next (λ not one there. absurd (not w.if-k-index.false)) c.loop-behind.invariant
    ]
    )

pub returns : goal.returns
returns c = no_other c.args.kept.now c.args.index _ (omega (arith, c.loop-behind-test.false)) c.loop-behind.invariant
