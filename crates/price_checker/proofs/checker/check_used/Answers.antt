use Rattle.std.proofs.Common.{◌≡◌, true, false, arith, sym, length, slice_index_or, take}
use Rattle.std.proofs.lemmas.Bool.Decides.{nat_tests}
use Rattle.faults.specs.declared.faults.CheckFault.TheVariants.{UsedTwice}
use Rattle.price_checker.specs.Faults.{is_spent, spent_at}
use Rattle.price_checker.proofs.FirstBelow.{first_below_some, first_below_more}
use Rattle.price_checker.proofs.UsedPairs.{spent_at-there}
use Rattle.price_checker.proofs.checker.check_used.Goals as goal
use Rattle.price_checker.proofs.checker.check_used.Goals.{then-uses-gt0-via-then-uses-gt0, then-uses-gt0-via-else-uses-gt0+then-serves-lack}

pub returns-then-uses-gt0 : goal.returns-then-uses-gt0
returns-then-uses-gt0 c =
    let t = c.args.cells.now in
    let pairs = c.args.pairs.now in
    let k = c.loop-k.k in
    let pair = slice_index_or pairs k (0, 0) in
    let spent : is_spent t (take k pairs) pair ≡ true = elim c.then-uses-gt0.branch [
      | then-uses-gt0-via-then-uses-gt0 w ↦ grind (arith, nat_tests, c.uses.ensures, w.if-uses-gt0.true)
      | then-uses-gt0-via-else-uses-gt0+then-serves-lack w ↦ grind (arith, nat_tests, w.serves.ensures, w.lack.ensures.value, w.if-serves-lack.true)
    ] in
    sym (first_below_some (length pairs) k (spent_at t pairs) (UsedTwice pair.0 pair.1) c.loop-k-test.true c.loop-k.invariant (spent_at-there t pairs k (0, 0) true c.loop-k-test.true spent))

pub loop-k-preserved : goal.loop-k-preserved
loop-k-preserved c =
    let t = c.args.cells.now in
    let pairs = c.args.pairs.now in
    let k = c.loop-k.k in
    let spent : is_spent t (take k pairs) (slice_index_or pairs k (0, 0)) ≡ false =
    grind (arith, nat_tests, c.uses.ensures, c.if-uses-gt0.false, c.serves.ensures, c.lack.ensures.value, c.if-serves-lack.false) in
    first_below_more k (spent_at t pairs) c.loop-k.invariant (spent_at-there t pairs k (0, 0) false c.loop-k-test.true spent)
