use Rattle.std.proofs.Common.{◌+◌, ◌==◌, ◌∙◌, ℕ, Bool, cond, get_or, set, take, refl, ap, arith, length-take-le}
use Rattle.std.proofs.lemmas.Bool.Decides.{nat_tests}
use Rattle.std.proofs.lemmas.Grind.{get_or_default_zero}
use Rattle.std.proofs.lemmas.List.Sums.{count_by-le-length}
use Rattle.cost_table.specs.Plan.{serves}
use Rattle.plan_reasons.proofs.CellCounts.{counted_more, more_at}
use Rattle.plan_reasons.proofs.cell_counts.served.Goals as goal

pub overflow_add-index_mut : goal.overflow_add-index_mut
overflow_add-index_mut c =
    let pairs = c.args.pairs.now in
    let i = c.loop-pair.pair-index in
    let pair : ℕ × ℕ = get_or pairs i (0, 0) in
    let few = count_by-le-length (λ (p : ℕ × ℕ). p.1 == pair.1) (take i pairs) in
    let is = c.loop-pair.invariant.1 pair.1 (c.requires i (0, 0) c.loop-pair-test.true) in
    let read = get_or_default_zero c.loop-pair.counts.items pair.1 c.index_mut.result.now (omega (arith, c.loop-pair.invariant.0, c.requires i (0, 0) c.loop-pair-test.true)) in
    omega (arith, few, is, read, length-take-le i pairs (omega arith), c.index_mut.ensures.value)

pub loop-pair-preserved : goal.loop-pair-preserved
loop-pair-preserved c =
    let pairs = c.args.pairs.now in
    let i = c.loop-pair.pair-index in
    let pair : ℕ × ℕ = get_or pairs i (0, 0) in
    let as_number : Bool → ℕ = λ b. cond b 1 0 in
    let more = λ (j : ℕ). counted_more (λ (p : ℕ × ℕ). p.1 == j) pairs i pair (0, 0) c.loop-pair-test.true refl in
    more_at c.args.orders (λ j. serves j (take i pairs)) (λ j. serves j (take (i + 1) pairs)) c.loop-pair.counts.items _ pair.1 1 c.loop-pair.invariant (c.requires i (0, 0) c.loop-pair-test.true)
    (ap (λ (n : ℕ). set c.loop-pair.counts.items pair.1 (n + 1)) (c.index_mut.ensures.value ∙ get_or_default_zero c.loop-pair.counts.items pair.1 c.index_mut.result.now (omega (arith, c.loop-pair.invariant.0, c.requires i (0, 0) c.loop-pair-test.true))))
    (grind (arith, nat_tests, more pair.1))
    (λ j apart. grind (arith, nat_tests, more j, apart))
