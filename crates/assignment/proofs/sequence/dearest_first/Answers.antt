use Rattle.std.proofs.Common.{length, arith}
use Rattle.assignment.proofs.Counting.{begun_more, begun_all, sequence_permuted}
use Rattle.assignment.proofs.sequence.dearest_first.Goals as goal

pub orders-preserved : goal.orders-preserved
orders-preserved c = begun_more c.orders.j _ c.orders.sequence.items c.push.new.self.items c.orders.invariant c.in_ok-push.ensures.items

pub returns : goal.returns
returns c =
    let n = length c.args.v.now in
    let begun = begun_all c.orders.j n c.orders.sequence.items c.orders.invariant (omega (arith, c.orders-test.false, c.orders.auto.j-end)) in
    let sorted = sequence_permuted n c.orders.sequence.items c.sort.new.self.items c.sort.ensures.permutation begun in
    sequence_permuted n c.sort.new.self.items c.reverse.new.self.items c.reverse.ensures.permutation sorted
