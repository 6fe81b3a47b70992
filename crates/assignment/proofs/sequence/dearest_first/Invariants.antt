use Rattle.assignment.proofs.Counting.{IsBegun}
use Rattle.assignment.proofs.sequence.dearest_first.Given as goal

abbrev pub invariant-orders : goal.invariant-orders
invariant-orders l = IsBegun l.j l.sequence.items
