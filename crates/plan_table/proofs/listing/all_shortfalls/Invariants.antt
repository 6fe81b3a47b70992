use Rattle.plan_table.specs.inner.Listed.{AreShortfalls}
use Rattle.plan_table.proofs.listing.all_shortfalls.Given as goal

abbrev pub invariant-loop-j : goal.invariant-loop-j
invariant-loop-j l = AreShortfalls l.planned l.j l.shortfalls.items
