use Rattle.std.proofs.Common.{◌≡◌, take}
use Rattle.commit_book.proofs.same_problem.are_same_orders.Given as goal

-- the orders so far are the same
abbrev pub invariant-loop-k : goal.invariant-loop-k
invariant-loop-k l = take l.k l.one ≡ take l.k l.other
