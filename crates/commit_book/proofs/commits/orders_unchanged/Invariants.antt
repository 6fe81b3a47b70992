use Rattle.std.proofs.Common.{◌≡◌, None}
use Rattle.price_checker.specs.Faults.{first_below}
use Rattle.commit_book.specs.Commits.{order_changed_at}
use Rattle.commit_book.proofs.commits.orders_unchanged.Given as goal

-- none of the pairs so far has an order that has changed
abbrev pub invariant-loop-k : goal.invariant-loop-k
invariant-loop-k l = first_below l.k (order_changed_at l.now.office l.pairs) ≡ None
