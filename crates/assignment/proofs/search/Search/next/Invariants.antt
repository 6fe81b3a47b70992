use Rattle.std.proofs.Common.{◌≡◌, ◌≤◌, ◌+◌, ◌-◌, ◌*◌, get_or, length, min}
use Rattle.std.specs.List.{count_by}
use Rattle.assignment.specs.inner.Passes.{IsNearest}
use Rattle.assignment.specs.inner.State.{kept}
use Rattle.assignment.specs.inner.Search.{IsSearch}
use Rattle.assignment.proofs.Ending.{leads_on}
use Rattle.assignment.proofs.Running.{IsBelow}
use Rattle.assignment.proofs.search.Search.next.Given as goal

abbrev pub invariant-groups : goal.invariant-groups
invariant-groups l = record {
  search : IsSearch (kept l.state) l.self (length l.self.orders.items);
  orders : l.self.orders.items ≡ l.initial.self.orders.items;
  end : l.self.end ≡ l.initial.self.end;
  front : l.self.front ≡ l.initial.self.front;
  from : l.self.span.start ≤ l.span.start;
  ordered : l.span.start ≤ l.span.end;
  before : l.span.end ≡ l.self.span.end;
  below : IsBelow l.self l.onward;
  nearest : l.span.start ≡ l.self.span.start → IsNearest (λ g. get_or l.self.ahead.items g 0) l.onward (length l.self.ahead.items);
}

abbrev pub decreases-groups : goal.decreases-groups
decreases-groups l = 2 * count_by leads_on l.self.ahead.items + min (l.span.start - l.self.span.start) 1
