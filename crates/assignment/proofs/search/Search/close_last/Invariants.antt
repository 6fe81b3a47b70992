use Rattle.std.proofs.Common.{◌≡◌, ◌-◌, length}
use Rattle.assignment.specs.inner.State.{kept}
use Rattle.assignment.specs.inner.Search.{IsSearch}
use Rattle.assignment.proofs.search.Search.close_last.Given as goal

abbrev pub invariant-units : goal.invariant-units
invariant-units l = record {
  search : IsSearch (kept l.state) l.self (length l.self.orders.items - 1);
  orders : l.self.orders.items ≡ l.initial.self.orders.items;
  end : l.self.end ≡ l.initial.self.end;
  front : l.self.front ≡ l.initial.self.front;
}
