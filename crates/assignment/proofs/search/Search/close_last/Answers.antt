use Rattle.std.proofs.Common.{◌-◌, length}
use Rattle.assignment.specs.inner.State.{kept}
use Rattle.assignment.proofs.Closing.{search_narrowed}
use Rattle.assignment.proofs.search.Search.close_last.Goals as goal

pub returns-clause-search : goal.returns-clause-search
returns-clause-search c =
    let f = c.units.self in
    search_narrowed (kept c.args.state.now) f (length f.orders.items - 1) c.narrowed-self.result c.units.invariant.search (rw (c.deref.ensures.value) at c.narrowed-self.ensures)
