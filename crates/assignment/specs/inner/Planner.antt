-- What a planner keeps before it plans.
use Rattle.std.specs.Prelude.{◌≡◌, length}
use Rattle.cost_table.specs.Table.{wagon_count, order_count}
use Rattle.assignment.specs.declared.planner.Planner.TheInside.{Inside}
use Rattle.assignment.specs.inner.State.{IsState, AreCounted, kept}
use Rattle.assignment.specs.inner.Search.{HasRoom}
use Rattle.assignment.specs.inner.Sequence.{IsSequence}

-- a state in which no unit is taken in, and the memory that planning takes
pub record IsReady (p : Inside) : Type 0 where
  pub state : IsState p.state
  pub counted : AreCounted (kept p.state) (λ k. 0)
  pub search : HasRoom (kept p.state) p.search
  pub sequence : IsSequence (order_count p.state.cells.now) p.sequence.items
  pub wagon_prices : length p.prices.u.items ≡ wagon_count p.state.cells.now
  pub order_prices : length p.prices.v.items ≡ order_count p.state.cells.now
  pub room : length p.pairs.items ≡ wagon_count p.state.cells.now
