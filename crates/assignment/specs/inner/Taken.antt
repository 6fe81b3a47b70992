-- What taking in units of an order leaves of a state.
use Rattle.std.specs.Prelude.{◌≡◌, ℕ}
use Rattle.assignment.specs.declared.state.State.{State}
use Rattle.assignment.specs.inner.State.{AreCounted, IsState, kept, more}

-- the state after so many units more of order j are taken in
pub record HasTaken (before after : State) (j units : ℕ) : Type 0 where
  pub state : IsState after
  pub counted : (taken : ℕ → ℕ) → AreCounted (kept before) taken → AreCounted (kept after) (more j units taken)
  pub table : after.cells.now ≡ before.cells.now
  pub groups : after.groups ≡ before.groups
