-- Wagons with the same row.
use Rattle.std.specs.Prelude.{◌≡◌, ℕ, max}
use Rattle.wagons_and_orders.specs.declared.free_wagon.FreeWagon.{FreeWagon}

-- two wagons that reach the same orders from a moment on
pub record AreAlike (at : ℕ) (one other : FreeWagon) : Type 0 where
  pub place : one.place ≡ other.place
  pub class : one.class ≡ other.class
  pub load_limit : one.load_limit ≡ other.load_limit
  pub start : max one.ready at ≡ max other.ready at
