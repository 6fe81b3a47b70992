use Rattle.std.proofs.Common.{◌≡◌, ◌<◌, ℕ}
use Rattle.std.specs.Prelude.{Some, slice_get}
use Rattle.wagons_and_orders.specs.Wanted.{WantedOrder}
use Rattle.problem_table.proofs.moved.have_same_texts.Given as goal

-- The orders so far are the same.
abbrev pub invariant-loop-k : goal.invariant-loop-k
invariant-loop-k l = (i : ℕ) (a b : WantedOrder) → i < l.k → slice_get l.one i ≡ Some a → slice_get l.other i ≡ Some b → b.order ≡ a.order
