use Rattle.std.proofs.Common.{◌≡◌, ◌+◌, ◌<◌, ℕ, List, Option, length, get_or, arith}
use Rattle.assignment.specs.inner.State.{AreServed, served}

-- the numbers change as the orders' wagons do
pub served_more : (n : ℕ) (h h' : List (Option ℕ)) (numbers numbers' : List ℕ) (less more : ℕ → ℕ) → AreServed n h numbers → length numbers' ≡ n → ((k : ℕ) → served k h' + less k ≡ served k h + more k) → ((k : ℕ) → k < n → get_or numbers' k 0 + less k ≡ get_or numbers k 0 + more k) → AreServed n h' numbers'
served_more n h h' numbers numbers' less more was len count step = record {
  count = len;
  each = λ k l. let a = was.each k l in let b = count k in let c = step k l in omega (arith, a, b, c);
}
