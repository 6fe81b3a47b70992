use Rattle.std.proofs.Common.{◌<◌, ℕ, get_or}
use Rattle.assignment.specs.inner.State.{kept}
use Rattle.assignment.specs.inner.Search.{IsReachedFrom, distance_at, settled_at}
use Rattle.assignment.proofs.search.Search.index_of.Given as goal

abbrev pub invariant-indexes : goal.invariant-indexes
invariant-indexes l = (x : ℕ) → x < l.index → IsReachedFrom (kept l.state) l.self (distance_at l.self (settled_at l.self l.end)) (get_or l.self.via.items l.end 0) x → ⊥
