use Rattle.std.proofs.Common.{◌≡◌, ℕ, List, take}
use Rattle.std.specs.BTreeMap.{get}
use Rattle.fleet_rows.specs.Kept.{compare_numbers}
use Rattle.last_texts.specs.Movers.{last_mover}
use Rattle.last_texts.proofs.movers.last_movers.Given as goal

-- the movers of the entries so far
abbrev pub invariant-loop-n : goal.invariant-loop-n
invariant-loop-n l = (number : List ℕ) → get compare_numbers l.movers number ≡ last_mover (take l.n l.book.state.history) number
