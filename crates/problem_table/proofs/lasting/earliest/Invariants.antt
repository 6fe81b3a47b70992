use Rattle.std.proofs.Common.{ℕ, ◌≤◌, ◌<◌, ◌^◌, take}
use Rattle.std.specs.Prelude.{All}
use Rattle.problem_table.proofs.lasting.earliest.Given as goal

abbrev pub invariant-loop-last : goal.invariant-loop-last
invariant-loop-last l = record {
  least : All (λ last. l.least ≤ last) (take l.last-index l.lasts);
  held : (at : ℕ) → at < 2 ^ 64 → All (λ last. at ≤ last) l.lasts → at ≤ l.least;
}
