use Rattle.std.proofs.Common.{◌≡◌, ℕ, ◌++◌, List, take, drop}
use Rattle.wagons_program.specs.FirstLines.{first_lines}
use Rattle.wagons_program.proofs.first_lines.front_of.Given as goal

-- the bytes before are in front, and so many lines are to come behind them; at the first byte all are
abbrev pub invariant-loop-index : goal.invariant-loop-index
invariant-loop-index l = record {
  first : (rest : List ℕ) → first_lines (l.piece ++ rest) l.lines ≡ take l.index l.piece ++ first_lines (drop l.index l.piece ++ rest) l.left;
  some : l.index ≡ 0 → l.left ≡ l.lines;
}
