use Rattle.std.proofs.Common.{◌≡◌, ◌+◌, ◌-◌, ◌<◌, List, ℕ, length, false}
use Rattle.line_engine.proofs.Reading.{ReadSoFar}
use Rattle.line_engine.proofs.window.Window.read_line.Given as goal

abbrev pub invariant-loop-self : goal.invariant-loop-self
invariant-loop-self g l =
    (taken : List ℕ) × ReadSoFar (g.R.Source.remaining l.fn.reader) (g.R.Source.remaining l.reader) l.fn.self taken l.line.bytes l.self × (0 < length l.self)
    × (l.line.most ≡ l.fn.line.most)
    × (g.R.Source.has_failed l.fn.reader ≡ false → g.R.Source.has_failed l.reader ≡ false)

abbrev pub decreases-loop-self : goal.decreases-loop-self
decreases-loop-self g l = (l.line.most + 1) - length l.line.bytes
