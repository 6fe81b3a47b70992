use Rattle.std.proofs.Common.{◌≡◌, length}
use Rattle.line_engine.proofs.Writing.{WrittenSoFar}
use Rattle.line_engine.proofs.run.write_all.Given as goal

abbrev pub invariant-loop-rest : goal.invariant-loop-rest
invariant-loop-rest g l = WrittenSoFar (g.W.Sink.contents l.fn.writer) (g.W.Sink.contents l.writer) l.bytes l.rest
    × (g.W.Sink.has_failed l.writer ≡ g.W.Sink.has_failed l.fn.writer)

abbrev pub decreases-loop-rest : goal.decreases-loop-rest
decreases-loop-rest g l = length l.rest
