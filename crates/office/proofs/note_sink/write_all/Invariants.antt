use Rattle.std.proofs.Common.{length}
use Rattle.line_engine.proofs.Writing.{WrittenSoFar}
use Rattle.office.proofs.note_sink.write_all.Given as goal

abbrev pub invariant-loop-rest : goal.invariant-loop-rest
invariant-loop-rest g l = WrittenSoFar (g.N.Sink.contents l.fn.sink) (g.N.Sink.contents l.sink) l.bytes l.rest

abbrev pub decreases-loop-rest : goal.decreases-loop-rest
decreases-loop-rest g l = length l.rest
