use Rattle.line_engine.proofs.Writing.{writes_on}
use Rattle.office.proofs.note_sink.write_all.Goals as goal

pub loop-rest-preserved : goal.loop-rest-preserved
loop-rest-preserved g c = rw c.split_at.ensures.back (writes_on _ _ _ _ _ _ c.loop-rest.invariant c.in_ok-count.ensures.bytes)
