use Rattle.std.proofs.Common.{◌∙◌}
use Rattle.line_engine.proofs.Writing.{writes_on}
use Rattle.line_engine.proofs.run.write_all.Goals as goal

pub loop-rest-preserved : goal.loop-rest-preserved
loop-rest-preserved g c = (
  rw c.split_at.ensures.back (writes_on _ _ _ _ _ _ c.loop-rest.invariant.0 c.in_ok-count.ensures.bytes),
  c.in_ok-count.ensures.failure ∙ c.loop-rest.invariant.1,
)
