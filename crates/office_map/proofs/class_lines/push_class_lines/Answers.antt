use Rattle.office_map.specs.Wagons.{class_at}
use Rattle.office_map.proofs.Loops.{range_pushed}
use Rattle.office_map.proofs.class_lines.push_class_lines.Goals as goal

pub loop-i-preserved : goal.loop-i-preserved
loop-i-preserved c = range_pushed (class_at c.args.rows.now) _ _ _ c.loop-i.i c.loop-i.invariant (c.in_ok-push_class_at.ensures {u = tt})
