use Rattle.office_map.specs.Lines.{line_part}
use Rattle.office_map.proofs.Loops.{range_pushed}
use Rattle.office_map.proofs.line_edges.push_lines.Goals as goal

pub loop-i-preserved : goal.loop-i-preserved
loop-i-preserved c = record {
  text = range_pushed (line_part c.args.named.now c.args.network.now c.args.shown.now) _ _ _ c.loop-i.i c.loop-i.invariant.text (c.in_ok-push_line_at.ensures {u = tt});
  drawn = c.takes_next-both.ensures;
}
