use Rattle.std.proofs.Common.{◌≡◌, ◌+◌, ◌-◌, ◌≤◌, false}
use Rattle.line_engine.specs.Lines.{max_input_lines}
use Rattle.line_engine.proofs.Running.{StandsHere}
use Rattle.line_engine.proofs.run.run_replies.Given as goal

-- the lines so far are answered, what was read behind them is in the window
abbrev pub invariant-lines : goal.invariant-lines
invariant-lines g l = record {
  here : StandsHere g.H.Responder.replies l.fn.limit (g.R.Source.remaining l.fn.reader) (g.R.Source.remaining l.reader)
      (g.W.Sink.contents l.fn.writer) (g.W.Sink.contents l.writer) l.fn.state l.state (l.count.lines + 1) l.window l.count.refused;
  lines : l.count.lines ≤ max_input_lines;
  most : l.line.most ≡ l.fn.limit;
  refusals : l.count.refused ≤ l.count.lines;
  unended : l.count.unended ≡ false;
  reader : g.R.Source.has_failed l.reader ≡ false;
  writer : g.W.Sink.has_failed l.writer ≡ false;
}

abbrev pub decreases-lines : goal.decreases-lines
decreases-lines g l = max_input_lines - l.count.lines
