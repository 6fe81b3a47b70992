use Rattle.std.proofs.Common.{◌-◌}
use Rattle.assignment.specs.inner.Passes.{IsSpanOf}
use Rattle.assignment.proofs.Spans.{span_of}
use Rattle.assignment.proofs.passes.narrowed.Given as goal

abbrev pub invariant-starts : goal.invariant-starts
invariant-starts l = IsSpanOf l.ahead (span_of l.start l.span.end)

abbrev pub decreases-starts : goal.decreases-starts
decreases-starts l = l.span.end - l.start

abbrev pub invariant-ends : goal.invariant-ends
invariant-ends l = IsSpanOf l.ahead (span_of l.start l.end)

abbrev pub decreases-ends : goal.decreases-ends
decreases-ends l = l.end - l.start
