use Rattle.std.proofs.Common.{◌≡◌, Some}
use Rattle.line_network.specs.inner.Lengths.{known}
use Rattle.line_network.specs.inner.Turns.{waiting_of, waits}
use Rattle.std.specs.List.{AllWithin}
use Rattle.line_network.specs.inner.Search.{label_at, plus_line, AreBounded, LabelAtMost, Improves}
use Rattle.line_network.specs.inner.Steps.{line_from}
use Rattle.line_network.proofs.search.relax_lines.Given as goal

abbrev pub invariant-loop-step : goal.invariant-loop-step
invariant-loop-step l = record {
  improves : Improves l.lines.lines.items (known l.fn.labels) (known l.labels) (waits l.fn.waiting) (waits l.waiting);
  bounded : AreBounded (known l.labels);
  label : label_at (known l.labels) (waiting_of l.at).place ≡ Some (waiting_of l.at).distance;
  relaxed : AllWithin (λ s. LabelAtMost (label_at (known l.labels) s.to) (plus_line (waiting_of l.at).distance (line_from (waiting_of l.at).place s))) l.step-items 0 l.step-index;
}
