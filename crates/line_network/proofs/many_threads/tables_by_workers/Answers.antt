use Rattle.std.proofs.Common.{arith}
use Rattle.std.proofs.lemmas.List.Sorted.{All-permutation}
use Rattle.line_network.specs.NetworkLimits.{IsLine}
use Rattle.line_network.proofs.Turning.{All-IsLine-turned}
use Rattle.line_network.proofs.Walks.{AreRows-permutation}
use Rattle.line_network.proofs.many_threads.tables_by_workers.Goals as goal

pub answers_of_workers-requires-after_bounds : goal.answers_of_workers-requires-after_bounds
answers_of_workers-requires-after_bounds g c κs within =
    let all = rw (← c.lines.ensures.lines, ← c.places-places.ensures.count) at c.places-places.ensures.network.lines in
    record {
      few = omega (arith, c.places-places.ensures.count, c.places-places.ensures.network.few_places);
      indexed = omega (arith, c.in_ok-lines.ensures.places, c.in_ok-lines.lines.starts.ok.0);
      each_line = All-permutation (IsLine c.places-places.result) _ _ c.in_ok-lines.ensures.lines (rw c.in_ok-turned_lines.ensures (All-IsLine-turned _ _ all));
      some = omega (arith, c.if-workers-lt1.false);
    }

pub invariant_of-result : goal.invariant_of-result
invariant_of-result g c = rw (c.in_ok-network.ensures, ← c.lines.ensures.lines, ← c.places-places.ensures.count, ← c.in_ok-turned_lines.ensures) (rw (← c.places-places.ensures.count) at c.places-places.ensures.network.few_places, AreRows-permutation _ _ _ _ c.in_ok-lines.ensures.lines c.in_ok-rows.ensures)
