use Rattle.std.proofs.lemmas.List.Sorted.{All-permutation}
use Rattle.line_network.specs.NetworkLimits.{IsLine}
use Rattle.line_network.proofs.Turning.{All-IsLine-turned}
use Rattle.line_network.proofs.Walks.{AreRows-permutation}
use Rattle.line_network.proofs.one_thread.tables.Goals as goal

pub rows_of_origins-requires-clause-lines : goal.rows_of_origins-requires-clause-lines
rows_of_origins-requires-clause-lines c =
    let all = rw (← c.lines.ensures.lines, ← c.places-places.ensures.count) at c.places-places.ensures.network.lines in
    All-permutation (IsLine c.places-places.result) _ _ c.in_ok-lines.ensures.lines (rw c.in_ok-turned_lines.ensures (All-IsLine-turned _ _ all))

pub invariant_of-result : goal.invariant_of-result
invariant_of-result c = rw (c.in_ok-network.ensures, ← c.lines.ensures.lines, ← c.places-places.ensures.count, ← c.in_ok-turned_lines.ensures) (rw (← c.places-places.ensures.count) at c.places-places.ensures.network.few_places, AreRows-permutation _ _ _ _ c.in_ok-lines.ensures.lines c.in_ok-rows.ensures)
