use Rattle.std.proofs.Common.{◌≡◌, vec_len}
use Rattle.line_network.proofs.Walks.{AreFirstRows}
use Rattle.line_network.proofs.one_thread.rows_of_origins.Given as goal

abbrev pub invariant-loop-origin : goal.invariant-loop-origin
invariant-loop-origin l = record { count : vec_len l.rows ≡ l.origin; rows : AreFirstRows l.lines.lines.items l.places l.origin l.rows.items }
