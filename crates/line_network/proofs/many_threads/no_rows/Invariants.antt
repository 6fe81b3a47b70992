use Rattle.std.proofs.Common.{◌≡◌, vec_len}
use Rattle.line_network.proofs.many_threads.no_rows.Given as goal

abbrev pub invariant-loop : goal.invariant-loop
invariant-loop l = vec_len l.rows ≡ l.counter
