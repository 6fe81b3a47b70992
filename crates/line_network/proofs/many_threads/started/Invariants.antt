use Rattle.std.proofs.Common.{◌≡◌, ◌<◌, ◌≤◌, ℕ, vec_len, get_or}
use Rattle.std.specs.Vec.{vec_capacity}
use Rattle.line_network.proofs.many_threads.started.Given as goal

abbrev pub invariant-loop-worker : goal.invariant-loop-worker
invariant-loop-worker g l = record {
  count : vec_len l.running ≡ l.worker;
  room : l.work.workers ≤ vec_capacity l.running;
  own : (k : ℕ) (d : _) → k < l.worker → (get_or l.running.items k d).promise ≡ record { work = l.work; worker = k };
}
