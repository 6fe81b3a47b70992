use Rattle.std.proofs.Common.{◌≡◌, ◌+◌, ◌≤◌, ◌++◌, All, length, map, vec_len, false}
use Rattle.std.specs.Vec.{vec_capacity}
use Rattle.std.specs.Vec.Iter.{into_iter_items}
use Rattle.sessions.specs.Seat.{count_of}
use Rattle.sessions.specs.inner.Fed.{handed_to}
use Rattle.sessions.proofs.feeding.started.Given as goal

abbrev pub invariant-loop-reader : goal.invariant-loop-reader
invariant-loop-reader g l = record {
  readers : map (λ handle. handed_to handle.promise) l.running.items ++ into_iter_items l.reader-iterator ≡ l.fn.readers.items;
  fresh : All (λ reader. g.R.Source.has_failed reader ≡ false) (into_iter_items l.reader-iterator);
  new : All (λ seat. count_of seat ≡ 0) (into_iter_items l.seats);
  one_each : length (into_iter_items l.seats) ≡ length (into_iter_items l.reader-iterator);
  room : vec_len l.running + length (into_iter_items l.reader-iterator) ≤ vec_capacity l.running;
}
