use Rattle.std.proofs.Common.{◌+◌, ◌≤◌, length, map, vec_len}
use Rattle.std.specs.Vec.{vec_capacity}
use Rattle.std.specs.Vec.Iter.{into_iter_items}
use Rattle.sessions.specs.inner.Fed.{handed_to}
use Rattle.sessions.proofs.FedFiles.{AreFedBefore}
use Rattle.sessions.proofs.feeding.gathered.Given as goal

abbrev pub invariant-loop-handle : goal.invariant-loop-handle
invariant-loop-handle g l = record {
  fed : AreFedBefore g.L.BookLedger.setting g.R.Source.remaining g.R.Source.has_failed (map (λ handle. handed_to handle.promise) (into_iter_items l.handle-iterator)) (map (λ handle. handed_to handle.promise) l.fn.running.items) l.files.items l.seats.items l.refused_wagons.items;
  room : vec_len l.files + length (into_iter_items l.handle-iterator) ≤ vec_capacity l.files;
  seats : vec_len l.seats + length (into_iter_items l.handle-iterator) ≤ vec_capacity l.seats;
  refused : vec_len l.refused_wagons + length (into_iter_items l.handle-iterator) ≤ vec_capacity l.refused_wagons;
}
