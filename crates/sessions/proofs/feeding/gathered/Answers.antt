use Rattle.std.proofs.Common.{◌≡◌, [], ap, arith, length, map}
use Rattle.std.specs.Vec.Iter.{into_iter_items}
use Rattle.sessions.specs.inner.Fed.{handed_to}
use Rattle.sessions.proofs.FedFiles.{fed_all, fed_next, fed_none}
use Rattle.sessions.proofs.Handles.{none_left}
use Rattle.sessions.proofs.feeding.gathered.Goals as goal

pub loop-handle-init : goal.loop-handle-init
loop-handle-init g c =
    let items = c.into_iter-handle-iterator.ensures.into_iter_gives.0 in
    let with_room = c.requires in
    record {
      fed = fed_none g.L.BookLedger.setting g.R.Source.remaining g.R.Source.has_failed _ _ _ _ _ with_room.no_file with_room.no_seat with_room.none_refused (ap (map (λ handle. handed_to handle.promise)) items);
      room = omega (arith, ap length items, c.args.running.ok.0, ap length with_room.no_file, c.args.files.ok.0, with_room.file_room);
      seats = omega (arith, ap length items, c.args.running.ok.0, ap length with_room.no_seat, c.args.seats.ok.0, with_room.seat_room);
      refused = omega (arith, ap length items, c.args.running.ok.0, ap length with_room.none_refused, c.args.refused_wagons.ok.0, with_room.refused_room);
    }

pub loop-handle-preserved : goal.loop-handle-preserved
loop-handle-preserved g c =
    let file = c.join-seat.ensures in
    let before = c.loop-handle.invariant in
    record {
      fed = fed_next g.L.BookLedger.setting g.R.Source.remaining g.R.Source.has_failed (handed_to c.in-Some.handle.promise) _ _ _ _ _ _ _ _ _ _ _ _ before.fed (ap (map (λ handle. handed_to handle.promise)) c.in-Some.ensures.steps.0)
          (record { run = rw c.count-accepted.ensures file.run; counts = file.counts; lines = file.lines; accepted = c.count-accepted.ensures; out_of_step = file.out_of_step })
          c.push_reserved.ensures.items c.push_reserved-in-loop-handle.ensures.items c.push_reserved-in-loop-handle-2.ensures.items;
      room = omega (arith, ap length c.in-Some.ensures.steps.0, c.push_reserved.ensures.len, c.push_reserved.ensures.capacity, before.room);
      seats = omega (arith, ap length c.in-Some.ensures.steps.0, c.push_reserved-in-loop-handle.ensures.len, c.push_reserved-in-loop-handle.ensures.capacity, before.seats);
      refused = omega (arith, ap length c.in-Some.ensures.steps.0, c.push_reserved-in-loop-handle-2.ensures.len, c.push_reserved-in-loop-handle-2.ensures.capacity, before.refused);
    }

pub returns : goal.returns
returns g c =
    let left = c.loop-handle.handle-iterator in
    let none : into_iter_items left ≡ [] = none_left (into_iter_items left) (omega (arith, c.in-None.ensures.steps.0)) in
    fed_all g.L.BookLedger.setting g.R.Source.remaining g.R.Source.has_failed _ _ _ _ _ c.loop-handle.invariant.fed (ap (map (λ handle. handed_to handle.promise)) none)
