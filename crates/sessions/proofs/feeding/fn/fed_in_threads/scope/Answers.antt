use Rattle.std.proofs.Common.{arith}
use Rattle.sessions.specs.inner.Fed.{handed_to}
use Rattle.sessions.proofs.Handles.{same_length}
use Rattle.sessions.proofs.feeding.fn.fed_in_threads.scope.Goals as goal

pub gathered-requires : goal.gathered-requires
gathered-requires g c =
    let running = c.in-Ok.running in
    let readers = c.captures.readers in
    let same = same_length (λ handle. handed_to handle.promise) running.items readers.items c.in-Ok.ensures in
    record {
      no_file = c.requires.room.no_file;
      file_room = omega (arith, same, running.ok.0, readers.ok.0, c.requires.room.file_room);
      no_seat = c.requires.room.no_seat;
      seat_room = omega (arith, same, running.ok.0, readers.ok.0, c.requires.room.seat_room);
      none_refused = c.requires.room.none_refused;
      refused_room = omega (arith, same, running.ok.0, readers.ok.0, c.requires.room.refused_room);
    }
