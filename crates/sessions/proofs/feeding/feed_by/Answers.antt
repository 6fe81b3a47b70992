use Rattle.std.proofs.Common.{ap, arith, length}
use Rattle.sessions.proofs.FedFiles.{reported, seats_by}
use Rattle.sessions.proofs.NewSeats.{length-new_seats, without_receipt}
use Rattle.sessions.proofs.feeding.feed_by.Goals as goal

pub fed_in_threads-requires-clause-ready : goal.fed_in_threads-requires-clause-ready
fed_in_threads-requires-clause-ready g c κs within =
    let seats = c.in-Ok-open_noted.seats in
    let room = c.in-Ok.ensures.running in
    record {
      fresh = c.requires.given.fresh;
      new = rw c.in-Ok-open_noted.ensures.seats (without_receipt c.len-count.result);
      one_each = omega (arith, ap length c.in-Ok-open_noted.ensures.seats, length-new_seats c.len-count.result, seats.ok.0, c.len-count.ensures);
      none = room.0;
      room = omega (arith, room.1, c.len-count.ensures);
    }

pub closed-requires : goal.closed-requires
closed-requires g c =
    let fed = c.in-Ok-fed_in_threads in
    let same = seats_by g.L.BookLedger.setting g.R.Source.remaining g.R.Source.has_failed fed.ensures in
    record {
      shared = omega (arith, same.0, fed.fed.seats.ok.0, c.args.readers.ok.0, c.len-count.ensures, c.in-Ok-open_noted.ensures.shared);
      seats = omega (arith, same.0, fed.fed.seats.ok.0, c.args.readers.ok.0, c.requires.given.few);
      refused = omega (arith, same.1, fed.fed.refused.ok.0, c.args.readers.ok.0, c.requires.given.few);
    }

pub returns-in-Ok-fed_in_threads : goal.returns-in-Ok-fed_in_threads
returns-in-Ok-fed_in_threads g c =
    let fed = c.in-Ok-fed_in_threads in
    let closed = c.closed.ensures in
    record { report = reported g.L.BookLedger.setting g.R.Source.remaining g.R.Source.has_failed c.args.readers.items fed.fed.files fed.fed.seats.items fed.fed.refused.items c.closed.result fed.ensures closed.files closed.receipts closed.entries closed.own closed.proved closed.crossing closed.whole closed.notes }
