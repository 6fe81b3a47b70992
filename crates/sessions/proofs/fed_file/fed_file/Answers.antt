use Rattle.std.proofs.Common.{refl}
use Rattle.sessions.proofs.FedSeats.{seat_fed}
use Rattle.sessions.proofs.FeedTallies.{file_run}
use Rattle.sessions.proofs.fed_file.fed_file.Goals as goal

pub returns : goal.returns
returns g c =
    let run = c.run_replies-run in
    let fed = seat_fed _ _ _ c.requires.new refl refl c.none.ensures c.new.ensures.items c.standard-limit.ensures c.submit_pending.ensures.fed run.result refl run.ensures.ok run.ensures.err in
    rw c.stop_of-failed.ensures (record { run = file_run g.L.BookLedger.setting _ _ _ fed.0.counts _ _ _ _ fed.0.lines fed.1 fed.2; counts = fed.0.counts; lines = fed.0.lines; out_of_step = fed.0.out_of_step })
