use Rattle.wagons_program.proofs.feed.feed_alone.Goals as goal

pub returns-in_ok-status-in-Ok-clause-ok : goal.returns-in_ok-status-in-Ok-clause-ok
returns-in_ok-status-in-Ok-clause-ok g c =
    let said = c.in_ok-status-in-Ok.ensures {u = tt} in
    record { report = c.in-Ok.report; fed = c.in-Ok.ensures.report; text = said.printed.0; is_text = said.printed.1; printed = said.printed.2; status_is = said.status }
