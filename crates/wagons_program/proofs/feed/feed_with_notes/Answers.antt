use Rattle.wagons_program.proofs.feed.feed_with_notes.Goals as goal

pub returns-in-Ok-written-clause-ok : goal.returns-in-Ok-written-clause-ok
returns-in-Ok-written-clause-ok g c =
    let said = c.in_ok-status-in-Ok-feed_noted.ensures {u = tt} in
    record {
      reported = record { report = c.in-Ok-feed_noted.report; fed = c.in-Ok-feed_noted.ensures.report; text = said.printed.0; is_text = said.printed.1; printed = said.printed.2; status_is = said.status };
      old = c.in-Ok.file;
      new = c.write_notes-written.new.file;
      notes = c.in-Ok-written.ensures;
    }
