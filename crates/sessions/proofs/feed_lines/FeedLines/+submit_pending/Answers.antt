use Rattle.sessions.proofs.feed_lines.FeedLines.+submit_pending.Goals as goal

pub returns-in-Some-clause-fed : goal.returns-in-Some-clause-fed
returns-in-Some-clause-fed g t c = rw c.in-Some.ensures.items (c.feed_waiting.new.file, c.feed_waiting.ensures, c.submit_pending.ensures.fed)
