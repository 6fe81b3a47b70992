use Rattle.line_engine.proofs.Feeds.{at_feed, no_feed}
use Rattle.line_engine.proofs.window.before_feed.Goals as goal

pub returns-in-Some-clause-free : goal.returns-in-Some-clause-free
returns-in-Some-clause-free c = (at_feed c.args.bytes.now c.in-Some.at c.in-Some.ensures).free

pub returns-in-Some-clause-feed : goal.returns-in-Some-clause-feed
returns-in-Some-clause-feed c = λ _. let split = at_feed c.args.bytes.now c.in-Some.at c.in-Some.ensures in (split.rest, split.whole)

pub returns-in-None-clause-free : goal.returns-in-None-clause-free
returns-in-None-clause-free c = no_feed c.args.bytes.now c.in-None.ensures
