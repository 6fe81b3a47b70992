use Rattle.std.proofs.Common.{rules}
use Rattle.sessions.proofs.KeptLines.{none_heard}
use Rattle.sessions.proofs.kept_notes.nothing_heard.Goals as goal

pub returns : goal.returns
returns c = search (rules, none_heard)
