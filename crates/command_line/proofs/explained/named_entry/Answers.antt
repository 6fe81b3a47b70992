use Rattle.command_line.proofs.ExplainLemmas.{named_otherwise, not_named}
use Rattle.command_line.proofs.explained.named_entry.Goals as goal

pub returns-else-is_named : goal.returns-else-is_named
returns-else-is_named c = named_otherwise c.args.number c.args.name.now c.in-Some.entry.now c.in-Some.ensures.named c.if-is_named.ensures

pub returns-in-None : goal.returns-in-None
returns-in-None c = not_named c.args.number c.args.name.now c.in-None.ensures.known
