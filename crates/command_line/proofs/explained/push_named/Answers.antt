use Rattle.command_line.proofs.ExplainLemmas.{pushed}
use Rattle.command_line.proofs.explained.push_named.Goals as goal

pub returns-in_ok-push : goal.returns-in_ok-push
returns-in_ok-push c = λ before. pushed c.args.name.now c.args.number c.args.entries.now.items c.push.new.self.items c.in-Some.entry c.in_ok-push.ensures.items before c.in-Some.ensures
