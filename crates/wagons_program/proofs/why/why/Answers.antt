use Rattle.std.specs.Prelude.{option_copied}
use Rattle.command_line.specs.declared.why_options.When.TheVariants.{At, Line}
use Rattle.wagons_program.proofs.Reasoned.{reasons_for}
use Rattle.wagons_program.proofs.why.why.Goals as goal

pub returns-in-At-clause-ok : goal.returns-in-At-clause-ok
returns-in-At-clause-ok g c =
    reasons_for _ c.args.options.now (At c.in-At.at) (option_copied c.as_ref.result) c.in_ok-names.names _ c.why_at.result c.in-At.is c.as_ref.ensures.value c.in_ok-names.ensures c.why_at.ensures.ok

pub returns-clause-ok : goal.returns-clause-ok
returns-clause-ok g c =
    reasons_for _ c.args.options.now (Line c.in-Line.line) (option_copied c.as_ref-in-Line.result) c.in_ok-names.names _ c.why_line.result c.in-Line.is c.as_ref-in-Line.ensures.value c.in_ok-names.ensures c.why_line.ensures.ok
