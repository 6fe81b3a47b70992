use Rattle.std.proofs.Common.{arith, refl}
use Rattle.command_line.proofs.LineLemmas.{all_lists, lists_more, no_lists}
use Rattle.command_line.proofs.words.ungrouped_command.Goals as goal

pub loop-arguments-init : goal.loop-arguments-init
loop-arguments-init c = no_lists c.args.help.name.now c.args.help.arguments.now c.bare_command-word.result c.bare_command-word.ensures

pub loop-arguments-preserved : goal.loop-arguments-preserved
loop-arguments-preserved c =
    lists_more c.args.help.name.now c.args.help.arguments.now c.loop-arguments.arguments-index _ _ c.loop-arguments.word c.in_ok-word.word (omega arith) refl c.loop-arguments.invariant
    c.in_ok-word.ensures

pub returns : goal.returns
returns c = all_lists c.args.help.name.now c.args.help.arguments.now c.loop-arguments.arguments-index c.loop-arguments.word (omega arith) c.loop-arguments.invariant
