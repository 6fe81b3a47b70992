use Rattle.std.proofs.Common.{arith}
use Rattle.command_line.proofs.ArgumentLemmas.{all_arguments, arguments_more, no_arguments}
use Rattle.command_line.proofs.arguments.with_arguments.Goals as goal

pub loop-it-init : goal.loop-it-init
loop-it-init c = no_arguments c.args.arguments.now c.args.word

pub loop-it-preserved : goal.loop-it-preserved
loop-it-preserved c =
    arguments_more c.args.arguments.now c.loop-it.it-index _ c.args.word c.loop-it.word c.in_ok-word.word c.as_argument.result (omega arith) c.loop-it.invariant
    c.as_argument.ensures c.in_ok-word.ensures

pub returns : goal.returns
returns c = all_arguments c.args.arguments.now c.loop-it.it-index c.args.word c.loop-it.word (omega arith) c.loop-it.invariant
