use Rattle.std.proofs.Common.{ap, arith}
use Rattle.command_line.specs.Values.{all_lent}
use Rattle.command_line.proofs.ExplainLemmas.{all_numbers, none_below}
use Rattle.command_line.proofs.explained.all_named.Goals as goal

pub loop-number-init : goal.loop-number-init
loop-number-init c = none_below c.args.name.now _ (ap all_lent c.new-entries.ensures.items)

pub returns : goal.returns
returns c = all_numbers c.args.name.now c.loop-number.number (all_lent c.loop-number.entries.items) (omega arith) c.loop-number.invariant
