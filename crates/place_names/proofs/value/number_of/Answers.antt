use Rattle.std.proofs.Common.{arith}
use Rattle.place_names.proofs.ValueLemmas.{within_seven}
use Rattle.place_names.proofs.value.number_of.Goals as goal

pub returns-clause-small : goal.returns-clause-small
returns-clause-small c = within_seven c.loop-digit.number c.loop-digit.digit-index (omega arith) c.loop-digit.invariant.small
