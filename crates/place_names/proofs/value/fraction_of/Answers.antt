use Rattle.std.proofs.Common.{length, arith}
use Rattle.place_names.proofs.ValueLemmas.{within_six}
use Rattle.place_names.proofs.value.fraction_of.Goals as goal

pub returns-clause-small : goal.returns-clause-small
returns-clause-small c = rw c.pow.ensures (within_six c.number_of.result (length c.args.digits.now) (search arith) c.number_of.ensures.short)
