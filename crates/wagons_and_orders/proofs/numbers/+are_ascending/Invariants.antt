use Rattle.std.proofs.Common.{length}
use Rattle.wagons_and_orders.proofs.numbers.+are_ascending.Given as goal

-- each call has one number less
abbrev pub decreases-are_ascending : goal.decreases-are_ascending
decreases-are_ascending l = length l.numbers.now
