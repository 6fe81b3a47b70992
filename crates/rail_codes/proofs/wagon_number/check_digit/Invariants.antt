use Rattle.std.proofs.Common.{◌≡◌, ◌≤◌, ◌+◌, ◌*◌, ◌%◌, drop, take}
use Rattle.rail_codes.proofs.WagonNumbers.{weighted_from}
use Rattle.rail_codes.proofs.wagon_number.check_digit.Given as goal

-- the sum so far and that of the rest are the sum of the first eleven
abbrev pub invariant-loop-digit : goal.invariant-loop-digit
invariant-loop-digit l = record {
  small : l.sum ≤ 9 * l.digit-index;
  weight : l.weight + l.digit-index % 2 ≡ 2;
  summed : l.sum + weighted_from l.weight (drop l.digit-index (take 11 l.digits)) ≡ weighted_from 2 (take 11 l.digits);
}
