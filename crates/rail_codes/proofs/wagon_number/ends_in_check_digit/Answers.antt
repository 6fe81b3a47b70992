use Rattle.std.proofs.Common.{arith, get_or, take}
use Rattle.rail_codes.specs.WagonNumber.{weighted_digit_sum}
use Rattle.rail_codes.specs.inner.WagonTexts.{are_twelve_digits-cases}
use Rattle.rail_codes.proofs.WagonNumbers.{list_all-digit, weighted_digit_sum-twelve, completes}
use Rattle.rail_codes.proofs.wagon_number.ends_in_check_digit.Goals as goal

pub returns : goal.returns
returns c =
    let digits = c.args.digits.now in
    let twelve = are_twelve_digits-cases digits c.requires in
    let last = list_all-digit digits 11 twelve.1 (omega arith) in
    rw (c.check_digit.ensures, weighted_digit_sum-twelve digits twelve.0) (completes (weighted_digit_sum (take 11 digits)) (get_or digits 11 0) last.0 last.1)
