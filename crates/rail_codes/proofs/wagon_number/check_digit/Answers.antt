use Rattle.std.proofs.Common.{◌≡◌, ◌-◌, arith, ap, [], length, length-take-le, get_or, drop, take}
use Rattle.std.proofs.lemmas.List.{drop_all}
use Rattle.rail_codes.specs.WagonNumber.{weighted_digit_sum}
use Rattle.rail_codes.specs.inner.CheckDigit.{missing_to_ten}
use Rattle.rail_codes.proofs.WagonNumbers.{weighted_from-whole, first_eleven-digit, digit_sum-product, summed-more}
use Rattle.rail_codes.proofs.wagon_number.check_digit.Goals as goal

pub weighted_digit-sum-requires : goal.weighted_digit-sum-requires
weighted_digit-sum-requires c =
    let eleven : length (take 11 c.args.digits.now) ≡ 11 = length-take-le 11 c.args.digits.now (omega arith) in
    let digit = first_eleven-digit c.args.digits.now c.loop-digit.digit-index c.requires (omega arith) in
    record { weight = (omega arith, omega arith); digit = omega arith }

pub loop-digit-preserved : goal.loop-digit-preserved
loop-digit-preserved c =
    let eleven : length (take 11 c.args.digits.now) ≡ 11 = length-take-le 11 c.args.digits.now (omega arith) in
    let digit = first_eleven-digit c.args.digits.now c.loop-digit.digit-index c.requires (omega arith) in
    let product = digit_sum-product c.loop-digit.weight (get_or (take 11 c.args.digits.now) c.loop-digit.digit-index 0 - 48) (omega arith) (omega arith) in
    record {
      small = omega arith;
      weight = omega arith;
      summed = rw c.weighted_digit-sum.ensures (summed-more c.loop-digit.weight c.loop-digit.sum (take 11 c.args.digits.now) c.loop-digit.digit-index (omega arith) c.loop-digit.invariant.summed);
    }

pub returns : goal.returns
returns c =
    let eleven : length (take 11 c.args.digits.now) ≡ 11 = length-take-le 11 c.args.digits.now (omega arith) in
    let none : drop c.loop-digit.digit-index (take 11 c.args.digits.now) ≡ [] = drop_all c.loop-digit.digit-index (take 11 c.args.digits.now) (omega arith) in
    let summed = rw none at c.loop-digit.invariant.summed in
    let whole : c.loop-digit.sum ≡ weighted_digit_sum (take 11 c.args.digits.now) = omega (arith, summed, weighted_from-whole (take 11 c.args.digits.now)) in
    ap missing_to_ten whole
