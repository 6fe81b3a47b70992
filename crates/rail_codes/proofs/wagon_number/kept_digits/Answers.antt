use Rattle.std.proofs.Common.{◌≡◌, ◌∙◌, ap, sym, refl, ◌<◌, arith, true, inl, inr, length, length-take-le, length-set, get_or, take}
use Rattle.std.proofs.lemmas.List.{take_all}
use Rattle.std.specs.List.{list_all}
use Rattle.std.specs.Char.{is_ascii_digit}
use Rattle.std.proofs.lemmas.Bool.Decides.{nat_tests}
use Rattle.rail_codes.specs.WagonNumber.{is_no_separator}
use Rattle.rail_codes.proofs.WagonNumbers.{take-digit, list_all-take-digit, are_twelve_digits-false, are_twelve_digits-digits, kept_characters-whole}
use Rattle.rail_codes.proofs.wagon_number.kept_digits.Goals as goal
use Rattle.rail_codes.proofs.wagon_number.kept_digits.Goals.{then-count-eq12-via-then-count-eq12, then-count-eq12-via-else-count-eq12+then-not-is_ascii_digit}

pub returns-then-count-eq12 : goal.returns-then-count-eq12
returns-then-count-eq12 c =
    let kept : is_no_separator (get_or c.args.text.now c.loop-byte.byte-index 0) ≡ true = grind (arith, nat_tests) in
    let refused = are_twelve_digits-false c.args.text.now (take c.loop-byte.count c.loop-byte.digits) c.loop-byte.byte-index c.loop-byte-test.true kept c.loop-byte.invariant.kept (
    elim c.then-count-eq12.branch [
      | then-count-eq12-via-then-count-eq12 w ↦ inl (length-take-le _ _ (omega arith) ∙ w.if-count-eq12.true)
      | then-count-eq12-via-else-count-eq12+then-not-is_ascii_digit w ↦ inr (sym w.is_ascii_digit.ensures.value ∙ w.if-not-is_ascii_digit.true)
    ]) in
    rw refused (record { meaning = refl; digits = tt })

pub loop-byte-preserved : goal.loop-byte-preserved
loop-byte-preserved c =
    let room : c.loop-byte.count < length c.loop-byte.digits = omega arith in
    let kept : is_no_separator (get_or c.args.text.now c.loop-byte.byte-index 0) ≡ true = grind (arith, nat_tests) in
    record {
      room = (length-set _ _ _ ∙ c.loop-byte.invariant.room.0, omega arith);
      digits = list_all-take-digit c.loop-byte.digits c.loop-byte.count _ room (cc) c.loop-byte.invariant.digits;
      kept = take-digit c.args.text.now c.loop-byte.digits c.loop-byte.byte-index c.loop-byte.count c.loop-byte-test.true kept room c.loop-byte.invariant.kept;
    }

pub returns-then-count-eq12-2 : goal.returns-then-count-eq12-2
returns-then-count-eq12-2 c =
    let so_far = rw c.if-count-eq12-2.true at c.loop-byte.invariant.kept in
    let whole = kept_characters-whole c.args.text.now c.loop-byte.digits c.loop-byte.byte-index c.loop-byte-test.false c.loop-byte.invariant.room.0 so_far in
    let all = rw c.if-count-eq12-2.true at c.loop-byte.invariant.digits in
    rw (whole, are_twelve_digits-digits c.loop-byte.digits c.loop-byte.invariant.room.0 (sym (ap (list_all is_ascii_digit) (take_all 12 c.loop-byte.digits (omega arith))) ∙ all)) (record { meaning = refl; digits = refl })
