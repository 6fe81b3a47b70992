use Rattle.std.proofs.Common.{◌≡◌, ◌+◌, ◌-◌, ◌<◌, ℕ, arith, ap, ◌∙◌, length, get_or, take, drop, length-take, length-drop, get_or-take, get_or-drop, take_all, sym}
use Rattle.line_fields.proofs.PlainTexts.{decimal-first, decimal-more, only_zero}
use Rattle.line_fields.proofs.plain_text.decimal_number.Goals as goal

pub returns-then-digits-eq1 : goal.returns-then-digits-eq1
returns-then-digits-eq1 c = only_zero c.args.digits.now (omega arith) (omega arith)

pub loop-digit-init : goal.loop-digit-init
loop-digit-init c = record {
  written = rw c.from-number.ensures (decimal-first c.args.digits.now (omega arith) (omega arith) (omega arith));
  some = omega arith;
  fits = omega arith;
}

pub loop-digit-preserved : goal.loop-digit-preserved
loop-digit-preserved c =
    let digits = c.args.digits.now in
    let i = c.loop-digit.digit-index in
    let inside : i + 1 < length digits = omega (arith, length-take {A = ℕ}, length-drop {A = ℕ}) in
    let next : 1 + i ≡ i + 1 = omega arith in
    let here : get_or (take (length digits - 1) (drop 1 digits)) i 0 ≡ get_or digits (i + 1) 0 =
    get_or-take (length digits - 1) (drop 1 digits) i 0 (omega arith) ∙ get_or-drop 1 digits i 0 ∙ ap (λ k. get_or digits k 0) next in
    let digit : c.from.result ≡ get_or digits (i + 1) 0 - 48 = c.from.ensures ∙ ap (λ x. x - 48) here in
    record {
      written = rw digit (decimal-more digits (i + 1) c.loop-digit.number inside c.loop-digit.invariant.some (omega arith) (omega arith) (omega arith) c.loop-digit.invariant.written);
      some = omega arith;
      fits = omega arith;
    }

pub returns : goal.returns
returns c =
    let whole = take_all (c.loop-digit.digit-index + 1) c.args.digits.now (omega (arith, length-take {A = ℕ}, length-drop {A = ℕ})) in
    sym whole ∙ c.loop-digit.invariant.written
