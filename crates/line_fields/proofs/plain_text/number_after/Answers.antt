use Rattle.std.proofs.Common.{◌++◌, ◌∷◌, Some, arith, sym, ap, ◌∙◌}
use Rattle.std.proofs.lemmas.Str.Pattern.{split_parts}
use Rattle.line_fields.proofs.PlainTexts.{strip_prefix_text}
use Rattle.line_fields.proofs.plain_text.number_after.Goals as goal

pub returns : goal.returns
returns c =
    let behind = strip_prefix_text c.args.opening.now c.args.text.now c.in_ok-behind.behind.now c.in_ok-behind.ensures.cases in
    let parts = split_parts 44 c.in_ok-behind.behind.now (Some (c.in_ok-digits.digits, c.in_ok-digits.rest)) c.in_ok-digits.ensures.cases (omega arith) in
    let digits = sym c.as_bytes.ensures.value ∙ c.in_ok-number.ensures in
    behind ∙ ap (λ l. c.args.opening.now ++ l) (parts.0 ∙ ap (λ l. l ++ 44 ∷ c.in_ok-digits.rest.now) digits)
