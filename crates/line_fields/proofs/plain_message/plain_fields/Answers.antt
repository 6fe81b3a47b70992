use Rattle.std.proofs.Common.{sym, ◌≡◌, ap, ◌∙◌, ◌++◌, ◌∷◌, codes, decimal, arith}
use Rattle.line_fields.specs.declared.plain_message.PlainMessage.{PlainMessage}
use Rattle.line_fields.proofs.PlainMessages.{object_of-plain, text-parts}
use Rattle.line_fields.proofs.plain_message.plain_fields.Goals as goal

pub returns : goal.returns
returns c =
    let m : PlainMessage = record { type_name = c.in_ok-type_name.type_name; company = c.in_ok-company.company; number = c.in-Ok-try_from.number; wagon = c.in_ok-wagon.wagon; place = c.in_ok-place.place; moment = c.in_ok-moment.moment } in
    let fits : c.in_ok-number.number ≡ c.in-Ok-try_from.number = sym c.in-Ok-try_from.ensures.1 in
    let text = c.in-Ok.text.now in
    let written = text-parts m text c.in_ok-type_name.rest.now c.in_ok-company.rest.now c.in_ok-number.rest.now c.in_ok-wagon.rest.now c.in_ok-place.rest.now c.in_ok-moment.rest.now
    c.in_ok-type_name.ensures c.in_ok-company.ensures (c.in_ok-number.ensures ∙ ap (λ n. codes ",\"number\":" ++ (decimal n ++ 44 ∷ c.in_ok-number.rest.now)) fits)
    c.in_ok-wagon.ensures c.in_ok-place.ensures c.in_ok-moment.ensures (c.is_closing_brace.ensures c.if-not-is_closing_brace.false) in
    let utf8 = c.in-Ok.ensures in
    object_of-plain m c.args.line.now (omega arith) utf8.1 (sym utf8.0 ∙ written)
