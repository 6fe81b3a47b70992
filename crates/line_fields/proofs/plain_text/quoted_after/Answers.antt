use Rattle.std.proofs.Common.{◌≡◌, ◌++◌, [], ◌∷◌, Some, arith, sym, ap, ◌∙◌, append_assoc, take, take-append-drop}
use Rattle.std.proofs.lemmas.Str.Pattern.{strip_prefix_char}
use Rattle.json.specs.Print.{escape}
use Rattle.line_fields.proofs.PlainTexts.{strip_prefix_text}
use Rattle.line_fields.proofs.plain_text.quoted_after.Goals as goal

pub returns : goal.returns
returns c =
    let inside = c.in_ok-inside.inside.now in
    let rest = c.in_ok-rest.rest.now in
    let quote = c.in_ok-open.open.now in
    let n = c.plain_len.result in
    let behind = strip_prefix_text c.args.opening.now c.args.text.now c.in_ok-behind.behind.now c.in_ok-behind.ensures.cases in
    let open_is = strip_prefix_char 34 c.in_ok-behind.behind.now (Some c.in_ok-open.open) c.in_ok-open.ensures.cases (omega arith) in
    let closing_is = strip_prefix_char 34 c.in_ok-inside.closing.now (Some c.in_ok-rest.rest) c.in_ok-rest.ensures.cases (omega arith) in
    let whole : quote ≡ inside ++ c.in_ok-inside.closing.now = sym (take-append-drop n quote) ∙ (λ i. sym c.in_ok-inside.ensures.front i ++ sym c.in_ok-inside.ensures.back i) in
    let bytes : c.as_bytes.result.now ≡ quote = c.as_bytes.ensures.value in
    let front : inside ≡ take n c.as_bytes.result.now = c.in_ok-inside.ensures.front ∙ ap (take n) (sym bytes) in
    let plain : inside ≡ escape inside = front ∙ sym c.plain_len.ensures ∙ ap escape (sym front) in
    behind ∙ ap (λ l. c.args.opening.now ++ l) (open_is ∙ ap (λ l. 34 ∷ l) (whole ∙ ap (λ l. inside ++ l) closing_is ∙ sym (append_assoc inside (34 ∷ []) rest) ∙ ap (λ e. (e ++ 34 ∷ []) ++ rest) plain))
