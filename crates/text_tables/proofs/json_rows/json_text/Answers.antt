use Rattle.std.proofs.Common.{List, [], ◌∷◌, ◌++◌, ap, ◌∙◌}
use Rattle.json.specs.Print.{print}
use Rattle.json.specs.Token.{Token, string}
use Rattle.text_tables.proofs.Joined.{text_alone}
use Rattle.text_tables.proofs.json_rows.json_text.Goals as goal

pub returns : goal.returns
returns c =
    let value = c.args.value.now in
    let alone = c.in_ok-string.ensures.ok ∙ ap (λ (ts : List Token). ts ++ string value ∷ []) c.new-out.ensures.tokens in
    c.written_text.ensures.text ∙ ap print alone ∙ text_alone value
