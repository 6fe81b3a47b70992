use Rattle.std.proofs.Common.{◌≡◌, ◌∷◌, sym, arith}
use Rattle.json.specs.Token as token
use Rattle.table_lines.proofs.Spelled.{code_spelled}
use Rattle.table_lines.proofs.tokens.CodeTokenTokenKind.take.Goals as goal

pub returns-in-Ok-clause-value : goal.returns-in-Ok-clause-value
returns-in-Ok-clause-value g c =
    let first : c.args.reader.now ≡ token.string c.in_ok-text.text.now ∷ c.take_text.new.reader = grind arith in
    code_spelled g.C.FromText.meaning c.args.reader.now c.take_text.new.reader c.in_ok-text.text.now c.in-Ok.code first (sym c.in-Ok.ensures)
