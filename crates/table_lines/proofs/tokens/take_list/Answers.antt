use Rattle.std.proofs.Common.{◌≡◌, ◌∷◌, arith}
use Rattle.json.specs.Token as token
use Rattle.table_lines.proofs.Spelled.{if_some, list_spelled}
use Rattle.table_lines.proofs.tokens.take_list.Goals as goal

pub returns-clause-value : goal.returns-clause-value
returns-clause-value g c =
    let opening : c.args.reader.now ≡ token.begin_array ∷ c.take_begin_array.new.reader = grind arith in
    if_some c.take_items.result _ _ (λ found. list_spelled (g.K.TokenKind.nests c.args.kind.now) (g.K.TokenKind.reads c.args.kind.now) found.items c.args.reader.now c.take_begin_array.new.reader c.take_items.new.reader opening) c.take_items.ensures.value
