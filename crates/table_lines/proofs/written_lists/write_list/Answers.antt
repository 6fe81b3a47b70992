use Rattle.std.proofs.Common.{◌≡◌, ◌∷◌, [], ◌++◌, rules}
use Rattle.std.proofs.lemmas.Result.{on_ok_weaker}
use Rattle.json.specs.Token.{key}
use Rattle.line_fields.specs.Written.{list_data}
use Rattle.table_lines.proofs.WrittenLists.{member_written}
use Rattle.table_lines.proofs.written_lists.write_list.Goals as goal

pub returns-clause-tokens : goal.returns-clause-tokens
returns-clause-tokens g c =
    let named : c.key.new.self.tokens ≡ c.args.out.now.tokens ++ key c.args.name.now ∷ [] = search rules in
    on_ok_weaker c.write_items.result (λ last.
    member_written c.args.name.now (list_data g.T.ListItem.json c.args.items.now) c.args.out.now.tokens c.key.new.self.tokens c.write_items.new.out.tokens named last) c.write_items.ensures.tokens
