use Rattle.std.proofs.Common.{◌≡◌, ◌∷◌, [], ◌++◌, codes, ap, ap₂, ◌∙◌, append_assoc, rules}
use Rattle.std.proofs.lemmas.Result.{on_ok_weaker}
use Rattle.json.specs.Token.{begin_object}
use Rattle.line_fields.specs.Written.{list_data, number_or_null}
use Rattle.line_fields.specs.WrittenTokens.{member_tokens}
use Rattle.table_lines.specs.TableLine.{table_text}
use Rattle.table_lines.proofs.Written.{rows_data}
use Rattle.table_lines.proofs.solved_tokens.begin_with_cells.Goals as goal

pub returns-clause-tokens : goal.returns-clause-tokens
returns-clause-tokens c =
    let t = table_text c.args.table.now in
    let begun : c.begin_object.new.self.tokens ≡ c.args.out.now.tokens ++ begin_object ∷ [] = search rules in
    let rows = ap (list_data (λ row. list_data number_or_null row.items)) c.deref.ensures.value ∙ rows_data c.args.table.now.cells.items in
    on_ok_weaker c.write_list.result (λ last.
    last ∙ ap₂ (λ ts d. ts ++ member_tokens (codes "cells") d) begun rows
    ∙ append_assoc c.args.out.now.tokens (begin_object ∷ []) (member_tokens (codes "cells") (list_data (list_data number_or_null) t.cells))) c.write_list.ensures.tokens
