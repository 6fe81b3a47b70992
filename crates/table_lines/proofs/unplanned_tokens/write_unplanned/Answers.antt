use Rattle.std.proofs.Common.{◌++◌, ◌∷◌, [], codes, ap, ◌∙◌}
use Rattle.std.proofs.lemmas.Result.{on_ok_weaker}
use Rattle.json.specs.Token.{end_object}
use Rattle.serde_json.specs.Data.{string}
use Rattle.line_fields.specs.Written.{list_data, number_data}
use Rattle.line_fields.specs.WrittenTokens.{member_tokens}
use Rattle.table_lines.specs.TableLine.{table_text}
use Rattle.table_lines.proofs.Unplanned.{unplanned_written}
use Rattle.table_lines.proofs.unplanned_tokens.write_unplanned.Goals as goal

pub returns-clause-tokens : goal.returns-clause-tokens
returns-clause-tokens c =
    let t = table_text c.args.table.now in
    let orders = (c.in_ok-write_list.ensures {u = tt}).tokens ∙ ap (λ xs. c.write_lacks.new.out.tokens ++ member_tokens (codes "orders") (list_data string xs)) c.deref.ensures.value in
    let penalties = (c.in_ok-write_list-2.ensures {u = tt}).tokens ∙ ap (λ xs. c.write_list.new.out.tokens ++ member_tokens (codes "penalties") (list_data number_data xs)) c.deref-2.ensures.value in
    on_ok_weaker c.end_with_wagons.result (λ last.
    unplanned_written t c.args.out.now.tokens c.begin_with_cells.new.out.tokens c.write_lacks.new.out.tokens c.write_list.new.out.tokens c.write_list-2.new.out.tokens c.end_with_wagons.new.out.tokens
    (c.in_ok-begin_with_cells.ensures {u = tt}).tokens (c.in_ok-write_lacks.ensures {u = tt}).tokens orders penalties
    (last ∙ ap (λ xs. c.write_list-2.new.out.tokens ++ (member_tokens (codes "wagons") (list_data string xs) ++ end_object ∷ [])) c.deref-3.ensures.value)) c.end_with_wagons.ensures.tokens
