use Rattle.std.proofs.Common.{◌++◌, ◌∷◌, [], codes, ap, ◌∙◌}
use Rattle.std.proofs.lemmas.Result.{on_ok_weaker}
use Rattle.json.specs.Token.{end_object}
use Rattle.serde_json.specs.Data.{string}
use Rattle.line_fields.specs.Written.{list_data, number_data}
use Rattle.line_fields.specs.WrittenTokens.{member_tokens}
use Rattle.table_lines.specs.SolvedText.{planned_table}
use Rattle.table_lines.proofs.Written.{solved_written}
use Rattle.table_lines.proofs.solved_tokens.write_solved.Goals as goal

pub returns-clause-tokens : goal.returns-clause-tokens
returns-clause-tokens c =
    let t = planned_table c.args.table.now c.args.pairs.now c.args.prices.now in
    let orders = (c.in_ok-write_list.ensures {u = tt}).tokens ∙ ap (λ xs. c.write_lacks.new.out.tokens ++ member_tokens (codes "orders") (list_data string xs)) c.deref.ensures.value in
    let penalties = (c.in_ok-write_list-3.ensures {u = tt}).tokens ∙ ap (λ xs. c.write_list-2.new.out.tokens ++ member_tokens (codes "penalties") (list_data number_data xs)) c.deref-2.ensures.value in
    let u = (c.in_ok-write_list-4.ensures {u = tt}).tokens ∙ ap (λ xs. c.write_list-3.new.out.tokens ++ member_tokens (codes "u") (list_data number_data xs)) c.deref-3.ensures.value in
    let v = (c.in_ok-write_list-5.ensures {u = tt}).tokens ∙ ap (λ xs. c.write_list-4.new.out.tokens ++ member_tokens (codes "v") (list_data number_data xs)) c.deref-4.ensures.value in
    on_ok_weaker c.end_with_wagons.result (λ last.
    solved_written t c.args.cost c.args.out.now.tokens c.begin_with_cells.new.out.tokens c.write_number.new.out.tokens c.write_lacks.new.out.tokens
    c.write_list.new.out.tokens c.write_list-2.new.out.tokens c.write_list-3.new.out.tokens c.write_list-4.new.out.tokens c.write_list-5.new.out.tokens c.end_with_wagons.new.out.tokens
    (c.in_ok-begin_with_cells.ensures {u = tt}).tokens (c.in_ok-write_number.ensures {u = tt}).tokens (c.in_ok-write_lacks.ensures {u = tt}).tokens
    orders (c.in_ok-write_list-2.ensures {u = tt}).tokens penalties u v
    (last ∙ ap (λ xs. c.write_list-5.new.out.tokens ++ (member_tokens (codes "wagons") (list_data string xs) ++ end_object ∷ [])) c.deref-5.ensures.value)) c.end_with_wagons.ensures.tokens
