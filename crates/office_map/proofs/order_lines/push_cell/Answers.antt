use Rattle.std.proofs.Common.{◌++◌, ap, ◌∙◌, string_bytes}
use Rattle.std.specs.Prelude.{codes}
use Rattle.std.proofs.lemmas.Result.{on_ok_weaker}
use Rattle.office_map.proofs.order_lines.push_cell.Goals as goal

pub returns : goal.returns
returns c =
    on_ok_weaker c.push_texts.result (λ e. e ∙ ap (λ colour. string_bytes c.args.text.now ++ (codes "    <TR><TD COLSPAN=\"4\"" ++ colour ++ codes ">")) c.order_colour.ensures) c.push_texts.ensures
