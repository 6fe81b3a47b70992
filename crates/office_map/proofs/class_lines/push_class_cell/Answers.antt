use Rattle.std.proofs.Common.{◌++◌, ap, ◌∙◌, string_bytes}
use Rattle.std.specs.Prelude.{codes}
use Rattle.std.proofs.lemmas.Result.{on_ok_weaker}
use Rattle.office_map.proofs.class_lines.push_class_cell.Goals as goal

pub returns : goal.returns
returns c =
    on_ok_weaker c.push_between.result (λ e. e ∙ ap (λ name. string_bytes c.args.text.now ++ (codes "    <TR><TD ALIGN=\"LEFT\">" ++ name ++ codes "</TD>")) c.as_bytes.ensures.value) c.push_between.ensures
