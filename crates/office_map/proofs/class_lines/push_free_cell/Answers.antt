use Rattle.std.proofs.Common.{◌++◌, ap, ◌∙◌, string_bytes}
use Rattle.std.proofs.lemmas.Result.{on_ok_weaker}
use Rattle.office_map.specs.Wagons.{number_cell}
use Rattle.office_map.specs.Words.{free_colour}
use Rattle.office_map.proofs.class_lines.push_free_cell.Goals as goal

pub returns : goal.returns
returns c =
    on_ok_weaker c.push_number_cell.result (λ e. e ∙ ap (λ n. string_bytes c.args.text.now ++ number_cell free_colour n) c.count_free.ensures) c.push_number_cell.ensures
