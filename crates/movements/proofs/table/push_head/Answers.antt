use Rattle.std.proofs.Common.{◌++◌, ◌∙◌, ap, string_bytes}
use Rattle.std.proofs.lemmas.Result.{on_ok_weaker}
use Rattle.movements.specs.TableText.{head_line}
use Rattle.movements.proofs.table.push_head.Goals as goal

pub returns : goal.returns
returns c =
    on_ok_weaker c.push_head_line.result (λ added. record {
      at = string_bytes c.in_ok-at.at;
      at_shown = c.in_ok-at.ensures;
      whole = added ∙ ap (λ at. string_bytes c.args.text.now ++ head_line c.args.list.now.version at) c.as_str.ensures.value;
    }) c.push_head_line.ensures
