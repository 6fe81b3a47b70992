use Rattle.std.proofs.Common.{string_bytes}
use Rattle.std.proofs.lemmas.Result.{on_ok_weaker}
use Rattle.office_map.proofs.Pushed.{pushed}
use Rattle.office_map.proofs.class_lines.push_number_cell.Goals as goal

pub returns : goal.returns
returns c =
    let old = string_bytes c.args.text.now in
    on_ok_weaker c.push_words.result (λ last. pushed old _ _ _ _ (pushed old _ _ _ _ c.in_ok-push_str.ensures.bytes c.in_ok-push_number_on.ensures) last) c.push_words.ensures
