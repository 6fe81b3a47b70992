use Rattle.std.proofs.Common.{string_bytes}
use Rattle.std.proofs.lemmas.Result.{on_ok_weaker}
use Rattle.office_map.proofs.Pushed.{pushed}
use Rattle.office_map.proofs.map.push_edges.Goals as goal

pub returns : goal.returns
returns c =
    let old = string_bytes c.args.text.now in
    let two = pushed old _ _ _ _ c.in_ok-push_str.ensures.bytes c.in_ok-push_lines.ensures in
    let three = pushed old _ _ _ _ two c.in_ok-push_str-2.ensures.bytes in
    let four = pushed old _ _ _ _ three c.in_ok-push_promises.ensures in
    on_ok_weaker c.push_words.result (λ last. pushed old _ _ _ _ four last) c.push_words.ensures
