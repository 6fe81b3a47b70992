use Rattle.std.proofs.Common.{string_bytes}
use Rattle.std.proofs.lemmas.Result.{on_ok_weaker}
use Rattle.office_map.proofs.Pushed.{pushed}
use Rattle.office_map.proofs.position.push_position_at.Goals as goal

pub returns : goal.returns
returns c =
    let old = string_bytes c.args.text.now in
    let two = pushed old _ _ _ _ c.in_ok-push_texts.ensures c.in_ok-push_words.ensures in
    on_ok_weaker c.push_words-2.result (λ last. pushed old _ _ _ _ two last) c.push_words-2.ensures
