use Rattle.std.proofs.Common.{string_bytes}
use Rattle.std.proofs.lemmas.Result.{on_ok_weaker}
use Rattle.office_map.proofs.Pushed.{pushed}
use Rattle.office_map.proofs.position.push_middle_at.Goals as goal

pub returns : goal.returns
returns c =
    let old = string_bytes c.args.text.now in
    let two = pushed old _ _ _ _ c.in_ok-push_words.ensures c.in_ok-push_middle_of.ensures in
    let three = pushed old _ _ _ _ two c.in_ok-push_words-2.ensures in
    let four = pushed old _ _ _ _ three c.in_ok-push_middle_of-2.ensures in
    on_ok_weaker c.push_words-3.result (λ last. pushed old _ _ _ _ four last) c.push_words-3.ensures
