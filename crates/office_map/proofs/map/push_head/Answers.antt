use Rattle.std.proofs.Common.{ℕ, List, ◌++◌, ap, ◌∙◌, string_bytes}
use Rattle.std.proofs.lemmas.Result.{on_ok_weaker}
use Rattle.office_map.proofs.Pushed.{pushed}
use Rattle.office_map.proofs.map.push_head.Goals as goal

pub returns : goal.returns
returns c =
    let old = string_bytes c.args.text.now in
    let two = pushed old _ _ _ _ c.in_ok-push_room.ensures c.in_ok-push_network.ensures in
    on_ok_weaker c.push_words.result (λ last. pushed old _ _ _ _ two (last ∙ ap (λ (words : List ℕ). string_bytes c.push_network.new.text ++ words) c.layout_words.ensures)) c.push_words.ensures
