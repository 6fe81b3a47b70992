use Rattle.std.proofs.Common.{string_bytes}
use Rattle.std.proofs.lemmas.Result.{on_ok_weaker}
use Rattle.office_map.proofs.Pushed.{pushed}
use Rattle.office_map.proofs.place_node.push_front.Goals as goal

pub returns : goal.returns
returns c =
    let old = string_bytes c.args.text.now in
    on_ok_weaker c.push_title.result (λ last. pushed old _ _ _ _ c.in_ok-push_code.ensures last) c.push_title.ensures
