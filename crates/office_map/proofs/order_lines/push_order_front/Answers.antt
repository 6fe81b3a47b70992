use Rattle.std.proofs.Common.{ℕ, List, ◌++◌, ap, ◌∙◌, string_bytes}
use Rattle.std.proofs.lemmas.Result.{on_ok_weaker}
use Rattle.office_map.specs.Orders.{class_words}
use Rattle.office_map.proofs.Pushed.{pushed}
use Rattle.office_map.proofs.order_lines.push_order_front.Goals as goal

pub returns : goal.returns
returns c =
    let old = string_bytes c.args.text.now in
    let two = pushed old _ _ _ _ c.in_ok-push_cell.ensures c.in_ok-push_lack.ensures in
    let classes = c.as_slice.ensures.value ∙ c.classes.ensures in
    let three = pushed old _ _ _ _ two (c.in_ok-push_classes.ensures ∙ ap (λ (cs : List (List ℕ)). string_bytes c.push_lack.new.text ++ class_words cs) classes) in
    on_ok_weaker c.push_words.result (λ last. pushed old _ _ _ _ three last) c.push_words.ensures
