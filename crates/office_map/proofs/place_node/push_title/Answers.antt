use Rattle.std.proofs.Common.{ℕ, List, ◌++◌, ap, ◌∙◌, string_bytes}
use Rattle.std.specs.Prelude.{codes}
use Rattle.std.proofs.lemmas.Result.{on_ok_weaker}
use Rattle.office_map.specs.Names.{name_words}
use Rattle.office_map.proofs.Pushed.{pushed}
use Rattle.office_map.proofs.place_node.push_title.Goals as goal

pub returns : goal.returns
returns c =
    let old = string_bytes c.args.text.now in
    let front = c.in_ok-push_between.ensures ∙ ap (λ (code : List ℕ). old ++ (codes "    <TR><TD COLSPAN=\"4\"><B>" ++ code ++ codes "</B>")) c.as_bytes.ensures.value in
    let name = c.in_ok-push_name.ensures ∙ ap (λ (n : List ℕ). string_bytes c.push_between.new.text ++ name_words n) c.name_of.ensures in
    let two = pushed old _ _ _ _ front name in
    on_ok_weaker c.push_words.result (λ last. pushed old _ _ _ _ two last) c.push_words.ensures
