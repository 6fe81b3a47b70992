use Rattle.std.proofs.Common.{◌++◌, ap, ◌∙◌, string_bytes, Option}
use Rattle.std.proofs.lemmas.Result.{on_ok_weaker}
use Rattle.place_names.specs.declared.named_place.Coordinates.{Coordinates}
use Rattle.office_map.specs.Positions.{position_of}
use Rattle.office_map.proofs.Pushed.{pushed}
use Rattle.office_map.proofs.place_node.push_back.Goals as goal

pub returns : goal.returns
returns c =
    let old = string_bytes c.args.text.now in
    let at = c.in_ok-push_position.ensures ∙ ap (λ (o : Option Coordinates). string_bytes c.push_words.new.text ++ position_of o) c.coordinates_of.ensures in
    let two = pushed old _ _ _ _ c.in_ok-push_words.ensures at in
    on_ok_weaker c.push_words-2.result (λ last. pushed old _ _ _ _ two last) c.push_words-2.ensures
