use Rattle.std.proofs.Common.{ℕ, ◌+◌, ◌++◌, length, ap, ◌∙◌, string_bytes}
use Rattle.std.specs.Prelude.{nat_le}
use Rattle.std.proofs.lemmas.Result.{on_ok_weaker}
use Rattle.office_map.specs.Map.{head_of}
use Rattle.office_map.proofs.Whole.{map_pushed}
use Rattle.office_map.proofs.map.push_map.Goals as goal

pub returns : goal.returns
returns c =
    let old = string_bytes c.args.text.now in
    let parts = c.args.parts.now in
    let few = c.has_few-few.result in
    let is_few = c.has_few-few.ensures ∙ ap (λ (n : ℕ). nat_le (length parts.places.now + length parts.outside.now + n) 120) c.count_shown.ensures in
    let head = c.in_ok-push_head.ensures ∙ ap (λ (n : ℕ). old ++ head_of few c.has_named.result n) c.network.ensures.value in
    on_ok_weaker c.push_edges.result (λ edges. map_pushed c.args.state.now.office c.args.network.now parts.named.now parts.wagons.now parts.orders.now parts.shown.now parts.places.now parts.outside.now few c.has_named.result old _ _ _ _ _ is_few c.has_named.ensures head c.in_ok-push_places.ensures c.in_ok-push_str.ensures.bytes c.in_ok-push_places-2.ensures edges) c.push_edges.ensures
