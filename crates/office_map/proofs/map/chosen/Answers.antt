use Rattle.std.proofs.Common.{◌∙◌, string_bytes}
use Rattle.office_map.proofs.Whole.{chosen_is}
use Rattle.office_map.proofs.map.chosen.Goals as goal

pub returns : goal.returns
returns c =
    chosen_is c.args.state.now.office c.args.network.now c.args.named.now c.args.wagons.now c.args.orders.now c.args.choice.now c.deref-3.result.now c.deref.result.now c.deref-2.result.now c.deref-4.result.now c.deref-5.result.now (string_bytes c.new-text.result) (string_bytes c.push_map.new.text)
    (c.deref.ensures.value ∙ c.in_ok-all.ensures) (c.deref-2.ensures.value ∙ c.in_ok-all.ensures) (c.deref-3.ensures.value ∙ c.in_ok-shown.ensures) (c.deref-4.ensures.value ∙ c.in_ok-places.ensures)
    (c.deref-5.ensures.value ∙ c.in_ok-outside.ensures) c.new-text.ensures.bytes c.in_ok-push_map.ensures
