use Rattle.std.proofs.Common.{rules}
use Rattle.std.proofs.lemmas.Fn.{filter_same}
use Rattle.wagons_and_orders.specs.Numbers.{without_number}
use Rattle.wagons_and_orders.proofs.numbers.take_off.Goals as goal

pub returns-clause-items : goal.returns-clause-items
unfolding without_number
returns-clause-items c = filter_same _ _ _ (λ x b f' t. search rules) _ _ c.retain.ensures.filtered
