use Rattle.std.proofs.Common.{rules}
use Rattle.std.proofs.lemmas.List.Sorted.{IsNonDecreasingBy-from_sort_by_key}
use Rattle.line_network.proofs.lines_by_origin.LinesByOrigin.new.Goals as goal

pub starts_of-requires-clause-sorted : goal.starts_of-requires-clause-sorted
starts_of-requires-clause-sorted c = rw c.deref.ensures.value (IsNonDecreasingBy-from_sort_by_key (λ l. l.from) _ c.in_ok-sort_by_key.ensures.sorted (λ a r q k. search rules))
