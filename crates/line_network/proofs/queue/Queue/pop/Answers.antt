use Rattle.std.proofs.lemmas.List.Sorted.{IsPermutation-map}
use Rattle.std.specs.declared.cmp.Reverse.{Reverse}
use Rattle.line_network.specs.declared.turn.Turn.{Turn}
use Rattle.line_network.specs.inner.Turns.{waiting_of}
use Rattle.line_network.proofs.queue.Queue.pop.Goals as goal

pub returns-clause-next : goal.returns-clause-next
returns-clause-next c = IsPermutation-map (λ (t : Reverse Turn). waiting_of t.0) _ _ c.in_ok-next.ensures.permutation
