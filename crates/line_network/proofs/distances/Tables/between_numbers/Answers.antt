use Rattle.line_network.proofs.Turning.{IsLeastOrNone-turned}
use Rattle.line_network.proofs.Walks.{IsAnswered-answer, answer_read, few_km, within_limit}
use Rattle.line_network.proofs.distances.Tables.between_numbers.Goals as goal

pub pair-requires : goal.pair-requires
pair-requires c =
    let answer = answer_read _ _ _ _ _ c.index.result.now _ c.self.invariant.1 (rw (← c.self.view_is) at c.requires.to) (rw (← c.self.view_is) at c.requires.from) c.index.ensures c.index-2.ensures in
    few_km _ _ c.self.invariant.0 answer.1

pub returns-clause-meaning : goal.returns-clause-meaning
returns-clause-meaning c =
    let answer = answer_read _ _ _ _ _ c.index.result.now _ c.self.invariant.1 (rw (← c.self.view_is) at c.requires.to) (rw (← c.self.view_is) at c.requires.from) c.index.ensures c.index-2.ensures in
    rw (c.pair.ensures, ← c.self.view_is) (λ a b at to. IsAnswered-answer _ a b _ _ _ at to (IsLeastOrNone-turned _ _ _ _ answer.0))

pub returns-clause-limit : goal.returns-clause-limit
returns-clause-limit c =
    let answer = answer_read _ _ _ _ _ c.index.result.now _ c.self.invariant.1 (rw (← c.self.view_is) at c.requires.to) (rw (← c.self.view_is) at c.requires.from) c.index.ensures c.index-2.ensures in
    rw c.pair.ensures (within_limit _ _ c.self.invariant.0 answer.1)
