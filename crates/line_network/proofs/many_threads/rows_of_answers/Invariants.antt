use Rattle.std.specs.Vec.Iter.{into_iter_items}
use Rattle.line_network.proofs.Sharing.{IsGathered}
use Rattle.line_network.proofs.many_threads.rows_of_answers.Given as goal

abbrev pub invariant-loop-answer : goal.invariant-loop-answer
invariant-loop-answer l = IsGathered l.work.lines.now.lines.items l.work.places l.work.workers (into_iter_items l.answer-iterator) l.rows.items
