use Rattle.std.proofs.Common.{arith}
use Rattle.line_engine.specs.Lines.{line_feed}
use Rattle.wagons_program.proofs.EntryLemmas.{entry_joined}
use Rattle.wagons_program.proofs.explain.joined.Goals as goal

pub loop-index-preserved : goal.loop-index-preserved
loop-index-preserved c = entry_joined (λ entry. entry.now) line_feed c.args.entries.now c.loop-index.index _ _ _ (omega arith) c.loop-index.invariant c.in_ok-push_entry.ensures
