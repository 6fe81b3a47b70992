use Rattle.std.proofs.Common.{◌≡◌}
use Rattle.std.specs.Prelude.{slice_get}
use Rattle.commit_book.specs.inner.Kept.{HaveFewerTables}
use Rattle.commit_book.proofs.KeptTables.{AreBare}
use Rattle.commit_book.proofs.kept_problems.forget_tables.Given as goal

-- some tables are forgotten; those looked at, but for two, are without; and those two are as they were
abbrev pub invariant-loop-k : goal.invariant-loop-k
invariant-loop-k l = HaveFewerTables l.fn.kept l.kept × AreBare l.kept l.index l.other l.k × (slice_get l.kept l.index ≡ slice_get l.fn.kept l.index) × (slice_get l.kept l.other ≡ slice_get l.fn.kept l.other)
