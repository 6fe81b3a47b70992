use Rattle.std.proofs.Common.{◌-◌, length}
use Rattle.commit_book.proofs.KeptTables.{AreBareFrom}
use Rattle.commit_book.proofs.kept_problems.last_other.Given as goal

-- none of those looked at, but for one index, has a table
abbrev pub invariant-loop-behind : goal.invariant-loop-behind
invariant-loop-behind l = AreBareFrom l.kept l.index (length l.kept - l.behind)
