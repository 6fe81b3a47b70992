use Rattle.std.proofs.Common.{◌≡◌, take}
use Rattle.checkpoint.specs.Written.{newest_of}
use Rattle.checkpoint.proofs.writing.newest.Given as goal

abbrev pub invariant-loop-row : goal.invariant-loop-row
invariant-loop-row l = l.newest ≡ newest_of (take l.row-index l.rows)
