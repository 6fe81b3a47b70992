use Rattle.std.proofs.Common.{length}
use Rattle.table_lines.proofs.FoundLists.{ReadSoFar}
use Rattle.table_lines.proofs.found_lists.take_lists.Given as goal

abbrev pub invariant-members : goal.invariant-members
invariant-members l = ReadSoFar l.lists l.initial.reader l.reader

abbrev pub decreases-members : goal.decreases-members
decreases-members l = length l.reader
