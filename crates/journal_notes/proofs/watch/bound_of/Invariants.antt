use Rattle.std.proofs.Common.{◌≡◌, take, true}
use Rattle.std.specs.List.{list_all}
use Rattle.journal_notes.specs.Watches.{is_calm}
use Rattle.journal_notes.proofs.watch.bound_of.Given as goal

abbrev pub invariant-loop-row : goal.invariant-loop-row
invariant-loop-row l = list_all (is_calm l.newest l.bound) (take l.row-index l.rows) ≡ true
