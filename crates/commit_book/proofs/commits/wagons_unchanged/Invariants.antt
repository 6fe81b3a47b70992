use Rattle.std.proofs.Common.{◌≡◌, drop}
use Rattle.commit_book.specs.Commits.{wagon_changed}
use Rattle.commit_book.proofs.commits.wagons_unchanged.Given as goal

abbrev pub invariant-loop-pair : goal.invariant-loop-pair
invariant-loop-pair l = wagon_changed l.problem l.now.office (drop l.pair-index l.pairs) ≡ wagon_changed l.problem l.now.office l.pairs
