-- The snapshot of a history's last version.
use Rattle.std.specs.Prelude.{ℕ, List, length}
use Rattle.price_checker.specs.Snap.{SnapValue}
use Rattle.operating_db.specs.Problem.{problem_of}
use Rattle.move_messages.specs.declared.event.Event.{Event}
use Rattle.commit_book.specs.History.{replay}
use Rattle.commit_book.specs.Setting.{Setting}

-- the problem of a history's last version at a moment, and the network in force
abbrev pub snap_of : Setting → List Event → (at : ℕ) → SnapValue
snap_of setting history at = record {
  version = length history;
  network = (replay setting history).network;
  problem = problem_of (replay setting history) at;
}
