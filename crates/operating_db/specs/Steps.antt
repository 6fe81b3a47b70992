-- When an event is possible.
use Rattle.std.specs.Prelude.{ℕ, IsOk}
use Rattle.move_messages.specs.declared.event.Event.{Event}
use Rattle.move_messages.specs.declared.event.Event.TheVariants.{Commit}
use Rattle.operating_db.specs.After.{after_call}
use Rattle.operating_db.specs.Commits.{CanPromise}
use Rattle.operating_db.specs.Office.{Office}

-- An event is possible in an office where there are so many networks: the pairs of a commit can be promised; any other event
-- is not refused.
abbrev pub IsPossible : (networks : ℕ) → Office → Event → Type 0
IsPossible networks office (Commit commit) = CanPromise office commit.pairs
IsPossible networks office event = IsOk (after_call networks office event)

-- What is asked of an event that may be refused: where it is a commit, it is possible. `after_call` has no refusal for
-- commits.
abbrev pub IsPromised : Office → Event → Type 0
IsPromised office (Commit commit) = CanPromise office commit.pairs
IsPromised office event = Unit {0}
