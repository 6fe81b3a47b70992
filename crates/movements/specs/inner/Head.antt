-- The first line of a text, as it is added.
use Rattle.std.specs.Prelude.{◌≡◌, ℕ, List, ◌++◌}
use Rattle.text_tables.specs.Clock.{IsShown}
use Rattle.text_tables.specs.declared.clock.Clock.{Clock}
use Rattle.movements.specs.TableText.{head_line}
use Rattle.movements.specs.declared.movement_list.MovementList.{MovementList}

-- the version and the moment were added
pub record AddsHead (clock : Clock) (list : MovementList) (old new : List ℕ) : Type 0 where
  pub at : List ℕ
  pub at_shown : IsShown clock list.at at
  pub whole : new ≡ old ++ head_line list.version at
