-- How a watch goes on at an event.
use Rattle.std.specs.Prelude.{◌≡◌, ◌≤◌, ◌<◌, ℕ, max, true, ◌||◌, nat_le, nat_lt, List, Option, Some, None, MatchBool}
use Rattle.std.specs.List.{list_all}
use Rattle.commit_book.specs.declared.answer.Answer.{Answer}
use Rattle.fleet_rows.specs.Rows.{wagon_in}
use Rattle.move_messages.specs.declared.event.Event.{Event}
use Rattle.move_messages.specs.declared.event.Event.TheVariants as event
use Rattle.operating_db.specs.Office.{Office}
use Rattle.wagons_and_orders.specs.declared.wagon_row.WagonRow.{WagonRow}
use Rattle.journal_notes.specs.EventNotes.{is_accepted}
use Rattle.journal_notes.specs.Watches.{WatchValue, is_calm}

-- the moment of the last message of a row's wagon; 0 where there is no row
abbrev pub last_of : Option WagonRow → ℕ
last_of None = 0
last_of (Some row) = row.last

-- it has heard a message of this wagon; beyond the bound it has another bound
pub record Hears (after : Office) (number : List ℕ) (old new : WatchValue) : Type 0 where
  pub newest : new.newest ≡ max old.newest (last_of (wagon_in after.wagons number))
  pub below : new.newest ≤ old.calm_until → new.calm_until ≡ old.calm_until
  pub above : old.calm_until < new.newest → list_all (is_calm new.newest new.calm_until) after.orders ≡ true

-- the bound goes no further than the latest moment of an order that is placed
pub record Lowers (latest : ℕ) (old new : WatchValue) : Type 0 where
  pub newest : new.newest ≡ old.newest
  pub lower : new.calm_until ≤ old.calm_until
  pub under : (nat_lt latest new.newest || nat_le new.calm_until latest) ≡ true

-- newest moment and bound stay
pub record Stays (old new : WatchValue) : Type 0 where
  pub newest : new.newest ≡ old.newest
  pub calm_until : new.calm_until ≡ old.calm_until

-- an accepted message is heard, and an accepted order lowers the bound; nothing else changes a watch
abbrev pub Advances : Event → Answer → (after : Office) → (old new : WatchValue) → Type 0
Advances (event.Message message) answer after old new = MatchBool (is_accepted answer) (Hears after message.wagon old new) (Stays old new)
Advances (event.Place order) answer after old new = MatchBool (is_accepted answer) (Lowers order.latest old new) (Stays old new)
Advances (event.Withdraw id) answer after old new = Stays old new
Advances (event.Commit commit) answer after old new = Stays old new
Advances (event.Revise network) answer after old new = Stays old new
