-- What is known of the book behind the lock: a book of the setting that it was opened with answers the call.
use Rattle.std.specs.Prelude.{◌≡◌, ◌≤◌, ℕ, List, length, Result}
use Rattle.move_messages.specs.declared.event.Event.{Event}
use Rattle.commit_book.specs.BookStep.{BookState, IsCall}
use Rattle.commit_book.specs.Books.{answer_of, IsSetting}
use Rattle.commit_book.specs.Headline.{IsProved}
use Rattle.commit_book.specs.Setting.{Setting}
use Rattle.price_checker.specs.Snap.{SnapValue}
use Rattle.commit_book.specs.Snap.{snap_of}
use Rattle.commit_book.specs.declared.answer.Answer.{Answer}
use Rattle.commit_book.specs.declared.call.Call.{Call}
use Rattle.commit_book.specs.declared.call.Call.TheVariants as call
use Rattle.faults.specs.declared.faults.Refusal.{Refusal}
use Rattle.commit_book.specs.declared.reply.Reply.{Reply}

-- A book of this setting answers a call so: the setting is one that a book can be given, the book's history before the call
-- and after it is as the headline says, and it has at least so many entries. So memory is out only where the book's own step
-- says that it may be.
pub record IsAnsweredAt (setting : Setting) (count : ℕ) (call : Call) (answer : Answer) : Type 0 where
  pub given : IsSetting setting
  pub book : BookState
  pub proved : IsProved setting book.history
  pub counted : count ≤ length book.history
  pub new : BookState
  pub is_call : IsCall setting book call answer new
  pub proved_after : IsProved setting new.history

-- the answer to an event is that of such a book
abbrev pub IsBooksAnswer : Setting → (count : ℕ) → Event → Result Reply Refusal → Type 0
IsBooksAnswer setting count event result = IsAnsweredAt setting count (call.Event event) (answer_of result)

-- a snapshot of the last version of such a book
pub record IsSnapAt (setting : Setting) (count at : ℕ) (snap : SnapValue) : Type 0 where
  pub given : IsSetting setting
  pub history : List Event
  pub proved : IsProved setting history
  pub counted : count ≤ length history
  pub is_snap : snap ≡ snap_of setting history at
