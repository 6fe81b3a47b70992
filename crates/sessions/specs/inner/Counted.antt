-- What a call of a seat does to the book behind the lock, and what it adds to the seat's share.
use Rattle.std.specs.Prelude.{◌≡◌, ◌≤◌, ◌+◌, ℕ, Result, Ok, Err, length}
use Rattle.move_messages.specs.declared.event.Event.{Event}
use Rattle.commit_book.specs.BookStep.{BookState, IsCall}
use Rattle.commit_book.specs.Books.{IsSetting, answer_of}
use Rattle.commit_book.specs.Headline.{IsProved}
use Rattle.commit_book.specs.Setting.{Setting}
use Rattle.commit_book.specs.declared.call.Call.TheVariants as call
use Rattle.faults.specs.declared.faults.Refusal.{Refusal}
use Rattle.commit_book.specs.declared.reply.Reply.{Reply}
use Rattle.commit_book.specs.declared.reply.Reply.TheVariants.{Accepted, Repeated}

-- how many entries an answer adds
abbrev pub accepted_in : Reply → ℕ
accepted_in (Accepted n) = 1
accepted_in (Repeated n) = 0

-- a share counts one accepted call more, and no more than the number of its entry; any other answer leaves it
abbrev pub IsCounted : (old new : ℕ) → Result Reply Refusal → Type 0
IsCounted old new (Ok (Accepted n)) = (new ≡ old + 1) × (new ≤ n)
IsCounted old new (Ok (Repeated n)) = new ≡ old
IsCounted old new (Err refusal) = new ≡ old

-- An event is brought to a book of this setting, which a book can be given: it answers the call for it. Its history is as the
-- headline says before and after, it has at least as many entries as the share counts, and the share counts the answer.
pub record IsEnteredBy (setting : Setting) (old new : BookState) (before after : ℕ) (event : Event) (result : Result Reply Refusal) : Type 0 where
  pub call : IsCall setting old (call.Event event) (answer_of result) new
  pub given : IsSetting setting
  pub proved : IsProved setting old.history
  pub proved_after : IsProved setting new.history
  pub within : before ≤ length old.history
  pub counted : IsCounted before after result
