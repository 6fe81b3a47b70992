-- What the private calls of a book answer: an event that is entered, and a call of a list.
use Rattle.std.specs.Prelude.{◌≡◌, ◌+◌, ◌⊎◌, length, Result, Ok, Err}
use Rattle.move_messages.specs.declared.event.Event.{Event}
use Rattle.commit_book.specs.BookStep.{BookState, entered, event_answer}
use Rattle.commit_book.specs.Setting.{Setting}
use Rattle.commit_book.specs.declared.answer.Answer.{Answer}
use Rattle.commit_book.specs.declared.answer.Answer.TheVariants.{Done, Refused}
use Rattle.faults.specs.declared.faults.Refusal.{Refusal}
use Rattle.faults.specs.declared.faults.Refusal.TheVariants.{OutOfMemory}
use Rattle.commit_book.specs.declared.reply.Reply.TheVariants.{Accepted}

-- what a call of a list returned, as an answer
abbrev pub answer_or : Result Answer Refusal → Answer
answer_or (Ok answer) = answer
answer_or (Err refusal) = Refused refusal

-- an event that is entered or refused; or memory is out where it would be entered
pub record IsEnteredOrRefused (setting : Setting) (book : BookState) (entry : Event) (answer : Answer) (new : BookState) : Type 0 where
  pub answered : answer ≡ event_answer setting book.history entry
  pub changed : new ≡ entered book entry answer

pub record IsOutOfMemory (setting : Setting) (book : BookState) (entry : Event) (answer : Answer) (new : BookState) : Type 0 where
  pub may : event_answer setting book.history entry ≡ Done (Accepted (length book.history + 1))
  pub refused : answer ≡ Refused OutOfMemory
  pub unchanged : new ≡ book

abbrev pub IsEntered : Setting → BookState → Event → Answer → BookState → Type 0
IsEntered setting book entry answer new = IsEnteredOrRefused setting book entry answer new ⊎ IsOutOfMemory setting book entry answer new
