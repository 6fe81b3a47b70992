-- Where a run may answer that memory is out to a command that was read.
use Rattle.std.specs.Prelude.{◌≡◌, ◌⊎◌, true}
use Rattle.commit_book.specs.Books.{BookValue}
use Rattle.commit_book.specs.BookStep.{IsEventAnswer, MayWantMemory}
use Rattle.line_fields.specs.declared.command.Command.{Command}
use Rattle.line_fields.specs.declared.command.Command.TheVariants as command
use Rattle.move_messages.specs.declared.event.Event.{Event}
use Rattle.commit_book.specs.declared.answer.Answer.{Answer}
use Rattle.office.specs.CommandReplies.{is_refused}

-- where there is memory enough, the answer to the event is a refusal
pub record IsRefusedAt (book : BookValue) (event : Event) : Type 0 where
  pub answer : Answer
  pub is_answer : IsEventAnswer book.setting book.state event answer
  pub refused : is_refused answer ≡ true

-- An event, where the book's own step may run out of memory or its answer is a refusal, whose details are text: so none that
-- is repeated. A begin, a plan and a sheet at any time.
abbrev pub MayAnswerOutOfMemory : BookValue → Command → Type 0
MayAnswerOutOfMemory book (command.Event event) = MayWantMemory book.setting book.state event ⊎ IsRefusedAt book event
MayAnswerOutOfMemory book (command.Begin at) = Unit {0}
MayAnswerOutOfMemory book (command.Plan at) = Unit {0}
MayAnswerOutOfMemory book command.Sheet = Unit {0}
