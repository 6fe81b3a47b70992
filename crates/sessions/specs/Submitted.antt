-- An event that is submitted at a seat.
use Rattle.std.specs.Prelude.{Result}
use Rattle.move_messages.specs.declared.event.Event.{Event}
use Rattle.faults.specs.declared.faults.Refusal.{Refusal}
use Rattle.commit_book.specs.Setting.{Setting}
use Rattle.commit_book.specs.declared.reply.Reply.{Reply}
use Rattle.sessions.specs.AnyBook.{IsBooksAnswer}
use Rattle.sessions.specs.Seat.{IsAnswered, SeatValue, count_of}

-- a book of this setting answers an event so, and the seat has what that answer gives it
pub record IsSubmitted (setting : Setting) (old new : SeatValue) (event : Event) (result : Result Reply Refusal) : Type 0 where
  pub seat : IsAnswered old new event result
  pub book : IsBooksAnswer setting (count_of old) event result
