-- What a line of a journal does to a book, as in a run, and which problem it is about.
use Rattle.std.specs.Prelude.{◌≡◌, ◌⊎◌, ℕ, Bool, true, false, List, [], length, Option, Some, None, Result, Ok, Err}
use Rattle.commit_book.specs.BookStep.{IsStep}
use Rattle.commit_book.specs.Books.{BookValue}
use Rattle.commit_book.specs.declared.answer.Answer.{Answer}
use Rattle.commit_book.specs.declared.answer.Answer.TheVariants.{Done, Begun, Refused}
use Rattle.commit_book.specs.declared.call.Call.TheVariants as call
use Rattle.commit_book.specs.declared.reply.Reply.TheVariants.{Accepted, Repeated}
use Rattle.line_fields.specs.Commands.{command_of}
use Rattle.line_fields.specs.declared.command.Command.{Command}
use Rattle.line_fields.specs.declared.command.Command.TheVariants as command
use Rattle.line_fields.specs.declared.fault.LineFault.{LineFault}
use Rattle.move_messages.specs.declared.event.Event.{Event}
use Rattle.move_messages.specs.declared.event.Event.TheVariants as event
use Rattle.line_plans.specs.declared.problem_key.ProblemKey.{ProblemKey}

-- What lines have led to: the book; the number of the last line that isn't blank, and the problem that it is about, where it is
-- about one; and whether memory was refused for a line.
pub record LinesValue : Type 0 where
  pub book : BookValue
  pub line : ℕ
  pub problem : Option ProblemKey
  pub partial : Bool

-- of a book, before the first line
abbrev pub first_lines : BookValue → LinesValue
first_lines book = record { book = book; line = 0; problem = None; partial = false }

-- ---- lines

-- the problem that an event names: only a commit names one
abbrev pub named_by : Event → Option ProblemKey
named_by (event.Message message) = None
named_by (event.Place order) = None
named_by (event.Withdraw id) = None
named_by (event.Commit commit) = Some (record { version = commit.version; at = commit.at })
named_by (event.Revise network) = None

-- an event is about the problem that it names where it is accepted
abbrev pub accepted_of : (named : Option ProblemKey) → Answer → Option ProblemKey
accepted_of named (Done (Accepted n)) = named
accepted_of named (Done (Repeated n)) = None
accepted_of named (Begun n) = None
accepted_of named (Refused refusal) = None

-- an event is a step of the book, and its answer says which problem it is about
pub record BringsEvent (old : BookValue) (happens : Event) (problem : Option ProblemKey) (new : BookValue) : Type 0 where
  pub answer : Answer
  pub step : IsStep old.setting old.state (call.Event happens) answer new.state
  pub setting : new.setting ≡ old.setting
  pub about : problem ≡ accepted_of (named_by happens) answer

-- a begin is a step of the book, and is about the problem of the present version at its moment
pub record BringsBegin (old : BookValue) (at : ℕ) (problem : Option ProblemKey) (new : BookValue) : Type 0 where
  pub step : IsStep old.setting old.state (call.Begin at) (Begun (length old.state.history)) new.state
  pub setting : new.setting ≡ old.setting
  pub about : problem ≡ Some (record { version = length old.state.history; at = at })

-- a plan is a begin here, since planning changes nothing; a sheet does nothing, and is about no problem
abbrev pub BringsCommand : BookValue → Command → (problem : Option ProblemKey) → BookValue → Type 0
BringsCommand old (command.Event happens) problem new = BringsEvent old happens problem new
BringsCommand old (command.Begin at) problem new = BringsBegin old at problem new
BringsCommand old (command.Plan at) problem new = BringsBegin old at problem new
BringsCommand old command.Sheet problem new = (problem ≡ None) × (new ≡ old)

-- nor does a line that is no command
abbrev pub BringsRead : BookValue → Result Command LineFault → (problem : Option ProblemKey) → BookValue → Type 0
BringsRead old (Ok asked) problem new = BringsCommand old asked problem new
BringsRead old (Err fault) problem new = (problem ≡ None) × (new ≡ old)

-- a line's bytes lead from one book to another, and are about this problem
abbrev pub BringsLine : BookValue → (bytes : List ℕ) → (problem : Option ProblemKey) → BookValue → Type 0
BringsLine old bytes problem new = BringsRead old (command_of bytes) problem new

-- ---- what lines have led to

-- a line is brought to the book, and is the last one
pub record IsTaken (line : ℕ) (old : LinesValue) (bytes : List ℕ) (new : LinesValue) : Type 0 where
  pub brings : BringsLine old.book bytes new.problem new.book
  pub number : new.line ≡ line
  pub whole : new.partial ≡ false

-- memory is refused for a line, which changes nothing of the book
abbrev pub cut_off : (line : ℕ) → LinesValue → LinesValue
cut_off line old = record { book = old.book; line = line; problem = None; partial = true }

-- from then on no line is brought to the book
abbrev pub TakesWhere : (partial : Bool) → (line : ℕ) → LinesValue → (bytes : List ℕ) → LinesValue → Type 0
TakesWhere true line old bytes new = new ≡ old
TakesWhere false line old bytes new = IsTaken line old bytes new ⊎ (new ≡ cut_off line old)

abbrev pub TakesLine : (line : ℕ) → LinesValue → (bytes : List ℕ) → LinesValue → Type 0
TakesLine line old bytes new = TakesWhere old.partial line old bytes new

-- What a line that isn't blank is replied: nothing.
abbrev pub BeginsPlans : (line : ℕ) → LinesValue → (bytes text : List ℕ) → (counts : Bool) → LinesValue → Type 0
BeginsPlans line old bytes text counts new = (text ≡ []) × (counts ≡ false) × TakesLine line old bytes new
