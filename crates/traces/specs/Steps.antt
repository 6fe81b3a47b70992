-- The step that a line of a journal adds to a trace, and what the line does to the book: what a run does.
use Rattle.std.specs.Prelude.{◌≡◌, ◌≢◌, ◌⊎◌, ℕ, Bool, true, false, if◌then◌else◌, List, [], ◌∷◌, ◌++◌, length, Option, Some, None, Result, Ok, Err}
use Rattle.commit_book.specs.BookStep.{IsStep}
use Rattle.commit_book.specs.Books.{BookValue}
use Rattle.commit_book.specs.History.{replay}
use Rattle.commit_book.specs.declared.answer.Answer.{Answer}
use Rattle.commit_book.specs.declared.answer.Answer.TheVariants.{Done, Begun, Refused}
use Rattle.commit_book.specs.declared.call.Call.TheVariants as call
use Rattle.commit_book.specs.declared.reply.Reply.TheVariants.{Accepted, Repeated}
use Rattle.faults.specs.Numbers.{refusal_number}
use Rattle.line_fields.specs.Commands.{command_of}
use Rattle.line_fields.specs.declared.command.Command.{Command}
use Rattle.line_fields.specs.declared.command.Command.TheVariants as command
use Rattle.line_fields.specs.declared.fault.LineFault.{LineFault}
use Rattle.move_messages.specs.declared.event.Event.{Event}
use Rattle.operating_db.specs.Office.{Office}
use Rattle.traces.specs.Asked.{names, row_in}
use Rattle.traces.specs.Events.{brief_of}
use Rattle.traces.specs.declared.asked.Asked.{Asked}
use Rattle.traces.specs.declared.asked_row.AskedRow.{AskedRow}
use Rattle.traces.specs.declared.event_brief.EventBrief.{EventBrief}
use Rattle.traces.specs.declared.step.Step.{Step}
use Rattle.traces.specs.declared.step.StepAnswer.{StepAnswer}
use Rattle.traces.specs.declared.step.StepAnswer.TheVariants as answered

-- the office of a book's present version
abbrev pub office_of : BookValue → Office
office_of book = replay book.setting book.state.history

-- ---- steps

-- the step of an event of which a step keeps this
abbrev pub step_at : (line : ℕ) → EventBrief → StepAnswer → (before after : AskedRow) → Step
step_at line brief answer before after = record { line = line; event = brief; answer = answer; before = before; after = after }

-- an accepted event has its step where it names what is asked for, or the row has changed
abbrev pub IsAcceptedStep : (named : Bool) → Step → (shown : Option Step) → Type 0
IsAcceptedStep true step shown = shown ≡ Some step
IsAcceptedStep false step shown = ((step.before ≢ step.after) × (shown ≡ Some step)) ⊎ ((step.before ≡ step.after) × (shown ≡ None))

-- a refused event has its step where it names what is asked for
abbrev pub refused_step : (named : Bool) → Step → Option Step
refused_step named step = if named then Some step else None

-- The step of an event, by whether it names what is asked for, by its answer, and by the rows before and after it. What is
-- repeated has none.
abbrev pub IsStepOf : (line : ℕ) → EventBrief → (named : Bool) → (before : AskedRow) → Answer → (after : AskedRow) → (shown : Option Step) → Type 0
IsStepOf line brief named before (Done (Accepted n)) after shown = IsAcceptedStep named (step_at line brief (answered.Accepted n) before after) shown
IsStepOf line brief named before (Done (Repeated n)) after shown = shown ≡ None
IsStepOf line brief named before (Begun n) after shown = shown ≡ None
IsStepOf line brief named before (Refused refusal) after shown =
    shown ≡ refused_step named (step_at line brief (answered.Refused (refusal_number refusal)) before before)

-- the steps of a trace, and the one that a line adds
abbrev pub with_step : List Step → Option Step → List Step
with_step steps None = steps
with_step steps (Some step) = steps ++ step ∷ []

-- ---- lines

-- an event is a step of the book, and its answer says which step of the trace it adds
pub record TracesEvent (line : ℕ) (asked : Asked) (old : BookValue) (event : Event) (shown : Option Step) (new : BookValue) : Type 0 where
  pub answer : Answer
  pub step : IsStep old.setting old.state (call.Event event) answer new.state
  pub setting : new.setting ≡ old.setting
  pub is_step : IsStepOf line (brief_of event) (names asked event) (row_in asked (office_of old)) answer (row_in asked (office_of new)) shown

-- the book after a begin at a moment
pub record IsBegun (old : BookValue) (at : ℕ) (new : BookValue) : Type 0 where
  pub step : IsStep old.setting old.state (call.Begin at) (Begun (length old.state.history)) new.state
  pub setting : new.setting ≡ old.setting

-- a plan is a begin here, since planning changes nothing; a begin and a sheet add no step
abbrev pub TracesCommand : (line : ℕ) → Asked → BookValue → Command → (shown : Option Step) → BookValue → Type 0
TracesCommand line asked old (command.Event event) shown new = TracesEvent line asked old event shown new
TracesCommand line asked old (command.Begin at) shown new = (shown ≡ None) × IsBegun old at new
TracesCommand line asked old (command.Plan at) shown new = (shown ≡ None) × IsBegun old at new
TracesCommand line asked old command.Sheet shown new = (shown ≡ None) × (new ≡ old)

-- a line that is no command adds no step and does nothing
abbrev pub TracesRead : (line : ℕ) → Asked → BookValue → Result Command LineFault → (shown : Option Step) → BookValue → Type 0
TracesRead line asked old (Ok asks) shown new = TracesCommand line asked old asks shown new
TracesRead line asked old (Err fault) shown new = (shown ≡ None) × (new ≡ old)

-- the step that a line's bytes add, where the line leads from one book to another
abbrev pub TracesLine : (line : ℕ) → Asked → BookValue → (bytes : List ℕ) → (shown : Option Step) → BookValue → Type 0
TracesLine line asked old bytes shown new = TracesRead line asked old (command_of bytes) shown new
