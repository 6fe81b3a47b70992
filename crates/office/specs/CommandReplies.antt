-- What a run replies to a command line, behind the line's number, and what the line does to the book.
use Rattle.std.specs.Prelude.{◌≡◌, ◌⊎◌, ℕ, Bool, true, false, List, [], ◌∷◌, ◌++◌, length, Result, Ok, Err}
use Rattle.line_fields.specs.declared.fault.LineFault.{LineFault}
use Rattle.line_fields.specs.Commands.{command_of}
use Rattle.line_fields.specs.declared.command.Command.{Command}
use Rattle.line_fields.specs.declared.command.Command.TheVariants as command
use Rattle.move_messages.specs.declared.event.Event.{Event}
use Rattle.move_messages.specs.declared.event.Event.TheVariants as event
use Rattle.cost_table.specs.Plan.{IsOptimal, cost_of}
use Rattle.cost_table.specs.PlanList.{IsPlanList}
use Rattle.cost_table.specs.Table.{Table}
use Rattle.price_checker.specs.Certificate.{IsCertificate}
use Rattle.commit_book.specs.Books.{BookValue, present_office}
use Rattle.commit_book.specs.BookStep.{IsRun, IsStep}
use Rattle.commit_book.specs.History.{IsTableAt}
use Rattle.price_checker.specs.Snap.{SnapValue}
use Rattle.commit_book.specs.Snap.{snap_of}
use Rattle.commit_book.specs.declared.answer.Answer.{Answer}
use Rattle.commit_book.specs.declared.answer.Answer.TheVariants.{Done, Begun, Refused}
use Rattle.commit_book.specs.declared.call.Call.{Call}
use Rattle.commit_book.specs.declared.call.Call.TheVariants as call
use Rattle.commit_book.specs.declared.reply.Reply.TheVariants.{Accepted, Repeated}
use Rattle.line_engine.specs.Replies.{Numbered, Replying}
use Rattle.reply_texts.specs.ReplyTexts.{accepted_text, begun_text, book_refused_text, line_refused_text, planned_text, repeated_text}
use Rattle.dispatch_sheet.specs.Certificate.{IsCertificateLine, commit_of}
use Rattle.dispatch_sheet.specs.PlanText.{plan_text_of}
use Rattle.dispatch_sheet.specs.Sheet.{IsSheetText}

-- the version that a book has reached, and its problem at a moment
abbrev pub present : BookValue → (at : ℕ) → SnapValue
present book at = snap_of book.setting book.state.history at

-- ---- events

-- the text of an answer to a call that is no begin
abbrev pub answer_text : Answer → List ℕ
answer_text (Done (Accepted n)) = accepted_text n
answer_text (Done (Repeated n)) = repeated_text n
answer_text (Refused refusal) = book_refused_text refusal
answer_text (Begun n) = []

abbrev pub is_refused : Answer → Bool
is_refused (Refused refusal) = true
is_refused (Done reply) = false
is_refused (Begun n) = false

-- an event is a step of the book, and the reply is its answer
pub record RepliesToEvent (old : BookValue) (event : Event) (body : List ℕ) (refused : Bool) (new : BookValue) : Type 0 where
  pub answer : Answer
  pub step : IsStep old.setting old.state (call.Event event) answer new.state
  pub setting : new.setting ≡ old.setting
  pub text : body ≡ answer_text answer
  pub mark : refused ≡ is_refused answer

-- ---- begins and plans

-- the book after a begin at a moment
pub record IsBegun (old : BookValue) (at : ℕ) (new : BookValue) : Type 0 where
  pub step : IsStep old.setting old.state (call.Begin at) (Begun (length old.state.history)) new.state
  pub setting : new.setting ≡ old.setting

abbrev pub begun_reply : SnapValue → List ℕ
begun_reply snap = begun_text snap.version (length snap.problem.wagons) (length snap.problem.orders)

abbrev pub planned_reply : SnapValue → (cost : ℕ) → List ℕ
planned_reply snap cost = planned_text snap.version (length snap.problem.wagons) (length snap.problem.orders) cost

-- The reply to a plan line, over the table of the version just begun: a plan at the lowest total cost, whose pairs ascend
-- by order and then by wagon, and the line of a commit of it whose prices are a certificate. Sent back, that line is read as this commit.
pub record IsPlanned (snap : SnapValue) (table : Table) (body : List ℕ) : Type 0 where
  pub pairs : List (ℕ × ℕ)
  pub u : List ℕ
  pub v : List ℕ
  pub kept : IsPlanList pairs
  pub optimal : IsOptimal table pairs
  pub certificate : IsCertificate table pairs u v
  pub line : List ℕ
  pub is_line : IsCertificateLine (commit_of snap pairs u v) line
  pub reads : command_of line ≡ Ok (command.Event (event.Commit (commit_of snap pairs u v)))
  pub text : body ≡ planned_reply snap (cost_of table pairs) ++ plan_text_of snap.problem table pairs ++ line ++ 10 ∷ []

-- a plan of the present version's problem at a moment
abbrev pub IsPlanOf : BookValue → (at : ℕ) → (body : List ℕ) → Type 0
IsPlanOf old at body = (table : Table) × IsTableAt old.setting old.state.history (length old.state.history) at table × IsPlanned (present old at) table body

-- ---- lines

-- the reply to a command
abbrev pub RepliesToCommand : BookValue → Command → List ℕ → Bool → BookValue → Type 0
RepliesToCommand old (command.Event event) body refused new = RepliesToEvent old event body refused new
RepliesToCommand old (command.Begin at) body refused new = (body ≡ begun_reply (present old at)) × (refused ≡ false) × IsBegun old at new
RepliesToCommand old (command.Plan at) body refused new = IsPlanOf old at body × (refused ≡ false) × IsBegun old at new
RepliesToCommand old command.Sheet body refused new = IsSheetText (length old.state.history) (present_office old) body × (refused ≡ false) × (new ≡ old)

-- the reply to what was read: a command, or a line that is none
abbrev pub RepliesToRead : BookValue → Result Command LineFault → List ℕ → Bool → BookValue → Type 0
RepliesToRead old (Err fault) body refused new = (body ≡ line_refused_text fault) × (refused ≡ true) × (new ≡ old)
RepliesToRead old (Ok asked) body refused new = RepliesToCommand old asked body refused new

-- the reply to a line's bytes
abbrev pub RepliesToLine : BookValue → List ℕ → List ℕ → Bool → BookValue → Type 0
RepliesToLine old line body refused new = RepliesToRead old (command_of line) body refused new

-- what a command does whose reply is that memory is out: nothing; but a plan may have begun
abbrev pub LeavesOutOfMemory : BookValue → Command → BookValue → Type 0
LeavesOutOfMemory old (command.Plan at) new = (new ≡ old) ⊎ IsBegun old at new
LeavesOutOfMemory old (command.Event event) new = new ≡ old
LeavesOutOfMemory old (command.Begin at) new = new ≡ old
LeavesOutOfMemory old command.Sheet new = new ≡ old

abbrev pub ReadLeaves : BookValue → Result Command LineFault → BookValue → Type 0
ReadLeaves old (Ok asked) new = LeavesOutOfMemory old asked new
ReadLeaves old (Err fault) new = new ≡ old

-- the same of a line's bytes
abbrev pub LineRunsOutOfMemory : BookValue → List ℕ → BookValue → Type 0
LineRunsOutOfMemory old line new = ReadLeaves old (command_of line) new

-- ---- runs

-- the replies to command lines, each behind its line's number
abbrev pub ToCommands : Replying BookValue
ToCommands = Numbered RepliesToLine LineRunsOutOfMemory

-- calls, one after the other, led from a book to another
pub record IsLedTo (old new : BookValue) : Type 0 where
  pub calls : List Call
  pub answers : List Answer
  pub run : IsRun old.setting old.state calls answers new.state
  pub setting : new.setting ≡ old.setting
