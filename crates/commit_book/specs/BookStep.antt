-- The step of a book: what each call is answered, and the book after it.
use Rattle.std.specs.Prelude.{◌≡◌, ◌≢◌, ◌+◌, ◌==◌, ◌&&◌, ◌⊎◌, nat_lt, nat_le, ℕ, Bool, true, false, if◌then◌else◌, List, [], ◌∷◌, ◌++◌, length, drop, Option, Some, None, Result, Ok, Err, slice_get}
use Rattle.std.specs.List.{list_any}
use Rattle.std.specs.Option.{option_or}
use Rattle.move_messages.specs.declared.message.Message as movement
use Rattle.move_messages.specs.declared.commit_text.CommitText.{CommitText}
use Rattle.cost_table.specs.Problem.{ProblemValue, names_of_problem}
use Rattle.cost_table.specs.Table.{Table}
use Rattle.price_checker.specs.NamedPairs.{checked}
use Rattle.faults.specs.declared.faults.NamedFault.{NamedFault}
use Rattle.operating_db.specs.After.{after_call}
use Rattle.operating_db.specs.Commits.{Pair}
use Rattle.operating_db.specs.Office.{Office}
use Rattle.faults.specs.declared.faults.ApplyFault.{ApplyFault}
use Rattle.move_messages.specs.declared.event.Event.{Event}
use Rattle.move_messages.specs.declared.event.Event.TheVariants as event
use Rattle.commit_book.specs.Commits.{wagon_changed, order_changed}
use Rattle.commit_book.specs.History.{replay, problem_at, IsTableAt, IsFresh}
use Rattle.faults.specs.Conversions.{refusal_of, refusal_of_fault}
use Rattle.commit_book.specs.Setting.{Setting}
use Rattle.commit_book.specs.declared.answer.Answer.{Answer}
use Rattle.commit_book.specs.declared.answer.Answer.TheVariants.{Done, Begun, Refused}
use Rattle.commit_book.specs.declared.call.Call.{Call}
use Rattle.commit_book.specs.declared.call.Call.TheVariants as call
use Rattle.faults.specs.declared.faults.Refusal.{Refusal}
use Rattle.faults.specs.declared.faults.Refusal.TheVariants.{OutOfMemory, IdReused, BookFull, NotKept}
use Rattle.commit_book.specs.declared.reply.Reply.TheVariants.{Accepted, Repeated}

-- a book: the accepted events, and the version and moment of each kept problem, the oldest first
pub record BookState : Type 0 where
  pub history : List Event
  pub kept : List (ℕ × ℕ)

-- ---- events

abbrev pub is_full : Setting → List Event → Bool
is_full setting history = nat_le setting.entries (length history)

-- entry n, or the office's refusal
abbrev pub entered_as : ℕ → Result Office ApplyFault → Answer
entered_as n (Ok office) = Done (Accepted n)
entered_as n (Err fault) = Refused (refusal_of fault)

-- what an event is answered that is no commit
abbrev pub event_answer : Setting → List Event → Event → Answer
event_answer setting history event =
    if is_full setting history then Refused BookFull
    else entered_as (length history + 1) (after_call (length setting.networks) (replay setting history) event)

-- an accepted event is the last entry; else nothing has changed
abbrev pub entered : BookState → Event → Answer → BookState
entered book event (Done (Accepted n)) = record book { history = book.history ++ event ∷ [] }
entered book event (Done (Repeated n)) = book
entered book event (Begun n) = book
entered book event (Refused refusal) = book

-- ---- messages

-- an entry is this message
pub record IsRepeated (history : List Event) (message : movement.Message) (answer : Answer) : Type 0 where
  pub before : ℕ
  pub same : slice_get history before ≡ Some (event.Message message)
  pub answered : answer ≡ Done (Repeated (before + 1))

-- an entry is another message of this id
pub record IsReused (history : List Event) (message : movement.Message) (answer : Answer) : Type 0 where
  pub before : ℕ
  pub other : movement.Message
  pub there : slice_get history before ≡ Some (event.Message other)
  pub same_id : other.id ≡ message.id
  pub differs : other ≢ message
  pub answered : answer ≡ Refused IdReused

-- no entry has this id
pub record IsNew (setting : Setting) (history : List Event) (message : movement.Message) (answer : Answer) : Type 0 where
  pub fresh : IsFresh message.id history
  pub answered : answer ≡ event_answer setting history (event.Message message)

abbrev pub IsMessageAnswer : Setting → List Event → movement.Message → Answer → Type 0
IsMessageAnswer setting history message answer = IsRepeated history message answer ⊎ (IsReused history message answer ⊎ IsNew setting history message answer)

-- ---- commits

abbrev pub is_this : ℕ × ℕ → ℕ × ℕ → Bool
is_this which kept = kept.0 == which.0 && kept.1 == which.1

-- whether the problem of a version at a moment is kept
abbrev pub is_kept : List (ℕ × ℕ) → ℕ × ℕ → Bool
is_kept kept which = list_any (is_this which) kept

-- a fault of the price checker over the commit's named pairs; else the first wagon, else the first order, that has
-- changed
abbrev pub refusal_by : ProblemValue → (now : Office) → List Pair → Result ℕ NamedFault → Option Refusal
refusal_by problem now pairs (Err fault) = Some (refusal_of_fault fault)
refusal_by problem now pairs (Ok cost) = option_or (wagon_changed problem now pairs) (order_changed now pairs)

-- why a commit is refused, where this is the problem that it names, this its table, and this the office now
abbrev pub refusal_in : ProblemValue → (now : Office) → CommitText → Table → Option Refusal
refusal_in problem now commit table = refusal_by problem now commit.pairs (checked (names_of_problem problem) table commit.pairs commit.u commit.v)

abbrev pub accepted_unless : ℕ → Option Refusal → Answer
accepted_unless n (Some refusal) = Refused refusal
accepted_unless n None = Done (Accepted n)

-- what a commit of a kept problem is answered, with the table of the version and moment that it names
pub record IsJudged (setting : Setting) (history : List Event) (commit : CommitText) (answer : Answer) : Type 0 where
  pub table : Table
  pub is_table : IsTableAt setting history commit.version commit.at table
  pub answered : answer ≡ accepted_unless (length history + 1) (refusal_in (problem_at setting history commit.version commit.at) (replay setting history) commit table)

abbrev pub IsCommitAnswer : (is_kept is_full : Bool) → Setting → List Event → CommitText → Answer → Type 0
IsCommitAnswer false is_full setting history commit answer = answer ≡ Refused NotKept
IsCommitAnswer true true setting history commit answer = answer ≡ Refused BookFull
IsCommitAnswer true false setting history commit answer = IsJudged setting history commit answer

-- ---- steps

-- the kept problems after a begin: one that is kept stays where it is; another goes last, and the oldest is dropped
-- where there would be too many
abbrev pub kept_after : Setting → List (ℕ × ℕ) → ℕ × ℕ → List (ℕ × ℕ)
kept_after setting kept which =
    if is_kept kept which then kept
    else if nat_lt (length kept) setting.kept then kept ++ which ∷ []
    else drop 1 kept ++ which ∷ []

-- the answer to an event, where there is memory enough
abbrev pub IsEventAnswer : Setting → BookState → Event → Answer → Type 0
IsEventAnswer setting book (event.Message message) answer = IsMessageAnswer setting book.history message answer
IsEventAnswer setting book (event.Place text) answer = answer ≡ event_answer setting book.history (event.Place text)
IsEventAnswer setting book (event.Withdraw id) answer = answer ≡ event_answer setting book.history (event.Withdraw id)
IsEventAnswer setting book (event.Commit commit) answer =
    IsCommitAnswer (is_kept book.kept (commit.version, commit.at)) (is_full setting book.history) setting book.history commit answer
IsEventAnswer setting book (event.Revise network) answer = answer ≡ event_answer setting book.history (event.Revise network)

-- the answer to a call, where there is memory enough
abbrev pub IsAnswer : Setting → BookState → Call → Answer → Type 0
IsAnswer setting book (call.Event event) answer = IsEventAnswer setting book event answer
IsAnswer setting book (call.Begin at) answer = answer ≡ Begun (length book.history)

-- the book after a call that is answered so
abbrev pub book_after : Setting → BookState → Call → Answer → BookState
book_after setting book (call.Event event) answer = entered book event answer
book_after setting book (call.Begin at) answer = record book { kept = kept_after setting book.kept (length book.history, at) }

-- a call that is answered where there is memory enough, and the book after it
pub record IsStep (setting : Setting) (book : BookState) (call : Call) (answer : Answer) (new : BookState) : Type 0 where
  pub answered : IsAnswer setting book call answer
  pub changed : new ≡ book_after setting book call answer

-- where an event may be answered that memory is out: a commit of a kept problem, on a book that isn't full; another event
-- where it would be accepted
abbrev pub MayWantMemory : Setting → BookState → Event → Type 0
MayWantMemory setting book (event.Commit commit) = (is_kept book.kept (commit.version, commit.at) ≡ true) × (is_full setting book.history ≡ false)
MayWantMemory setting book event = IsEventAnswer setting book event (Done (Accepted (length book.history + 1)))

-- where a call may be answered so: such an event; a begin
abbrev pub MayRunOutOfMemory : Setting → BookState → Call → Type 0
MayRunOutOfMemory setting book (call.Event event) = MayWantMemory setting book event
MayRunOutOfMemory setting book (call.Begin at) = Unit {0}

-- a call is answered that memory is out, and nothing has changed
pub record RunsOutOfMemory (setting : Setting) (book : BookState) (call : Call) (answer : Answer) (new : BookState) : Type 0 where
  pub may : MayRunOutOfMemory setting book call
  pub refused : answer ≡ Refused OutOfMemory
  pub unchanged : new ≡ book

-- A call of a book: its step, or memory is out.
abbrev pub IsCall : Setting → BookState → Call → Answer → BookState → Type 0
IsCall setting book call answer new = IsStep setting book call answer new ⊎ RunsOutOfMemory setting book call answer new

-- a run of calls, one after the other, with their answers
abbrev pub IsRun : Setting → BookState → List Call → List Answer → BookState → Type 0
IsRun setting book [] [] new = new ≡ book
IsRun setting book (call ∷ calls) (answer ∷ answers) new = (next : BookState) × IsCall setting book call answer next × IsRun setting next calls answers new
IsRun setting book [] (answer ∷ answers) new = ⊥
IsRun setting book (call ∷ calls) [] new = ⊥
