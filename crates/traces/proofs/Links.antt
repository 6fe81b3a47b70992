-- The row before a line and the row after it, by the step that the line adds.
use Rattle.std.proofs.Common.{◌≡◌, ℕ, Bool, true, false, List, Option, Some, None, Result, Ok, Err, refl, sym, ap, ◌∙◌, subst, inl, inr}
use Rattle.commit_book.specs.BookStep.{IsStep}
use Rattle.commit_book.specs.Books.{BookValue}
use Rattle.commit_book.specs.History.{replay}
use Rattle.commit_book.specs.Setting.{Setting}
use Rattle.commit_book.specs.declared.answer.Answer.{Answer}
use Rattle.commit_book.specs.declared.answer.Answer.TheVariants.{Done, Begun, Refused}
use Rattle.commit_book.specs.declared.call.Call.TheVariants as call
use Rattle.commit_book.specs.declared.reply.Reply.TheVariants.{Accepted, Repeated}
use Rattle.faults.specs.Numbers.{refusal_number}
use Rattle.line_fields.specs.Commands.{command_of}
use Rattle.line_fields.specs.declared.command.Command.{Command}
use Rattle.line_fields.specs.declared.command.Command.TheVariants as command
use Rattle.line_fields.specs.declared.fault.LineFault.{LineFault}
use Rattle.move_messages.specs.declared.event.Event.{Event}
use Rattle.traces.specs.Asked.{names, row_in}
use Rattle.traces.specs.Events.{brief_of}
use Rattle.traces.specs.Steps.{IsAcceptedStep, IsBegun, IsStepOf, TracesCommand, TracesLine, TracesRead, office_of, refused_step, step_at}
use Rattle.traces.specs.declared.asked.Asked.{Asked}
use Rattle.traces.specs.declared.asked_row.AskedRow.{AskedRow}
use Rattle.traces.specs.declared.step.Step.{Step}
use Rattle.traces.specs.declared.step.StepAnswer.TheVariants as answered

-- a step leads from one row to another; where there is none, they are one
abbrev pub IsLink : (before after : AskedRow) → Option Step → Type 0
IsLink before after None = before ≡ after
IsLink before after (Some step) = (step.before ≡ before) × (step.after ≡ after)

-- ---- the same row

same_book : (asked : Asked) (old new : BookValue) → new ≡ old → row_in asked (office_of old) ≡ row_in asked (office_of new)
same_book asked old new same = ap (λ (book : BookValue). row_in asked (office_of book)) (sym same)

same_history : (asked : Asked) (old new : BookValue) → new.setting ≡ old.setting → new.state.history ≡ old.state.history → row_in asked (office_of old) ≡ row_in asked (office_of new)
same_history asked old new setting history =
    sym (ap (λ (s : Setting). row_in asked (replay s new.state.history)) setting ∙ ap (λ (h : List Event). row_in asked (replay old.setting h)) history)

no_step : (before after : AskedRow) (shown : Option Step) → shown ≡ None → before ≡ after → IsLink before after shown
no_step before after shown none same = subst (λ (s : Option Step). IsLink before after s) (sym none) same

-- ---- events

accepted_link : (named : Bool) (step : Step) (shown : Option Step) → IsAcceptedStep named step shown → IsLink step.before step.after shown
accepted_link true step shown is = subst (λ (s : Option Step). IsLink step.before step.after s) (sym is) (refl, refl)
accepted_link false step shown is = elim is [
  | inl differs ↦ subst (λ (s : Option Step). IsLink step.before step.after s) (sym differs.1) (refl, refl)
  | inr same ↦ no_step step.before step.after shown same.1 same.0
]

refused_link : (named : Bool) (step : Step) (before after : AskedRow) (shown : Option Step) → step.before ≡ before → step.after ≡ before → before ≡ after → shown ≡ refused_step named step
    → IsLink before after shown
refused_link true step before after shown first last same is = subst (λ (s : Option Step). IsLink before after s) (sym is) (first, last ∙ same)
refused_link false step before after shown first last same is = no_step before after shown is same

event_link : (line : ℕ) (asked : Asked) (old : BookValue) (event : Event) (answer : Answer) (shown : Option Step) (new : BookValue)
    → IsStep old.setting old.state (call.Event event) answer new.state → new.setting ≡ old.setting
    → IsStepOf line (brief_of event) (names asked event) (row_in asked (office_of old)) answer (row_in asked (office_of new)) shown
    → IsLink (row_in asked (office_of old)) (row_in asked (office_of new)) shown
event_link line asked old event (Done (Accepted n)) shown new step setting is =
    accepted_link (names asked event) (step_at line (brief_of event) (answered.Accepted n) (row_in asked (office_of old)) (row_in asked (office_of new))) shown is
event_link line asked old event (Done (Repeated n)) shown new step setting is =
    no_step (row_in asked (office_of old)) (row_in asked (office_of new)) shown is (same_history asked old new setting (ap (λ s. s.history) step.changed))
event_link line asked old event (Begun n) shown new step setting is =
    no_step (row_in asked (office_of old)) (row_in asked (office_of new)) shown is (same_history asked old new setting (ap (λ s. s.history) step.changed))
event_link line asked old event (Refused refusal) shown new step setting is =
    refused_link (names asked event) (step_at line (brief_of event) (answered.Refused (refusal_number refusal)) (row_in asked (office_of old)) (row_in asked (office_of old)))
    (row_in asked (office_of old)) (row_in asked (office_of new)) shown refl refl (same_history asked old new setting (ap (λ s. s.history) step.changed)) is

-- ---- lines

begin_link : (asked : Asked) (old : BookValue) (at : ℕ) (shown : Option Step) (new : BookValue) → shown ≡ None → IsBegun old at new
    → IsLink (row_in asked (office_of old)) (row_in asked (office_of new)) shown
begin_link asked old at shown new none begun =
    no_step (row_in asked (office_of old)) (row_in asked (office_of new)) shown none (same_history asked old new begun.setting (ap (λ s. s.history) begun.step.changed))

command_link : (line : ℕ) (asked : Asked) (old : BookValue) (asks : Command) (shown : Option Step) (new : BookValue) → TracesCommand line asked old asks shown new
    → IsLink (row_in asked (office_of old)) (row_in asked (office_of new)) shown
command_link line asked old (command.Event event) shown new traces = event_link line asked old event traces.answer shown new traces.step traces.setting traces.is_step
command_link line asked old (command.Begin at) shown new traces = begin_link asked old at shown new traces.0 traces.1
command_link line asked old (command.Plan at) shown new traces = begin_link asked old at shown new traces.0 traces.1
command_link line asked old command.Sheet shown new traces =
    no_step (row_in asked (office_of old)) (row_in asked (office_of new)) shown traces.0 (same_book asked old new traces.1)

read_link : (line : ℕ) (asked : Asked) (old : BookValue) (read : Result Command LineFault) (shown : Option Step) (new : BookValue) → TracesRead line asked old read shown new
    → IsLink (row_in asked (office_of old)) (row_in asked (office_of new)) shown
read_link line asked old (Ok asks) shown new traces = command_link line asked old asks shown new traces
read_link line asked old (Err fault) shown new traces =
    no_step (row_in asked (office_of old)) (row_in asked (office_of new)) shown traces.0 (same_book asked old new traces.1)

-- the step of a line leads from the row before the line to the row after it
pub line_link : (line : ℕ) (asked : Asked) (old : BookValue) (bytes : List ℕ) (shown : Option Step) (new : BookValue) → TracesLine line asked old bytes shown new
    → IsLink (row_in asked (office_of old)) (row_in asked (office_of new)) shown
line_link line asked old bytes shown new traces = read_link line asked old (command_of bytes) shown new traces
