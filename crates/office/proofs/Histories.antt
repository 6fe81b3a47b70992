-- What a run has done to a book: calls, one after the other.
use Rattle.std.proofs.Common.{◌≡◌, ◌+◌, ℕ, Bool, true, false, List, [], ◌∷◌, ◌++◌, Result, Ok, Err, refl, sym, ◌∙◌, subst, inl, inr}
use Rattle.line_fields.specs.declared.fault.LineFault.{LineFault}
use Rattle.line_engine.specs.Lines.{is_blank}
use Rattle.line_engine.specs.Replies.{AnswersLine, Numbered, Replies, Responds}
use Rattle.line_engine.specs.Runs.{Failures, Run, Runs, Stops}
use Rattle.line_engine.specs.declared.run.RunCount.{RunCount}
use Rattle.line_engine.specs.declared.run.RunFault.{RunFault}
use Rattle.line_engine.specs.declared.run.RunFault.TheVariants.{OutOfMemory, TooManyLines, LineTooLong, ReadFailed, WriteFailed}
use Rattle.line_fields.specs.Commands.{command_of}
use Rattle.line_fields.specs.declared.command.Command.{Command}
use Rattle.line_fields.specs.declared.command.Command.TheVariants as command
use Rattle.move_messages.specs.declared.event.Event.{Event}
use Rattle.commit_book.specs.BookStep.{BookState, IsRun, IsStep}
use Rattle.commit_book.specs.Books.{BookValue}
use Rattle.commit_book.specs.Setting.{Setting}
use Rattle.commit_book.specs.declared.answer.Answer.{Answer}
use Rattle.commit_book.specs.declared.call.Call.{Call}
use Rattle.office.specs.CommandReplies.{ReadLeaves, IsBegun, IsLedTo, LeavesOutOfMemory, LineRunsOutOfMemory, RepliesToRead, RepliesToEvent, RepliesToLine, RepliesToCommand}

-- ---- calls

run_append : (setting : Setting) (book : BookState) (calls : List Call) (answers : List Answer) (mid : BookState) (more : List Call) (others : List Answer) (new : BookState)
    → IsRun setting book calls answers mid → IsRun setting mid more others new → IsRun setting book (calls ++ more) (answers ++ others) new
run_append setting book [] [] mid more others new first later = subst (λ (b : BookState). IsRun setting b more others new) first later
run_append setting book (call ∷ calls) (answer ∷ answers) mid more others new first later =
    (first.0, first.1, run_append setting first.0 calls answers mid more others new first.2 later)
run_append setting book [] (answer ∷ answers) mid more others new first later = absurd first
run_append setting book (call ∷ calls) [] mid more others new first later = absurd first

led_nowhere : (old new : BookValue) → new ≡ old → IsLedTo old new
led_nowhere old new same =
    subst (λ (b : BookValue). IsLedTo old b) (sym same) (record { calls = []; answers = []; run = refl; setting = refl })

led_by_step : (old new : BookValue) (call : Call) (answer : Answer) → IsStep old.setting old.state call answer new.state → new.setting ≡ old.setting → IsLedTo old new
led_by_step old new call answer step setting =
    record { calls = call ∷ []; answers = answer ∷ []; run = (new.state, inl step, refl); setting = setting }

led_on : (old mid new : BookValue) → IsLedTo old mid → IsLedTo mid new → IsLedTo old new
led_on old mid new first second = record {
  calls = first.calls ++ second.calls;
  answers = first.answers ++ second.answers;
  run = run_append old.setting old.state first.calls first.answers mid.state second.calls second.answers new.state first.run
      (subst (λ (s : Setting). IsRun s mid.state second.calls second.answers new.state) first.setting second.run);
  setting = second.setting ∙ first.setting;
}

-- ---- lines

led_by_begin : (old new : BookValue) (at : ℕ) → IsBegun old at new → IsLedTo old new
led_by_begin old new at begun = led_by_step old new _ _ begun.step begun.setting

led_by_event : (old new : BookValue) (event : Event) (body : List ℕ) (refused : Bool) → RepliesToEvent old event body refused new → IsLedTo old new
led_by_event old new event body refused replies = led_by_step old new _ replies.answer replies.step replies.setting

led_by_command : (old new : BookValue) (asked : Command) (body : List ℕ) (refused : Bool) → RepliesToCommand old asked body refused new → IsLedTo old new
led_by_command old new (command.Event event) body refused replies = led_by_event old new event body refused replies
led_by_command old new (command.Begin at) body refused replies = led_by_begin old new at replies.2
led_by_command old new (command.Plan at) body refused replies = led_by_begin old new at replies.2
led_by_command old new command.Sheet body refused replies = led_nowhere old new replies.2

led_by_read : (old new : BookValue) (read : Result Command LineFault) (body : List ℕ) (refused : Bool) → RepliesToRead old read body refused new → IsLedTo old new
led_by_read old new (Err fault) body refused replies = led_nowhere old new replies.2
led_by_read old new (Ok asked) body refused replies = led_by_command old new asked body refused replies

left_by_command : (old new : BookValue) (asked : Command) → LeavesOutOfMemory old asked new → IsLedTo old new
left_by_command old new (command.Event event) leaves = led_nowhere old new leaves
left_by_command old new (command.Begin at) leaves = led_nowhere old new leaves
left_by_command old new (command.Plan at) leaves = elim leaves [
  | inl same ↦ led_nowhere old new same
  | inr begun ↦ led_by_begin old new at begun
]
left_by_command old new command.Sheet leaves = led_nowhere old new leaves

left_by_read : (old new : BookValue) (read : Result Command LineFault) → ReadLeaves old read new → IsLedTo old new
left_by_read old new (Err fault) leaves = led_nowhere old new leaves
left_by_read old new (Ok asked) leaves = left_by_command old new asked leaves

led_by_response : (old new : BookValue) (line body : List ℕ) (refused : Bool) → Responds RepliesToLine LineRunsOutOfMemory old line body refused new → IsLedTo old new
led_by_response old new line body refused responds = elim responds [
  | inl replies ↦ led_by_read old new (command_of line) body refused replies
  | inr memory ↦ left_by_read old new (command_of line) memory.0
]

led_by_line : (n : ℕ) (old new : BookValue) (line text : List ℕ) (refused blank : Bool) → is_blank line ≡ blank → AnswersLine RepliesToLine LineRunsOutOfMemory n old line text refused new → IsLedTo old new
led_by_line n old new line text refused true is answers = led_nowhere old new (rw is at answers).2
led_by_line n old new line text refused false is answers =
    let says = rw is at answers in
    led_by_response old new line says.0 refused says.2

led_by_lines : (n : ℕ) (old new : BookValue) (lines : List (List ℕ)) (output : List ℕ) (refusals : ℕ) → Replies RepliesToLine LineRunsOutOfMemory n old lines output refusals new → IsLedTo old new
led_by_lines n old new [] output refusals replies = led_nowhere old new replies.2
led_by_lines n old new (line ∷ lines) output refusals replies =
    led_on old replies.4 new (led_by_line n old replies.4 line replies.0 replies.2 (is_blank line) refl replies.5) (led_by_lines (n + 1) replies.4 new lines replies.1 replies.3 replies.6)

-- ---- runs

led_by_stop : (run : Run BookValue) (failed : Failures) (fault : RunFault) → Stops RepliesToLine LineRunsOutOfMemory run failed fault → IsLedTo run.old run.new
led_by_stop run failed OutOfMemory stops = led_nowhere run.old run.new stops.2
led_by_stop run failed (TooManyLines n) stops = led_by_lines 1 run.old run.new stops.0.lines stops.0.output stops.0.refusals stops.0.replies
led_by_stop run failed (LineTooLong n) stops = led_by_lines 1 run.old run.new stops.0.lines stops.0.output stops.0.refusals stops.0.replies
led_by_stop run failed (ReadFailed n) stops = led_by_lines 1 run.old run.new stops.0.lines stops.0.output stops.0.refusals stops.0.replies
led_by_stop run failed (WriteFailed n) stops =
    let before = led_by_lines 1 run.old stops.0 stops.2.lines stops.2.output stops.2.refusals stops.2.replies in
    let part = stops.4 in
    led_on run.old stops.0 run.new before (led_by_line n stops.0 run.new part.line part.text part.refused (is_blank part.line) refl part.reply)

-- a run, however it ended
pub led_by_run : (run : Run BookValue) (failed : Failures) (result : Result RunCount RunFault) → Runs (Numbered RepliesToLine LineRunsOutOfMemory) run failed result → IsLedTo run.old run.new
led_by_run run failed (Ok count) runs = led_by_lines 1 run.old run.new _ runs.ok.output count.refused runs.ok.replies
led_by_run run failed (Err fault) runs = led_by_stop run failed fault runs.err
