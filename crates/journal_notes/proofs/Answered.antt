-- The office of a book after an event that is answered, and the notes of the event.
use Rattle.std.proofs.Common.{◌≡◌, ◌≢◌, ◌∙◌, ℕ, List, [], ◌∷◌, length, Result, Ok, Err, inl, inr, ap, sym, subst}
use Rattle.std.specs.Prelude.{IfOk, OnOk}
use Rattle.std.specs.declared.alloc.AllocError.{AllocError}
use Rattle.std.proofs.lemmas.List.Sums.{fold-append}
use Rattle.commit_book.specs.BookStep.{BookState, IsCall, IsStep, entered}
use Rattle.commit_book.specs.Books.{BookValue, present_office}
use Rattle.commit_book.specs.History.{after, replay}
use Rattle.commit_book.specs.Setting.{Setting}
use Rattle.commit_book.specs.declared.answer.Answer.{Answer}
use Rattle.commit_book.specs.declared.answer.Answer.TheVariants.{Done, Begun, Refused}
use Rattle.commit_book.specs.declared.call.Call.TheVariants as call
use Rattle.commit_book.specs.declared.reply.Reply.TheVariants.{Accepted, Repeated}
use Rattle.faults.specs.declared.faults.Refusal.TheVariants.{OutOfMemory}
use Rattle.line_network.specs.Network.{NetworkValue}
use Rattle.move_messages.specs.declared.event.Event.{Event}
use Rattle.operating_db.specs.State.{StateValue}
use Rattle.journal_notes.specs.EventBefore.{IsBefore}
use Rattle.journal_notes.specs.EventNotes.{CallsTo, IsNotedEvent, StreaksAfter, office_of}
use Rattle.journal_notes.specs.NotesOf.{AreNotesOf, office_after}
use Rattle.journal_notes.specs.Watches.{IsWatchOf, WatchValue}
use Rattle.journal_notes.specs.declared.event_before.EventBefore.{EventBefore}
use Rattle.journal_notes.specs.declared.note.Note.{Note}

-- ---- books

same_replay : (old new : BookValue) → new.setting ≡ old.setting → new.state ≡ old.state → office_of new ≡ office_of old
same_replay old new setting state = ap (λ (s : Setting). replay s new.state.history) setting ∙ ap (λ (b : BookState). replay old.setting b.history) state

entered_office : (old new : BookValue) (happens : Event) (answer : Answer) → new.setting ≡ old.setting → new.state ≡ entered old.state happens answer
    → office_of new ≡ office_after (length old.setting.networks) (office_of old) happens answer
entered_office old new happens (Done (Accepted n)) setting state =
    ap (λ (s : Setting). replay s new.state.history) setting ∙ ap (λ (b : BookState). replay old.setting b.history) state
    ∙ fold-append (after (length old.setting.networks)) old.setting.first old.state.history (happens ∷ [])
entered_office old new happens (Done (Repeated n)) setting state = same_replay old new setting state
entered_office old new happens (Begun n) setting state = same_replay old new setting state
entered_office old new happens (Refused refusal) setting state = same_replay old new setting state

-- the office of a book that is lent
pub lent_office : (state : StateValue) (book : BookValue) → state ≡ present_office book → state.office ≡ office_of book
lent_office state book is = ap (λ (s : StateValue). s.office) is

-- the office after a call with an event
pub answered : (old new : BookValue) (happens : Event) (answer : Answer) → new.setting ≡ old.setting → IsCall old.setting old.state (call.Event happens) answer new.state
    → office_of new ≡ office_after (length old.setting.networks) (office_of old) happens answer
answered old new happens answer setting (inl step) = entered_office old new happens answer setting step.changed
answered old new happens answer setting (inr out) =
    subst (λ (a : Answer). office_of new ≡ office_after (length old.setting.networks) (office_of old) happens a) (sym out.refused) (same_replay old new setting out.unchanged)

same_history : (old new : BookValue) → new.setting ≡ old.setting → new.state.history ≡ old.state.history → office_of new ≡ office_of old
same_history old new setting history = ap (λ (s : Setting). replay s new.state.history) setting ∙ ap (λ (h : List Event). replay old.setting h) history

-- a begin leaves the office as it is
pub begun : (old new : BookValue) (at : ℕ) → CallsTo old (call.Begin at) new → office_of new ≡ office_of old
begun old new at calls = elim calls.call [
  | inl step ↦ same_history old new calls.setting (ap (λ (b : BookState). b.history) step.changed)
  | inr out ↦ same_replay old new calls.setting out.unchanged
]

-- ---- an event that is brought to a book

step_of_call : (old new : BookValue) (happens : Event) (answer : Answer) → answer ≢ Refused OutOfMemory → IsCall old.setting old.state (call.Event happens) answer new.state → IsStep old.setting old.state (call.Event happens) answer new.state
step_of_call old new happens answer memory (inl step) = step
step_of_call old new happens answer memory (inr out) = absurd (memory out.refused)

pub brought : {V : Type 0} (items : V → List Note) (old new : BookValue) (networks : List NetworkValue) (before : EventBefore) (happens : Event) (answer : Answer) (watch watch' : WatchValue) (result : Result V AllocError)
    → networks ≡ old.setting.networks → IsBefore networks (office_of old) happens before → IsWatchOf (office_of old) watch
    → new.setting ≡ old.setting → IsCall old.setting old.state (call.Event happens) answer new.state
    → IfOk result (λ notes. AreNotesOf before happens answer (office_of new) watch (items notes)) → OnOk result (StreaksAfter happens answer watch.streaks watch'.streaks) → OnOk result (answer ≢ Refused OutOfMemory)
    → IfOk result (λ notes. IsNotedEvent old watch.streaks happens (items notes) new watch'.streaks)
brought items old new networks before happens answer watch watch' (Err error) same is_before is_watch setting called are streaks memory = tt
brought items old new networks before happens answer watch watch' (Ok notes) same is_before is_watch setting called are streaks memory = record {
  answer = answer;
  step = step_of_call old new happens answer memory called;
  setting = setting;
  streaks = streaks;
  are_notes = are old.setting.networks (office_of old) (subst (λ (ns : List NetworkValue). IsBefore ns (office_of old) happens before) same is_before) is_watch (answered old new happens answer setting called);
}
