-- The calls of a book, from what its parts answer.
use Rattle.std.proofs.Common.{◌≡◌, ◌≢◌, ◌∙◌, ◌+◌, ◌<◌, ℕ, Bool, true, false, List, [], ◌∷◌, ◌++◌, length, take, get_or, add-one, Some, refl, sym, ap, subst, inl, inr}
use Rattle.std.proofs.Math.Seq.{take-suc}
use Rattle.std.specs.Prelude.{◌⊎◌, slice_get}
use Rattle.move_messages.specs.declared.commit_text.CommitText.{CommitText}
use Rattle.move_messages.specs.declared.message.Message as movement
use Rattle.operating_db.specs.After.{after_call}
use Rattle.move_messages.specs.declared.event.Event.{Event}
use Rattle.move_messages.specs.declared.event.Event.TheVariants as event
use Rattle.commit_book.specs.BookStep.{BookState, IsCall, IsCommitAnswer, IsRun, event_answer, is_full, is_kept}
use Rattle.commit_book.specs.inner.Entered.{IsEntered}
use Rattle.commit_book.specs.inner.CommitTests.{IsAccepted, IsRefused}
use Rattle.commit_book.specs.Setting.{Setting}
use Rattle.commit_book.specs.declared.answer.Answer.{Answer}
use Rattle.commit_book.specs.declared.answer.Answer.TheVariants.{Done, Refused}
use Rattle.commit_book.specs.declared.call.Call.{Call}
use Rattle.commit_book.specs.declared.call.Call.TheVariants as call
use Rattle.faults.specs.declared.faults.Refusal.{Refusal}
use Rattle.faults.specs.declared.faults.Refusal.TheVariants.{OutOfMemory, Step, Check, IdReused, BookFull, UnknownWagon, OrderKnown, TooManyOpen, UnknownOrder, OrderClosed, UnknownNetwork, SameNetwork, NotKept, WagonChanged, OrderChanged}
use Rattle.commit_book.specs.declared.reply.Reply.TheVariants.{Accepted, Repeated}

-- ---- commits

-- what an entered commit is answered, where the book isn't full
commit_answer : (setting : Setting) (history : List Event) (commit : CommitText) (full : Bool) → is_full setting history ≡ full → full ≡ false → event_answer setting history (event.Commit commit) ≡ Done (Accepted (length history + 1))
unfolding after_call
commit_answer setting history commit false is h = rw is refl
commit_answer setting history commit true is h = absurd cc

pub commit_step : (setting : Setting) (book : BookState) (commit : CommitText) (answer : Answer) (kept full : Bool) → is_kept book.kept (commit.version, commit.at) ≡ kept → is_full setting book.history ≡ full → IsCommitAnswer kept full setting book.history commit answer
    → IsCommitAnswer (is_kept book.kept (commit.version, commit.at)) (is_full setting book.history) setting book.history commit answer
commit_step setting book commit answer kept full is_k is_f h = rw (is_k, is_f) h

pub commit_call : (setting : Setting) (book : BookState) (commit : CommitText) (answer : Answer) (new : BookState) → IsAccepted setting book commit → IsEntered setting book (event.Commit commit) answer new → IsCall setting book (call.Event (event.Commit commit)) answer new
commit_call setting book commit answer new ok entered = elim entered [
  | inl h ↦
      let says : answer ≡ Done (Accepted (length book.history + 1)) = h.answered ∙ commit_answer setting book.history commit (is_full setting book.history) refl ok.testable.room in
      let answered = commit_step setting book commit (Done (Accepted (length book.history + 1))) true false ok.testable.kept ok.testable.room ok.answered in
      inl (record {
        answered = subst (λ (a : Answer). IsCommitAnswer (is_kept book.kept (commit.version, commit.at)) (is_full setting book.history) setting book.history commit a) (sym says) answered;
        changed = h.changed;
      })
  | inr h ↦ inr (record { may = (ok.testable.kept, ok.testable.room); refused = h.refused; unchanged = h.unchanged })
]

-- a commit may be answered that memory is out where it may be entered
pub commit_wants : (setting : Setting) (book : BookState) (commit : CommitText) → IsAccepted setting book commit → IsCall setting book (call.Event (event.Commit commit)) (Refused OutOfMemory) book
commit_wants setting book commit ok = inr (record { may = (ok.testable.kept, ok.testable.room); refused = refl; unchanged = refl })

pub refused_call : (setting : Setting) (book : BookState) (commit : CommitText) (refusal : Refusal) → IsRefused setting book commit refusal → IsCall setting book (call.Event (event.Commit commit)) (Refused refusal) book
refused_call setting book commit refusal h = elim h [
  | inl answered ↦ inl (record { answered = answered; changed = refl })
  | inr memory ↦ inr (record { may = (memory.1.kept, memory.1.room); refused = ap (λ (r : Refusal). Refused r) memory.0; unchanged = refl })
]

-- either memory is out, or it is not
pub memory_or : (P : Type 0) (refusal : Refusal) → (refusal ≢ OutOfMemory → P) → P ⊎ (refusal ≡ OutOfMemory)
memory_or P OutOfMemory h = inr refl
memory_or P (Step fault) h = inl (h (λ e. absurd cc))
memory_or P (Check fault) h = inl (h (λ e. absurd cc))
memory_or P IdReused h = inl (h (λ e. absurd cc))
memory_or P BookFull h = inl (h (λ e. absurd cc))
memory_or P UnknownWagon h = inl (h (λ e. absurd cc))
memory_or P OrderKnown h = inl (h (λ e. absurd cc))
memory_or P TooManyOpen h = inl (h (λ e. absurd cc))
memory_or P UnknownOrder h = inl (h (λ e. absurd cc))
memory_or P OrderClosed h = inl (h (λ e. absurd cc))
memory_or P UnknownNetwork h = inl (h (λ e. absurd cc))
memory_or P SameNetwork h = inl (h (λ e. absurd cc))
memory_or P NotKept h = inl (h (λ e. absurd cc))
memory_or P (WagonChanged wagon) h = inl (h (λ e. absurd cc))
memory_or P (OrderChanged order) h = inl (h (λ e. absurd cc))

-- ---- messages

pub repeated_call : (setting : Setting) (book : BookState) (message : movement.Message) (other : movement.Message) (index : ℕ) → slice_get book.history index ≡ Some (event.Message other) → other ≡ message → IsCall setting book (call.Event (event.Message message)) (Done (Repeated (index + 1))) book
repeated_call setting book message other index there same =
    inl (record { answered = inl (record { before = index; same = there ∙ ap (λ (m : movement.Message). Some (event.Message m)) same; answered = refl }); changed = refl })

pub reused_call : (setting : Setting) (book : BookState) (message : movement.Message) (other : movement.Message) (index : ℕ) → slice_get book.history index ≡ Some (event.Message other) → other.id ≡ message.id → other ≢ message → IsCall setting book (call.Event (event.Message message)) (Refused IdReused) book
reused_call setting book message other index there same_id differs =
    inl (record { answered = inr (inl (record { before = index; other = other; there = there; same_id = same_id; differs = differs; answered = refl })); changed = refl })

-- ---- runs

pub run_push : (setting : Setting) (book : BookState) (calls : List Call) (answers : List Answer) (mid : BookState) (next : Call) (answer : Answer) (new : BookState) → IsRun setting book calls answers mid → IsCall setting mid next answer new → IsRun setting book (calls ++ next ∷ []) (answers ++ answer ∷ []) new
run_push setting book [] [] mid next answer new run step = (new, subst (λ (b : BookState). IsCall setting b next answer new) run step, refl)
run_push setting book (first ∷ calls) (a ∷ answers) mid next answer new run step = (run.0, run.1, run_push setting run.0 calls answers mid next answer new run.2 step)
run_push setting book [] (a ∷ answers) mid next answer new run step = absurd run
run_push setting book (first ∷ calls) [] mid next answer new run step = absurd run

-- one more call of a list
pub run_step : (setting : Setting) (book : BookState) (calls : List Call) (i : ℕ) (next : Call) (answers : List Answer) (mid : BookState) (answer : Answer) (new : BookState) → i < length calls → next ≡ get_or calls i next
    → IsRun setting book (take i calls) answers mid → IsCall setting mid next answer new → IsRun setting book (take (i + 1) calls) (answers ++ answer ∷ []) new
run_step setting book calls i next answers mid answer new lt is run step =
    let more : take (i + 1) calls ≡ take i calls ++ next ∷ [] = ap (λ (k : ℕ). take k calls) (add-one i) ∙ take-suc calls i next lt ∙ ap (λ (x : Call). take i calls ++ x ∷ []) (sym is) in
    rw more (run_push setting book (take i calls) answers mid next answer new run step)
