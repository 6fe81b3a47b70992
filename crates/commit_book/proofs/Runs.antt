-- Every run of calls keeps a book: its history is legal, and each kept problem is one of a version that it has had.
use Rattle.std.proofs.Common.{◌≡◌, ◌∙◌, ◌+◌, ◌≤◌, ℕ, Bool, true, false, cond, ◌||◌, List, [], ◌∷◌, ◌++◌, length, drop, take, refl, sym, arith, subst, inl, inr, length-append}
use Rattle.std.specs.Prelude.{◌==◌, nat_le, nat_lt, Option, Some, None, Result, Ok, Err, IsOk, All}
use Rattle.std.proofs.lemmas.Bool.Decides.{nat_tests}
use Rattle.std.proofs.lemmas.List.Elements.{All-drop, All-head, All-nil, All-push, All-tail, All-weaker}
use Rattle.move_messages.specs.declared.commit_text.CommitText.{CommitText}
use Rattle.move_messages.specs.declared.message.Message as movement
use Rattle.cost_table.specs.Table.{Table}
use Rattle.operating_db.specs.After.{after_call}
use Rattle.operating_db.specs.Office.{Office}
use Rattle.operating_db.specs.Steps.{IsPromised}
use Rattle.faults.specs.declared.faults.ApplyFault.{ApplyFault}
use Rattle.move_messages.specs.declared.event.Event.{Event}
use Rattle.move_messages.specs.declared.event.Event.TheVariants as event
use Rattle.commit_book.specs.BookStep.{BookState, IsAnswer, IsCall, IsEventAnswer, IsCommitAnswer, IsMessageAnswer, IsRun, accepted_unless, book_after, entered, entered_as, event_answer, is_full, is_kept, is_this, refusal_in}
use Rattle.operating_db.specs.FirstOffice.{IsFirstOffice}
use Rattle.commit_book.specs.Headline.{Headline, IsProved}
use Rattle.commit_book.specs.History.{IsEntry, IsLegal, IsTableAt, Owes, problem_at, replay}
use Rattle.faults.specs.Conversions.{refusal_of}
use Rattle.operating_db.proofs.Possible.{possible_by}
use Rattle.commit_book.specs.Setting.{Setting}
use Rattle.commit_book.specs.declared.answer.Answer.{Answer}
use Rattle.commit_book.specs.declared.answer.Answer.TheVariants.{Done, Begun, Refused}
use Rattle.commit_book.specs.declared.call.Call.{Call}
use Rattle.commit_book.specs.declared.call.Call.TheVariants as call
use Rattle.faults.specs.declared.faults.Refusal.{Refusal}
use Rattle.faults.specs.declared.faults.Refusal.TheVariants.{BookFull, IdReused, NotKept}
use Rattle.commit_book.specs.declared.reply.Reply.TheVariants.{Accepted, Repeated}
use Rattle.commit_book.proofs.CommitLaws.{both_true, commit_owed, same_number}
use Rattle.commit_book.proofs.Histories.{empty_legal, legal_push}
use Rattle.commit_book.proofs.Offices.{IsNamedOnce, version_before, version_named}
use Rattle.commit_book.proofs.Sound.{sound}
use Rattle.commit_book.proofs.Versions.{versions_agree}

-- ---- accepted events

not_refused : (refusal : Refusal) (n : ℕ) → Refused refusal ≡ Done (Accepted n) → ⊥
not_refused refusal n h = cc

not_repeated : (k n : ℕ) → Done (Repeated k) ≡ Done (Accepted n) → ⊥
not_repeated k n h = cc

-- there is room for one more entry
pub room_of : (entries n : ℕ) → nat_le entries n ≡ false → n + 1 ≤ entries
room_of entries n h = grind (arith, nat_tests, h)

entered_ok : (k n : ℕ) (r : Result Office ApplyFault) → entered_as k r ≡ Done (Accepted n) → IsOk r
entered_ok k n (Ok office) h = refl
entered_ok k n (Err fault) h = absurd (not_refused (refusal_of fault) n h)

with_room : (full : Bool) (answer : Answer) (n : ℕ) → cond full (Refused BookFull) answer ≡ Done (Accepted n) → (full ≡ false) × (answer ≡ Done (Accepted n))
with_room true answer n h = absurd (not_refused BookFull n h)
with_room false answer n h = (refl, h)

-- an entry behind a history that has room for it
pub record IsLegalEntry (setting : Setting) (history : List Event) (entry : Event) : Type 0 where
  pub room : length history + 1 ≤ setting.entries
  pub is_entry : IsEntry setting history entry

pub entered_legal : (setting : Setting) (history : List Event) (entry : Event) → IsLegal setting history → IsLegalEntry setting history entry → IsLegal setting (history ++ entry ∷ [])
entered_legal setting history entry legal h = legal_push setting history entry legal h.is_entry h.room

-- an event that is accepted, where it needs no free wagons and pays what it owes
pub event_entered : (setting : Setting) (history : List Event) (entry : Event) (n : ℕ) → IsPromised (replay setting history) entry → Owes setting history entry → event_answer setting history entry ≡ Done (Accepted n) → IsLegalEntry setting history entry
event_entered setting history entry n promised owed h =
    let r = after_call (length setting.networks) (replay setting history) entry in
    let f = with_room (is_full setting history) (entered_as (length history + 1) r) n h in
    record {
      room = room_of setting.entries (length history) f.0;
      is_entry = record { possible = possible_by (length setting.networks) (replay setting history) entry promised (entered_ok (length history + 1) n r f.1); owed = owed };
    }

-- a message that is accepted
pub message_entered : (setting : Setting) (history : List Event) (message : movement.Message) (answer : Answer) (n : ℕ) → IsMessageAnswer setting history message answer → answer ≡ Done (Accepted n) → IsLegalEntry setting history (event.Message message)
message_entered setting history message answer n (inl repeated) h = absurd (not_repeated (repeated.before + 1) n (sym repeated.answered ∙ h))
message_entered setting history message answer n (inr (inl reused)) h = absurd (not_refused IdReused n (sym reused.answered ∙ h))
message_entered setting history message answer n (inr (inr new)) h = event_entered setting history (event.Message message) n tt new.fresh (sym new.answered ∙ h)

-- a commit that is not refused
pub commit_entry : (setting : Setting) (history : List Event) (commit : CommitText) (table : Table) → commit.version ≤ length history → IsTableAt setting history commit.version commit.at table
    → refusal_in (problem_at setting history commit.version commit.at) (replay setting history) commit table ≡ None → IsEntry setting history (event.Commit commit)
commit_entry setting history commit table had is_table h =
    let owed = commit_owed setting history commit table had is_table h in
    record { possible = owed.1; owed = owed.0 }

no_refusal : (k n : ℕ) (refusal : Option Refusal) → accepted_unless k refusal ≡ Done (Accepted n) → refusal ≡ None
no_refusal k n None h = refl
no_refusal k n (Some refusal) h = absurd (not_refused refusal n h)

-- a commit that is accepted, of a version that the book has had where its problem is kept
pub commit_entered : (setting : Setting) (history : List Event) (commit : CommitText) (answer : Answer) (n : ℕ) (kept full : Bool) → is_full setting history ≡ full → (kept ≡ true → commit.version ≤ length history)
    → IsCommitAnswer kept full setting history commit answer → answer ≡ Done (Accepted n) → IsLegalEntry setting history (event.Commit commit)
commit_entered setting history commit answer n false full is had step h = absurd (not_refused NotKept n (sym step ∙ h))
commit_entered setting history commit answer n true true is had step h = absurd (not_refused BookFull n (sym step ∙ h))
commit_entered setting history commit answer n true false is had step h = record {
  room = room_of setting.entries (length history) is;
  is_entry = commit_entry setting history commit step.table (had refl) step.is_table
      (no_refusal (length history + 1) n (refusal_in (problem_at setting history commit.version commit.at) (replay setting history) commit step.table) (sym step.answered ∙ h));
}

-- ---- books

-- a version that is had after so many entries
abbrev IsHad : ℕ → ℕ × ℕ → Type 0
IsHad n which = which.0 ≤ n

record IsLegalBook (setting : Setting) (book : BookState) : Type 0 where
  legal : IsLegal setting book.history
  had : All (IsHad (length book.history)) book.kept

had_first : (n : ℕ) (which kept : ℕ × ℕ) (this rest : Bool) → is_this which kept ≡ this → IsHad n kept → (rest ≡ true → IsHad n which) → (this || rest) ≡ true → IsHad n which
had_first n which kept true rest is here later h =
    let same = same_number kept.0 which.0 (both_true (kept.0 == which.0) (kept.1 == which.1) is).0 in
    omega (arith, same, here)
had_first n which kept false rest is here later h = later h

had_kept : (n : ℕ) (kept : List (ℕ × ℕ)) (which : ℕ × ℕ) → All (IsHad n) kept → is_kept kept which ≡ true → IsHad n which
had_kept n [] which all h = cc
had_kept n (first ∷ kept) which all h =
    had_first n which first (is_this which first) (is_kept kept which) refl (All-head (IsHad n) first kept all) (had_kept n kept which (All-tail (IsHad n) first kept all)) h

had_chosen : (n at : ℕ) (kept : List (ℕ × ℕ)) (is room : Bool) → All (IsHad n) kept → All (IsHad n) (cond is kept (cond room (kept ++ (n, at) ∷ []) (drop 1 kept ++ (n, at) ∷ [])))
had_chosen n at kept true room all = all
had_chosen n at kept false true all = All-push (IsHad n) kept (n, at) all (omega arith)
had_chosen n at kept false false all = All-push (IsHad n) (drop 1 kept) (n, at) (All-drop (IsHad n) 1 kept all) (omega arith)

entered_book : (setting : Setting) (book : BookState) (entry : Event) (answer : Answer) → IsLegalBook setting book → ((n : ℕ) → answer ≡ Done (Accepted n) → IsLegalEntry setting book.history entry) → IsLegalBook setting (entered book entry answer)
entered_book setting book entry (Done (Accepted n)) h is = record {
  legal = entered_legal setting book.history entry h.legal (is n refl);
  had =
      let longer = length-append book.history (entry ∷ []) in
      All-weaker (IsHad (length book.history)) (IsHad (length (book.history ++ entry ∷ []))) (λ which le. omega (arith, longer, le)) book.kept h.had;
}
entered_book setting book entry (Done (Repeated n)) h is = h
entered_book setting book entry (Begun n) h is = h
entered_book setting book entry (Refused refusal) h is = h

-- an event that is accepted is a legal entry
accepted_legal : (setting : Setting) (book : BookState) (entry : Event) (answer : Answer) → IsLegalBook setting book → IsEventAnswer setting book entry answer → (n : ℕ) → answer ≡ Done (Accepted n) → IsLegalEntry setting book.history entry
accepted_legal setting book (event.Message message) answer h step n is = message_entered setting book.history message answer n step is
accepted_legal setting book (event.Place text) answer h step n is = event_entered setting book.history (event.Place text) n tt tt (sym step ∙ is)
accepted_legal setting book (event.Withdraw id) answer h step n is = event_entered setting book.history (event.Withdraw id) n tt tt (sym step ∙ is)
accepted_legal setting book (event.Commit commit) answer h step n is =
    commit_entered setting book.history commit answer n (is_kept book.kept (commit.version, commit.at)) (is_full setting book.history) refl (had_kept (length book.history) book.kept (commit.version, commit.at) h.had) step is
accepted_legal setting book (event.Revise network) answer h step n is = event_entered setting book.history (event.Revise network) n tt tt (sym step ∙ is)

-- a step leaves a book
step_book : (setting : Setting) (book : BookState) (c : Call) (answer : Answer) → IsLegalBook setting book → IsAnswer setting book c answer → IsLegalBook setting (book_after setting book c answer)
step_book setting book (call.Event entry) answer h step = entered_book setting book entry answer h (accepted_legal setting book entry answer h step)
step_book setting book (call.Begin at) answer h step = record {
  legal = h.legal;
  had = had_chosen (length book.history) at book.kept (is_kept book.kept (length book.history, at)) (nat_lt (length book.kept) setting.kept) h.had;
}

call_book : (setting : Setting) (book : BookState) (c : Call) (answer : Answer) (new : BookState) → IsLegalBook setting book → IsCall setting book c answer new → IsLegalBook setting new
call_book setting book c answer new h (inl step) = subst (IsLegalBook setting) (sym step.changed) (step_book setting book c answer h step.answered)
call_book setting book c answer new h (inr wants) = subst (IsLegalBook setting) (sym wants.unchanged) h

run_book : (setting : Setting) (book : BookState) (calls : List Call) (answers : List Answer) (new : BookState) → IsLegalBook setting book → IsRun setting book calls answers new → IsLegalBook setting new
run_book setting book [] [] new h run = subst (IsLegalBook setting) (sym run) h
run_book setting book (c ∷ calls) (answer ∷ answers) new h run = run_book setting run.0 calls answers new (call_book setting book c answer run.0 h run.1) run.2
run_book setting book [] (answer ∷ answers) new h run = absurd run
run_book setting book (c ∷ calls) [] new h run = absurd run

-- a legal history from an office with which a book may begin is as the headline says
pub proved_by : (setting : Setting) → IsFirstOffice (length setting.networks) setting.first → (history : List Event) → IsLegal setting history → IsProved setting history
proved_by setting first history legal = record {
  legal = legal;
  commits = λ n commit is.
      let least = (legal.entries n (event.Commit commit) is).owed in
      let named = subst IsNamedOnce (sym (version_before setting history n commit.version least.had)) (version_named setting history first legal commit.version) in
      sound setting (take n history) commit least named;
  promises = versions_agree setting first history legal;
}

pub headline : Headline
headline setting first calls answers book run =
    let empty : IsLegalBook setting (record { history = []; kept = [] }) = record { legal = empty_legal setting; had = All-nil (IsHad 0) } in
    let last = run_book setting (record { history = []; kept = [] }) calls answers book empty run in
    proved_by setting first book.history last.legal
