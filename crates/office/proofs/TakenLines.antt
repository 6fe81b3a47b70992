-- What a noted run does with a line, put together.
use Rattle.std.proofs.Common.{◌≡◌, ◌≢◌, ◌∙◌, ◌⊎◌, ◌≤◌, ◌+◌, arith, ℕ, Bool, true, false, ◌||◌, List, [], ◌∷◌, ◌++◌, length, decimal, None, Result, Ok, Err, refl, ap, ap₂, sym, subst, inl, inr, append_assoc, true≢false}
use Rattle.std.specs.Prelude.{IfOk, IsOk, MatchBool, MatchResult, OnErr, OnOk, is_some}
use Rattle.std.specs.declared.alloc.AllocError.{AllocError}
use Rattle.commit_book.specs.BookStep.{BookState, IsCall, entered}
use Rattle.commit_book.specs.Books.{BookValue}
use Rattle.commit_book.specs.Setting.{Setting}
use Rattle.commit_book.specs.declared.answer.Answer.{Answer}
use Rattle.commit_book.specs.declared.answer.Answer.TheVariants.{Done, Begun, Refused}
use Rattle.commit_book.specs.declared.call.Call.TheVariants as call
use Rattle.faults.specs.declared.faults.Refusal.TheVariants.{OutOfMemory}
use Rattle.line_engine.specs.Outcome.{is_refusal}
use Rattle.line_engine.specs.Replies.{least_room, max_head_bytes, out_of_memory_body}
use Rattle.line_engine.specs.declared.device.Sink.{Ghosts}
use Rattle.line_engine.specs.declared.handler.Outcome.{Outcome}
use Rattle.line_fields.specs.Commands.{command_of}
use Rattle.line_fields.specs.declared.command.Command.{Command}
use Rattle.line_fields.specs.declared.command.Command.TheVariants as command
use Rattle.line_fields.specs.declared.fault.LineFault.{LineFault}
use Rattle.move_messages.specs.declared.event.Event.{Event}
use Rattle.reply_texts.specs.Lines.{AreLines}
use Rattle.journal_notes.specs.NoteLines.{IsNoteLine, memory_line}
use Rattle.journal_notes.specs.NotedJournal.{JournalValue, NotesCommand, NotesEvent, ReadCalls}
use Rattle.journal_notes.specs.Streaks.{StreaksValue}
use Rattle.journal_notes.specs.declared.heard.Heard.{Heard}
use Rattle.journal_notes.specs.declared.note.Note.{Note}
use Rattle.office.specs.CommandReplies.{LeavesOutOfMemory, ReadLeaves, RepliesToCommand, RepliesToRead, answer_text, is_refused}
use Rattle.office.specs.NoteSinks.{HasFailedAt, IsWhole, IsWritten}
use Rattle.office.specs.NotedRuns.{WritesBoth}
use Rattle.office.specs.inner.NotedReads.{AreEventLines, AreReadLines, KeepsNotes, TakesRead}
use Rattle.office.specs.declared.note_sink.NoteSink.{NoteSink}
use Rattle.office.specs.declared.noted_runs.NotedBook.{NotedBook}

-- ---- a reply behind its head

pub behind_head : {U : Type 0} (result : Result U AllocError) (n : ℕ) (old new bytes : List ℕ) → old ≡ decimal n ++ 32 ∷ [] → length old ≤ max_head_bytes → OnOk result (new ≡ old ++ bytes) → (length old + length bytes ≤ least_room → IsOk result)
    → length bytes ≤ 200 → new ≡ decimal n ++ 32 ∷ bytes
behind_head (Ok u) n old new bytes head short is room few = is ∙ ap (λ (xs : List ℕ). xs ++ bytes) head ∙ append_assoc (decimal n) (32 ∷ []) bytes
behind_head (Err error) n old new bytes head short is room few = absurd (true≢false (sym (room (omega arith))))

-- ---- the notes of an event as lines

pub event_lines : {V : Type 0} (items : V → List Note) (line : ℕ) (old new : JournalValue) (happens : Event) (notes : Result V AllocError) (text : List ℕ)
    → IfOk notes (λ some. NotesEvent line old happens (items some) new)
    → (IsOk notes × IfOk notes (λ some. AreLines (IsNoteLine None line) (items some) text)) ⊎ (text ≡ memory_line None line) → AreEventLines line old happens text new
event_lines items line old new happens (Ok some) text noted (inl lines) = inl (items some, noted, lines.1)
event_lines items line old new happens (Ok some) text noted (inr memory) = inr memory
event_lines items line old new happens (Err error) text noted (inl lines) = absurd (true≢false (sym lines.0))
event_lines items line old new happens (Err error) text noted (inr memory) = inr memory

-- ---- a line without a note

or_true : (b : Bool) → (b || true) ≡ true
or_true true = refl
or_true false = refl

nothing_written : {N : Type 0} (writing : Ghosts N) (line : ℕ) (sink : NoteSink N) → IsWritten writing line [] sink sink
nothing_written writing line sink =
    subst (λ (b : Bool). MatchBool b (sink ≡ sink) (IsWhole writing [] sink sink ⊎ HasFailedAt writing line [] sink sink)) (sym (or_true (is_some sink.first_failure))) refl

no_lines : (line : ℕ) → AreLines (IsNoteLine None line) [] []
no_lines line = record { lines = []; each = tt; whole = refl }

-- ---- begins, plans and sheets

abbrev journal_with : BookValue → StreaksValue → Heard → JournalValue
journal_with book streaks heard = record { book = book; streaks = streaks; heard = heard }

same_journal : (old new : JournalValue) → new.book ≡ old.book → KeepsNotes old new → new ≡ old
same_journal old new book keeps =
    ap (λ (b : BookValue). journal_with b new.streaks new.heard) book ∙ ap₂ (λ (s : StreaksValue) (h : Heard). journal_with old.book s h) keeps.streaks keeps.heard

abbrev HasNoNote : Command → Type 0
HasNoNote (command.Event happens) = ⊥
HasNoNote (command.Begin at) = Unit {0}
HasNoNote (command.Plan at) = Unit {0}
HasNoNote command.Sheet = Unit {0}

no_note : (line : ℕ) (old new : JournalValue) (asked : Command) (body : List ℕ) (refused : Bool) → HasNoNote asked → RepliesToCommand old.book asked body refused new.book → KeepsNotes old new → NotesCommand line old asked [] new
no_note line old new (command.Event happens) body refused has replies keeps = absurd has
no_note line old new (command.Begin at) body refused has replies keeps = record { step = replies.2.step; setting = replies.2.setting; streaks = keeps.streaks; heard = keeps.heard; none = refl }
no_note line old new (command.Plan at) body refused has replies keeps = record { step = replies.2.step; setting = replies.2.setting; streaks = keeps.streaks; heard = keeps.heard; none = refl }
no_note line old new command.Sheet body refused has replies keeps = (refl, same_journal old new replies.2 keeps)

left_calls : (old new : BookValue) (asked : Command) → HasNoNote asked → LeavesOutOfMemory old asked new → (new ≡ old) ⊎ ReadCalls old (Ok asked) new
left_calls old new (command.Event happens) has leaves = absurd has
left_calls old new (command.Begin at) has leaves = inl leaves
left_calls old new (command.Plan at) has (inl same) = inl same
left_calls old new (command.Plan at) has (inr begun) = inr (record { answer = _; call = inl begun.step; setting = begun.setting })
left_calls old new command.Sheet has leaves = inl leaves

head_then : (n : ℕ) (body : List ℕ) → (decimal n ++ 32 ∷ []) ++ body ≡ decimal n ++ 32 ∷ body
head_then n body = append_assoc (decimal n) (32 ∷ []) body

-- a command without notes that is answered
pub took_command : {N : Type 0} (writing : Ghosts N) (n : ℕ) (old : NotedBook N) (kept : JournalValue) (asked : Command) (begun text : List ℕ) (outcome : Outcome) → HasNoNote asked → begun ≡ decimal n ++ 32 ∷ [] → KeepsNotes old.kept kept
    → (body : List ℕ) × (text ≡ begun ++ body) × RepliesToCommand old.kept.book asked body (is_refusal outcome) kept.book → TakesRead writing n old (Ok asked) text (is_refusal outcome) (record old { kept = kept })
took_command writing n old kept asked begun text outcome has head keeps answered = record {
  body = answered.0;
  reply = inl answered.2;
  whole = answered.1 ∙ ap (λ (xs : List ℕ). xs ++ answered.0) head ∙ head_then n answered.0;
  added = [];
  notes = inl ([], no_note n old.kept kept asked answered.0 (is_refusal outcome) has answered.2 keeps, no_lines n);
  written = nothing_written writing n old.notes;
}

-- memory was refused for it
pub refused_command : {N : Type 0} (writing : Ghosts N) (n : ℕ) (old new : NotedBook N) (asked : Command) (text : List ℕ) (refused : Bool) → HasNoNote asked → LeavesOutOfMemory old.kept.book asked new.kept.book
    → text ≡ decimal n ++ 32 ∷ out_of_memory_body → refused ≡ true → IsWritten writing n (memory_line None n) old.notes new.notes → TakesRead writing n old (Ok asked) text refused new
refused_command writing n old new asked text refused has leaves whole is written = record {
  body = out_of_memory_body;
  reply = inr (leaves, refl, is);
  whole = whole;
  added = memory_line None n;
  notes = inr (left_calls old.kept.book new.kept.book asked has leaves, refl);
  written = written;
}

-- ---- lines that are no command

pub took_fault : {N : Type 0} (writing : Ghosts N) (n : ℕ) (old : NotedBook N) (fault : LineFault) (body text : List ℕ) → text ≡ decimal n ++ 32 ∷ body → RepliesToRead old.kept.book (Err fault) body true old.kept.book → TakesRead writing n old (Err fault) text true old
took_fault writing n old fault body text whole replies = record {
  body = body;
  reply = inl replies;
  whole = whole;
  added = [];
  notes = inl ([], (refl, refl), no_lines n);
  written = nothing_written writing n old.notes;
}

-- memory was refused, and the book is as it was, whatever the line is
pub refused_read : {N : Type 0} (writing : Ghosts N) (n : ℕ) (old new : NotedBook N) (read : Result Command LineFault) (text : List ℕ) (refused : Bool) → ReadLeaves old.kept.book read new.kept.book → new.kept.book ≡ old.kept.book
    → text ≡ decimal n ++ 32 ∷ out_of_memory_body → refused ≡ true → IsWritten writing n (memory_line None n) old.notes new.notes → TakesRead writing n old read text refused new
refused_read writing n old new read text refused leaves same whole is written = record {
  body = out_of_memory_body;
  reply = inr (leaves, refl, is);
  whole = whole;
  added = memory_line None n;
  notes = inr (inl same, refl);
  written = written;
}

left_as_it_was : (book : BookValue) (read : Result Command LineFault) → ReadLeaves book read book
left_as_it_was book (Ok (command.Event happens)) = refl
left_as_it_was book (Ok (command.Begin at)) = refl
left_as_it_was book (Ok (command.Plan at)) = inl refl
left_as_it_was book (Ok command.Sheet) = refl
left_as_it_was book (Err fault) = refl

pub unread : {N : Type 0} (writing : Ghosts N) (n : ℕ) (old new : NotedBook N) (read : Result Command LineFault) (text : List ℕ) (refused : Bool) → new.kept ≡ old.kept
    → text ≡ decimal n ++ 32 ∷ out_of_memory_body → refused ≡ true → IsWritten writing n (memory_line None n) old.notes new.notes → TakesRead writing n old read text refused new
unread writing n old new read text refused same whole is written =
    refused_read writing n old new read text refused
    (subst (λ (kept : JournalValue). ReadLeaves old.kept.book read kept.book) (sym same) (left_as_it_was old.kept.book read)) (ap (λ (kept : JournalValue). kept.book) same) whole is written

-- ---- events

abbrev book_with : Setting → BookState → BookValue
book_with setting state = record { setting = setting; state = state }

same_book : (old new : BookValue) → new.setting ≡ old.setting → new.state ≡ old.state → new ≡ old
same_book old new setting state = ap₂ book_with setting state

refused_stays : (old : BookState) (happens : Event) (answer : Answer) → is_refused answer ≡ true → entered old happens answer ≡ old
refused_stays old happens (Done reply) is = absurd (true≢false (sym is))
refused_stays old happens (Begun n) is = absurd (true≢false (sym is))
refused_stays old happens (Refused refusal) is = refl

left_by_event : (old new : BookValue) (happens : Event) (answer : Answer) → new.setting ≡ old.setting → IsCall old.setting old.state (call.Event happens) answer new.state → is_refused answer ≡ true → new ≡ old
left_by_event old new happens answer setting (inl step) is = same_book old new setting (step.changed ∙ refused_stays old.state happens answer is)
left_by_event old new happens answer setting (inr out) is = same_book old new setting out.unchanged

event_replies : (old new : BookValue) (happens : Event) (answer : Answer) (refused : Bool) → new.setting ≡ old.setting → IsCall old.setting old.state (call.Event happens) answer new.state → answer ≢ Refused OutOfMemory
    → refused ≡ is_refused answer → RepliesToCommand old (command.Event happens) (answer_text answer) refused new
event_replies old new happens answer refused setting (inl step) memory mark = record { answer = answer; step = step; setting = setting; text = refl; mark = mark }
event_replies old new happens answer refused setting (inr out) memory mark = absurd (memory out.refused)

event_notes_read : (n : ℕ) (old new : JournalValue) (happens : Event) (answer : Answer) (text : List ℕ) → new.book.setting ≡ old.book.setting → IsCall old.book.setting old.book.state (call.Event happens) answer new.book.state
    → AreEventLines n old happens text new → AreReadLines n old (Ok (command.Event happens)) text new
event_notes_read n old new happens answer text setting called (inl lines) = inl lines
event_notes_read n old new happens answer text setting called (inr memory) = inr (inr (record { answer = answer; call = called; setting = setting }), memory)

pub took_event : {N : Type 0} (writing : Ghosts N) (n : ℕ) (old : NotedBook N) (kept : JournalValue) (notes : NoteSink N) (happens : Event) (answer : Answer) (added begun pushed_text text : List ℕ) (pushed : Result Outcome AllocError) (outcome : Outcome)
    → kept.book.setting ≡ old.kept.book.setting → IsCall old.kept.book.setting old.kept.book.state (call.Event happens) answer kept.book.state → AreEventLines n old.kept happens added kept → IsWritten writing n added old.notes notes
    → begun ≡ decimal n ++ 32 ∷ [] → OnOk pushed (pushed_text ≡ begun ++ answer_text answer) → IfOk pushed (λ o. is_refusal o ≡ is_refused answer) → OnOk pushed (answer ≢ Refused OutOfMemory) → OnErr pushed (is_refused answer ≡ true)
    → MatchResult pushed (λ o. (outcome ≡ o) × (text ≡ pushed_text)) (λ _. (is_refusal outcome ≡ true) × (text ≡ decimal n ++ 32 ∷ out_of_memory_body))
    → TakesRead writing n old (Ok (command.Event happens)) text (is_refusal outcome) (record { kept = kept; notes = notes })
took_event writing n old kept notes happens answer added begun pushed_text text (Ok o) outcome setting called lines written head pushed_is mark memory refuses finished = record {
  body = answer_text answer;
  reply = inl (event_replies old.kept.book kept.book happens answer (is_refusal outcome) setting called memory (ap is_refusal finished.0 ∙ mark));
  whole = finished.1 ∙ pushed_is ∙ ap (λ (xs : List ℕ). xs ++ answer_text answer) head ∙ head_then n (answer_text answer);
  added = added;
  notes = event_notes_read n old.kept kept happens answer added setting called lines;
  written = written;
}
took_event writing n old kept notes happens answer added begun pushed_text text (Err error) outcome setting called lines written head pushed_is mark memory refuses finished = record {
  body = out_of_memory_body;
  reply = inr (left_by_event old.kept.book kept.book happens answer setting called refuses, refl, finished.0);
  whole = finished.1;
  added = added;
  notes = event_notes_read n old.kept kept happens answer added setting called lines;
  written = written;
}

-- ---- lines

pub both : {N : Type 0} (writing : Ghosts N) (n : ℕ) (old : NotedBook N) (line text : List ℕ) (refused : Bool) (new : NotedBook N) → TakesRead writing n old (command_of line) text refused new → WritesBoth writing n old line text refused new
both writing n old line text refused new takes = record {
  reply = (takes.body, takes.whole, takes.reply);
  added = takes.added;
  notes = elim takes.notes [ inl noted ↦ inl (record { notes = noted.0; noted = noted.1; lines = noted.2 }) | inr memory ↦ inr memory ];
  written = takes.written;
}
