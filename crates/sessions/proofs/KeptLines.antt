-- What is kept of a book's notes, line by line.
use Rattle.std.proofs.Common.{◌≡◌, ◌≢◌, ◌∙◌, ℕ, zero, suc, Bool, true, false, true≢false, List, [], ◌∷◌, ◌++◌, eqb, eqb-true, length, replicate, refl, sym, ap, subst}
use Rattle.std.specs.Prelude.{Option, Some, None, Result, Ok, Err, IfOk, IsOk, OnOk, is_err, if◌then◌else◌, slice_get, slice_set, string_bytes}
use Rattle.std.specs.Option.{ForSome}
use Rattle.std.specs.declared.alloc.AllocError.{AllocError}
use Rattle.std.proofs.Math.Logic.{∥∥₁_map}
use Rattle.std.proofs.lemmas.Bool.{eqb-false}
use Rattle.commit_book.specs.BookStep.{IsCall}
use Rattle.commit_book.specs.Books.{BookValue}
use Rattle.commit_book.specs.declared.answer.Answer.{Answer}
use Rattle.commit_book.specs.declared.answer.Answer.TheVariants.{Refused}
use Rattle.commit_book.specs.declared.call.Call.TheVariants as call
use Rattle.faults.specs.declared.faults.Refusal.TheVariants.{OutOfMemory}
use Rattle.line_network.specs.Network.{NetworkValue}
use Rattle.move_messages.specs.declared.event.Event.{Event}
use Rattle.reply_texts.specs.Lines.{Adds, AreLines}
use Rattle.journal_notes.specs.EventBefore.{IsBefore}
use Rattle.journal_notes.specs.EventNotes.{CallsTo, StreaksAfter, office_of}
use Rattle.journal_notes.specs.Heard.{heard_by_event, nothing_heard}
use Rattle.journal_notes.specs.NoteLines.{IsNoteLine}
use Rattle.journal_notes.specs.NotedJournal.{ahead_of_event}
use Rattle.journal_notes.specs.NotesOf.{AreNotesOf, KeepsWatch}
use Rattle.journal_notes.specs.Watches.{IsWatchOf, WatchValue}
use Rattle.journal_notes.specs.declared.event_before.EventBefore.{EventBefore}
use Rattle.journal_notes.specs.declared.heard.Heard.{Heard}
use Rattle.journal_notes.specs.declared.note.Note.{Note}
use Rattle.journal_notes.proofs.Answered.{answered, begun, brought}
use Rattle.sessions.specs.FeedNotes.{AreNotedFrom, EventLine, a_begin, heard_in, no_line, one_line}
use Rattle.sessions.specs.FeedReports.{AreNotesFor}
use Rattle.sessions.specs.inner.KeptNotes.{AreHeard, AreKept, AreKeptAfter, AreWritten}
use Rattle.sessions.specs.declared.feed_report.FeedNotes.{FeedNotes}
use Rattle.sessions.specs.declared.kept_notes.FileLine.{FileLine}
use Rattle.sessions.specs.declared.kept_notes.KeptNotes.{KeptNotes}

-- ---- lists

get_of_replicate : {A : Type 0} (n k : ℕ) (it x : A) → slice_get (replicate n it) k ≡ Some x → x ≡ it
get_of_replicate zero k it x is = absurd cc
get_of_replicate (suc n) zero it x is = let same : it ≡ x = cc in sym same
get_of_replicate (suc n) (suc k) it x is = get_of_replicate n k it x is

get_of_set_there : {A : Type 0} (xs : List A) (k : ℕ) (it x : A) → slice_get (slice_set xs k it) k ≡ Some x → x ≡ it
get_of_set_there [] k it x is = absurd cc
get_of_set_there (y ∷ xs) zero it x is = let same : it ≡ x = cc in sym same
get_of_set_there (y ∷ xs) (suc k) it x is = get_of_set_there xs k it x is

get_of_set_elsewhere : {A : Type 0} (xs : List A) (at k : ℕ) (it : A) → at ≢ k → slice_get (slice_set xs at it) k ≡ slice_get xs k
get_of_set_elsewhere [] at k it other = refl
get_of_set_elsewhere (y ∷ xs) zero zero it other = absurd (other refl)
get_of_set_elsewhere (y ∷ xs) zero (suc k) it other = refl
get_of_set_elsewhere (y ∷ xs) (suc at) zero it other = refl
get_of_set_elsewhere (y ∷ xs) (suc at) (suc k) it other = get_of_set_elsewhere xs at k it (λ same. other (ap suc same))

-- ---- messages of each file

pub none_heard : (n : ℕ) (files : List Heard) → files ≡ replicate n nothing_heard → AreHeard [] files
none_heard n files are file heard is = get_of_replicate n file nothing_heard heard (subst (λ (hs : List Heard). slice_get hs file ≡ Some heard) are is)

module _ (lines : List EventLine) (files : List Heard) (this : EventLine) (before : Heard) (are : AreHeard lines files) (was : slice_get files this.file ≡ Some before) where
  heard_at : (file : ℕ) (heard : Heard) (same : Bool) → eqb this.file file ≡ same → slice_get (slice_set files this.file (heard_by_event this.line before this.event)) file ≡ Some heard
      → heard ≡ (if same then heard_by_event this.line (heard_in file lines) this.event else heard_in file lines)
  heard_at file heard true is got =
      let here : this.file ≡ file = eqb-true this.file file is in
      let last : heard ≡ heard_by_event this.line before this.event =
      get_of_set_there files this.file (heard_by_event this.line before this.event) heard (subst (λ (k : ℕ). slice_get (slice_set files this.file (heard_by_event this.line before this.event)) k ≡ Some heard) (sym here) got) in
      last ∙ ap (λ (h : Heard). heard_by_event this.line h this.event) (are this.file before was ∙ ap (λ (k : ℕ). heard_in k lines) here)
  heard_at file heard false is got = are file heard (sym (get_of_set_elsewhere files this.file file (heard_by_event this.line before this.event) (eqb-false this.file file is)) ∙ got)

  pub heard_more : AreHeard (this ∷ lines) (slice_set files this.file (heard_by_event this.line before this.event))
  heard_more file heard got = heard_at file heard (eqb this.file file) refl got

-- ---- before the first line

pub kept_first : (book : BookValue) (kept : KeptNotes) → kept.networks.items ≡ book.setting.networks → book.state.history ≡ [] → kept.watch.streaks ≡ [] → string_bytes kept.text ≡ []
    → AreHeard [] kept.heard.items → IsWatchOf (office_of book) kept.watch → AreKept book kept
kept_first book kept networks none streaks text heard watch = record {
  networks = networks;
  whole = λ whole. record {
    first = book;
    no_entry = none;
    own = refl;
    lines = [];
    noted = rw (streaks, text) (no_line);
    heard = heard;
    watch = watch;
  };
}

-- ---- one line more

module _ {V : Type 0} (items : V → List Note) (old mid new : KeptNotes) (from : FileLine) (book now : BookValue) (happens : Event) (before : EventBefore) (answer : Answer) where
  line_kept : (notes : V) → AreKeptAfter book old → old.networks.items ≡ book.setting.networks → IsBefore old.networks.items (office_of book) happens before → now.setting ≡ book.setting
      → IsCall book.setting book.state (call.Event happens) answer now.state
      → AreNotesOf before happens answer (office_of now) old.watch (items notes) → StreaksAfter happens answer old.watch.streaks mid.watch.streaks → answer ≢ Refused OutOfMemory
      → KeepsWatch happens answer (office_of now) old.watch mid.watch → mid.heard ≡ old.heard → mid.text ≡ old.text
      → AreWritten mid from happens (items notes) new → new.watch ≡ mid.watch → AreKeptAfter now new
  line_kept notes kept networks is_before setting called are streaks memory keeps heard text written watch =
      let this : EventLine = record { file = from.file; line = from.line; event = happens } in
      let was : slice_get old.heard.items from.file ≡ Some written.before = subst (λ hs. slice_get hs.items from.file ≡ Some written.before) heard written.was in
      let last : written.before ≡ heard_in from.file kept.lines = kept.heard from.file written.before was in
      let said = brought items book now old.networks.items before happens answer old.watch mid.watch (Ok notes) networks is_before kept.watch setting called are streaks memory in
      let added : AreLines (IsNoteLine (Some from.file) from.line) (items notes ++ ahead_of_event (heard_in from.file kept.lines) happens) written.text.added =
      subst (λ (h : Heard). AreLines (IsNoteLine (Some from.file) from.line) (items notes ++ ahead_of_event h happens) written.text.added) last written.text.is in
      let more : string_bytes new.text ≡ string_bytes old.text ++ written.text.added = written.text.whole ∙ ap (λ t. string_bytes t ++ written.text.added) text in
      record {
        first = kept.first;
        no_entry = kept.no_entry;
        own = kept.own ∙ sym setting;
        lines = this ∷ kept.lines;
        noted = rw (watch, more) (one_line {this = this} kept.noted said added);
        heard = subst (AreHeard (this ∷ kept.lines)) (sym (written.heard ∙ ap (λ hs. slice_set hs.items from.file (heard_by_event from.line written.before happens)) heard)) (heard_more kept.lines old.heard.items this written.before kept.heard was);
        watch = subst (IsWatchOf (office_of now)) (sym watch) (keeps (length book.setting.networks) (office_of book) kept.watch (answered book now happens answer setting called));
      }

  -- the same, where the notes could be written
  pub note_kept : {U : Type 0} (said : Result V AllocError) (written : Result U AllocError) → is_err written ≡ false → old.is_lost ≡ false → AreKept book old → IsBefore old.networks.items (office_of book) happens before
      → now.setting ≡ book.setting → IsCall book.setting book.state (call.Event happens) answer now.state
      → IfOk said (λ notes. AreNotesOf before happens answer (office_of now) old.watch (items notes)) → OnOk said (StreaksAfter happens answer old.watch.streaks mid.watch.streaks) → OnOk said (answer ≢ Refused OutOfMemory)
      → KeepsWatch happens answer (office_of now) old.watch mid.watch → mid.heard ≡ old.heard → mid.text ≡ old.text → mid.networks ≡ old.networks
      → OnOk written (IfOk said (λ notes. AreWritten mid from happens (items notes) new)) → OnOk written (IsOk said) → new.watch ≡ mid.watch → new.networks ≡ mid.networks → AreKept now new
  note_kept (Ok notes) (Ok u) whole kept are is_before setting called noted streaks memory keeps heard text networks wrote said watch same = record {
    networks = ap (λ ns. ns.items) (same ∙ networks) ∙ are.networks ∙ ap (λ s. s.networks) (sym setting);
    whole = λ _. line_kept notes (are.whole kept) are.networks is_before setting called noted streaks memory keeps heard text wrote watch;
  }
  note_kept (Err error) (Ok u) whole kept are is_before setting called noted streaks memory keeps heard text networks wrote said watch same = absurd (true≢false (sym said))
  note_kept said (Err error) whole kept are is_before setting called noted streaks memory keeps heard text networks wrote is watch same = absurd (true≢false whole)

-- ---- where memory was refused

pub kept_lost : (book now : BookValue) (kept : KeptNotes) → now.setting ≡ book.setting → AreKept book kept → AreKept now (record kept { is_lost = true })
kept_lost book now kept setting are = record { networks = are.networks ∙ ap (λ s. s.networks) (sym setting); whole = λ whole. absurd (true≢false whole) }

some_is : (old new : KeptNotes) → Some old ≡ Some new → old ≡ new
some_is old new e = cc

-- the same of the notes that a book may have
pub notes_lost : (book : BookValue) (notes : Option KeptNotes) (old new : KeptNotes) → ForSome notes (λ kept. ∥ AreKept book kept ∥₁) → notes ≡ Some old → new ≡ record old { is_lost = true }
    → ForSome (Some new) (λ kept. ∥ AreKept book kept ∥₁)
notes_lost book notes old new all is made = λ kept same.
    let lost : ∥ AreKept book (record old { is_lost = true }) ∥₁ = ∥∥₁_map (all old is) (kept_lost book book old refl) in
    subst (λ (kept : KeptNotes). ∥ AreKept book kept ∥₁) (sym made ∙ some_is new kept same) lost

-- ---- a begin

pub kept_begun : (old new : BookValue) (kept : KeptNotes) (at : ℕ) → CallsTo old (call.Begin at) new → AreKept old kept → AreKept new kept
kept_begun old new kept at calls are = record {
  networks = are.networks ∙ ap (λ s. s.networks) (sym calls.setting);
  whole = λ whole.
      let after = are.whole whole in
      record {
        first = after.first;
        no_entry = after.no_entry;
        own = after.own ∙ sym calls.setting;
        lines = after.lines;
        noted = a_begin after.noted calls;
        heard = after.heard;
        watch = subst (λ office. IsWatchOf office kept.watch) (sym (begun old new at calls)) after.watch;
      };
}

-- ---- when all lines are answered

pub feed_notes : (book : BookValue) (kept : KeptNotes) (notes : FeedNotes) → notes.text ≡ kept.text → notes.is_lost ≡ kept.is_lost → ∥ AreKept book kept ∥₁ → AreNotesFor book notes
feed_notes book kept notes text lost are whole = ∥∥₁_map are (λ are.
    let after = are.whole (sym lost ∙ whole) in
    record {
      first = after.first;
      no_entry = after.no_entry;
      own = after.own;
      lines = after.lines;
      streaks = kept.watch.streaks;
      noted = subst (λ its. AreNotedFrom after.first after.lines book kept.watch.streaks (string_bytes its)) (sym text) after.noted;
    })
