-- A run that writes notes, from its first book to its status.
use Rattle.std.proofs.Common.{◌≡◌, ℕ, Result, Ok, Err, IfErr, IfOk, ap, inl, inr, subst}
use Rattle.std.specs.Prelude.{None, OnOk}
use Rattle.command_line.specs.declared.office_options.OfficeOptions.{OfficeOptions}
use Rattle.commit_book.specs.Books.{BookValue}
use Rattle.journal_notes.specs.NotedJournal.{JournalValue}
use Rattle.line_engine.specs.Lines.{max_line_bytes}
use Rattle.line_engine.specs.declared.device.Sink.{Ghosts}
use Rattle.office.specs.CommandReplies.{ToCommands}
use Rattle.office.specs.NotedRuns.{WritesBoth}
use Rattle.office.specs.declared.noted_runs.NotedBook.{NotedBook}
use Rattle.office_files.specs.InFile.{BytesAt}
use Rattle.office_files.specs.declared.stop.Stop.{Stop}
use Rattle.office_files.specs.declared.stopped.Stopped.{Stopped}
use Rattle.wagons_program.specs.Brought.{AreAnswered, AreStopped, IsInputBrought, Lines, lines_over}
use Rattle.wagons_program.specs.NotedRun.{AreNotesUndone, AreNotesWritten, IsFirstNotedFor, IsNotesFailed}
use Rattle.wagons_program.specs.Streams.{Streams}
use Rattle.wagons_program.proofs.Projected.{Follows, ends, stops}

abbrev book_of : {N : Type 0} → NotedBook N → BookValue
book_of noted = noted.kept.book

follows : {N : Type 0} (writing : Ghosts N) → Follows book_of (WritesBoth writing) ToCommands
follows writing n old line text refused new both = both.reply

-- the same lines, brought to the books alone
abbrev of_books : {N : Type 0} → Lines (NotedBook N) → Lines BookValue
of_books lines = record { most = lines.most; given = lines.given; old = lines.old.kept.book; new = lines.new.kept.book }

pub answered : {N : Type 0} (writing : Ghosts N) (lines : Lines (NotedBook N)) (status : ℕ) → AreAnswered (WritesBoth writing) lines status → AreAnswered ToCommands (of_books lines) status
answered writing lines status a = record {
  left = a.left;
  count = a.count;
  ends = ends book_of (WritesBoth writing) ToCommands (follows writing) _ a.count a.ends;
  status_is = a.status_is;
}

pub stopped : {N : Type 0} (writing : Ghosts N) (lines : Lines (NotedBook N)) (why : Stop) → AreStopped (WritesBoth writing) lines why → AreStopped ToCommands (of_books lines) why
stopped writing lines why s = record {
  left = s.left;
  failed = s.failed;
  fault = s.fault;
  stops = stops book_of (WritesBoth writing) ToCommands (follows writing) _ s.failed s.fault s.stops;
  why_is = s.why_is;
}

-- ---- from the first book on

brought_by : {N : Type 0} (bytes_at : BytesAt) (options : OfficeOptions) (given : Streams) (first : NotedBook N) (last : BookValue) (status : ℕ) → IsFirstNotedFor bytes_at options first
    → AreAnswered ToCommands (lines_over max_line_bytes given first.kept.book last) status → IsInputBrought bytes_at options given status
brought_by bytes_at options given first last status is_first by = (
  is_first.networks,
  last,
  (is_first.book, is_first.is_first, subst (λ (book : BookValue). AreAnswered ToCommands (lines_over max_line_bytes given book last) status) (ap (λ (journal : JournalValue). journal.book) is_first.kept) by),
)

pub brought : {N E : Type 0} (bytes_at : BytesAt) (options : OfficeOptions) (given : Streams) (first : NotedBook N) (last : BookValue) (status : ℕ) (result : Result ℕ E) → IsFirstNotedFor bytes_at options first
    → AreAnswered ToCommands (lines_over max_line_bytes given first.kept.book last) status → IfOk result (λ same. same ≡ status) → IfOk result (IsInputBrought bytes_at options given)
brought bytes_at options given first last status (Err why) is_first by same = tt
brought bytes_at options given first last status (Ok ended) is_first by same = rw same (brought_by bytes_at options given first last status is_first by)

pub written : {N E : Type 0} (bytes_at : BytesAt) (writing : Ghosts N) (options : OfficeOptions) (given : Streams) (first last : NotedBook N) (status : ℕ) (result : Result ℕ E) → IsFirstNotedFor bytes_at options first
    → AreAnswered (WritesBoth writing) (lines_over max_line_bytes given first last) status → IfOk result (λ same. same ≡ status) → OnOk result (last.notes.first_failure ≡ None)
    → IfOk result (AreNotesWritten bytes_at writing options given)
written bytes_at writing options given first last status (Err why) is_first by same whole = tt
written bytes_at writing options given first last status (Ok ended) is_first by same whole =
    rw same (record { first = first; are_first = is_first; last = last; answered = by; no_failure = whole })

pub failed : {N : Type 0} (bytes_at : BytesAt) (options : OfficeOptions) (given : Streams) (first : NotedBook N) (last : BookValue) (status : ℕ) (result : Result ℕ Stopped) → IsFirstNotedFor bytes_at options first
    → AreAnswered ToCommands (lines_over max_line_bytes given first.kept.book last) status → IfErr result (λ stopped. IsNotesFailed stopped.stop)
    → IfErr result (λ stopped. AreNotesUndone bytes_at options given stopped.stop)
failed bytes_at options given first last status (Ok ended) is_first by why = tt
failed bytes_at options given first last status (Err stop) is_first by why =
    inr (record { failed = why; status = status; brought = brought_by bytes_at options given first last status is_first by })

pub not_brought : {N : Type 0} (bytes_at : BytesAt) (options : OfficeOptions) (given : Streams) (first : NotedBook N) (last : BookValue) (why : Stop) → IsFirstNotedFor bytes_at options first
    → AreStopped ToCommands (lines_over max_line_bytes given first.kept.book last) why → AreNotesUndone bytes_at options given why
not_brought bytes_at options given first last why is_first by =
    inl (inr (
      is_first.networks,
      is_first.book,
      is_first.is_first,
      (last, subst (λ (book : BookValue). AreStopped ToCommands (lines_over max_line_bytes given book last) why) (ap (λ (journal : JournalValue). journal.book) is_first.kept) by),
    ))
