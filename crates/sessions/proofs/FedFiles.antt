-- The files that were fed, their counts and their seats.
use Rattle.std.proofs.Common.{◌≡◌, ℕ, Bool, List, [], ◌∷◌, ◌++◌, All, arith, length, map, refl, suc, sym, ap, ◌∙◌, subst, append_assoc}
use Rattle.std.specs.Prelude.{Option, Result, Ok, Err, IfOk, IfSome, Vec}
use Rattle.std.specs.declared.alloc.Global.{Global}
use Rattle.std.specs.List.{list_any, sum_by}
use Rattle.std.proofs.lemmas.List.{append-nil}
use Rattle.std.proofs.lemmas.List.Elements.{All-head, All-tail}
use Rattle.std.proofs.lemmas.List.Sums.{sum_by-cons}
use Rattle.move_messages.specs.declared.event.Event.{Event}
use Rattle.sessions.specs.Closing.{HasEntries}
use Rattle.sessions.specs.Seat.{SeatValue, count_of}
use Rattle.commit_book.specs.Headline.{IsProved}
use Rattle.commit_book.specs.Setting.{Setting}
use Rattle.sessions.specs.FeedCounts.{AreFed, FileAnswers}
use Rattle.sessions.specs.FeedReports.{AreNotesFor, IsFeedReport}
use Rattle.sessions.specs.inner.Crossings.{IsFirstHeld}
use Rattle.sessions.specs.inner.Fed.{AreGathered, IsCountOf, no_file, one_file}
use Rattle.sessions.specs.inner.RefusedWagons.{RefusedWagonsValue}
use Rattle.sessions.proofs.HeldCrossings.{AreSides, first_crossing, no_side, one_side}
use Rattle.sessions.specs.declared.feed_report.FeedReport.{FeedReport}
use Rattle.sessions.specs.declared.feed_report.FileCount.{FileCount}

module _ {R : Type 0} (setting : Setting) (remaining : R → Option (List ℕ)) (has_failed : R → Bool) where
  -- what came of the files before the rest
  pub record AreFedBefore (rest all : List R) (files : List (FileCount R)) (seats : List SeatValue) (refused : List RefusedWagonsValue) : Type 0 where
    pub done : List R
    pub given : done ++ rest ≡ all
    pub fed : AreGathered setting remaining has_failed done files seats refused

  pub fed_none : (rest all : List R) (files : List (FileCount R)) (seats : List SeatValue) (refused : List RefusedWagonsValue) → files ≡ [] → seats ≡ [] → refused ≡ [] → rest ≡ all → AreFedBefore rest all files seats refused
  fed_none rest all files seats refused no_files no_seats no_wagons same = record { done = []; given = same; fed = rw (no_files, no_seats, no_wagons) no_file }

  fed_more : {givens : List R} {files : List (FileCount R)} {seats : List SeatValue} {refused : List RefusedWagonsValue} (given : R) (file : FileCount R) (seat : SeatValue) (wagons : RefusedWagonsValue)
      → AreGathered setting remaining has_failed givens files seats refused → IsCountOf setting remaining has_failed given file seat wagons
      → AreGathered setting remaining has_failed (givens ++ given ∷ []) (files ++ file ∷ []) (seats ++ seat ∷ []) (refused ++ wagons ∷ [])
  fed_more given file seat wagons no_file is = one_file is no_file
  fed_more given file seat wagons (one_file first others) is = one_file first (fed_more given file seat wagons others is)

  -- one file more
  pub fed_next : (given : R) (file : FileCount R) (seat : SeatValue) (wagons : RefusedWagonsValue) (before rest all : List R) (files more_files : List (FileCount R)) (seats more_seats : List SeatValue)
      (refused more_refused : List RefusedWagonsValue) → AreFedBefore before all files seats refused → before ≡ given ∷ rest → IsCountOf setting remaining has_failed given file seat wagons
      → more_files ≡ files ++ file ∷ [] → more_seats ≡ seats ++ seat ∷ [] → more_refused ≡ refused ++ wagons ∷ [] → AreFedBefore rest all more_files more_seats more_refused
  fed_next given file seat wagons before rest all files more_files seats more_seats refused more_refused fed first is next_file next_seat next_wagons = record {
    done = fed.done ++ given ∷ [];
    given = append_assoc fed.done (given ∷ []) rest ∙ ap (λ (xs : List R). fed.done ++ xs) (sym first) ∙ fed.given;
    fed = rw (next_file, next_seat, next_wagons) (fed_more given file seat wagons fed.fed is);
  }

  pub fed_all : (rest all : List R) (files : List (FileCount R)) (seats : List SeatValue) (refused : List RefusedWagonsValue) → AreFedBefore rest all files seats refused → rest ≡ []
      → AreGathered setting remaining has_failed all files seats refused
  fed_all rest all files seats refused fed none =
      let same : fed.done ≡ all = sym (append-nil fed.done) ∙ ap (λ (xs : List R). fed.done ++ xs) (sym none) ∙ fed.given in
      subst (λ (xs : List R). AreGathered setting remaining has_failed xs files seats refused) same fed.fed

  -- what the lines of each file were answered
  answers_of : {readers : List R} {files : List (FileCount R)} {seats : List SeatValue} {refused : List RefusedWagonsValue} → AreGathered setting remaining has_failed readers files seats refused → List FileAnswers
  answers_of no_file = []
  answers_of (one_file {seat = seat} is others) = record { seat = seat; counts = is.counts } ∷ answers_of others

  -- what came of each file, where each receipt of its seat is an entry
  fed_with : {readers : List R} {files : List (FileCount R)} {seats : List SeatValue} {refused : List RefusedWagonsValue} (history : List Event)
      (fed : AreGathered setting remaining has_failed readers files seats refused) → All (HasEntries history) seats → AreFed setting history remaining has_failed readers (answers_of fed) files
  unfolding answers_of
  fed_with history no_file entries = tt
  fed_with history (one_file {seat = seat} {seats = seats} is others) entries = (
    record { run = is.run; lines = is.lines; accepted = is.accepted; entries = All-head (HasEntries history) seat seats entries },
    fed_with history others (All-tail (HasEntries history) seat seats entries),
  )

  -- the wagons that each file noted are those of its answers
  sides_of : {readers : List R} {files : List (FileCount R)} {seats : List SeatValue} {refused : List RefusedWagonsValue} (fed : AreGathered setting remaining has_failed readers files seats refused)
      → AreSides (answers_of fed) seats refused
  unfolding answers_of
  sides_of no_file = no_side
  sides_of (one_file is others) = one_side refl is.out_of_step (sides_of others)

  -- the files' accepted lines are the seats' receipts
  accepted_by : {readers : List R} {files : List (FileCount R)} {seats : List SeatValue} {refused : List RefusedWagonsValue} → AreGathered setting remaining has_failed readers files seats refused
      → sum_by (λ file. file.accepted) files ≡ sum_by count_of seats
  accepted_by no_file = refl
  accepted_by (one_file {file = file} {seat = seat} {files = files} {seats = seats} is others) =
      omega (arith, sum_by-cons (λ (f : FileCount R). f.accepted) file files, sum_by-cons count_of seat seats, is.accepted, accepted_by others)

  -- a seat, and a set of wagons, for each file that was given
  pub seats_by : {readers : List R} {files : List (FileCount R)} {seats : List SeatValue} {refused : List RefusedWagonsValue} → AreGathered setting remaining has_failed readers files seats refused
      → (length seats ≡ length readers) × (length refused ≡ length readers)
  seats_by no_file = (refl, refl)
  seats_by (one_file is others) = let rest = seats_by others in (ap suc rest.0, ap suc rest.1)

  -- so of a report
  pub reported : {E : Type 0} (readers : List R) (files : Vec (FileCount R) Global) (seats : List SeatValue) (refused : List RefusedWagonsValue) (result : Result (FeedReport R) E)
      → AreGathered setting remaining has_failed readers files.items seats refused
      → IfOk result (λ report. report.files ≡ files) → IfOk result (λ report. All (HasEntries report.book.state.history) seats)
      → IfOk result (λ report. length report.book.state.history ≡ sum_by count_of seats) → IfOk result (λ report. report.book.setting ≡ setting)
      → IfOk result (λ report. IsProved report.book.setting report.book.state.history) → IfOk result (λ report. IsFirstHeld seats refused report.crossing)
      → IfOk result (λ report. report.crossings_lost ≡ list_any (λ wagons. wagons.is_lost) refused)
      → IfOk result (λ report. IfSome report.notes (AreNotesFor report.book)) → IfOk result (IsFeedReport setting remaining has_failed readers)
  reported readers files seats refused (Ok report) fed is receipts entries own proved crossing lost notes = record {
    answers = answers_of fed;
    files = rw is (fed_with report.book.state.history fed receipts);
    entries = rw is (accepted_by fed ∙ sym entries);
    own = own;
    proved = subst (λ (s : Setting). IsProved s report.book.state.history) own proved;
    crossing = first_crossing (answers_of fed) seats refused (sides_of fed) report.crossing report.crossings_lost crossing lost;
    notes = notes;
  }
  reported readers files seats refused (Err fault) fed is receipts entries own proved crossing lost notes = tt
