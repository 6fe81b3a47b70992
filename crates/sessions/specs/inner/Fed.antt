-- Files whose lines were brought to their seats.
use Rattle.std.specs.Prelude.{◌≡◌, ◌+◌, ◌≤◌, ℕ, Bool, false, List, [], ◌∷◌, All, Option, Some, None, Result, Ok, Err, Vec, vec_capacity, vec_len}
use Rattle.std.specs.declared.alloc.Global.{Global}
use Rattle.line_engine.specs.RunFault.{number_of}
use Rattle.line_engine.specs.declared.run.RunCount.{RunCount}
use Rattle.line_engine.specs.declared.run.RunFault.{RunFault}
use Rattle.commit_book.specs.Setting.{Setting}
use Rattle.faults.specs.declared.faults.FeedFault.{FeedFault}
use Rattle.faults.specs.declared.faults.FeedFault.TheVariants.{ReceiptLost}
use Rattle.move_messages.specs.declared.event.Event.{Event}
use Rattle.sessions.specs.Closing.{IsLost}
use Rattle.sessions.specs.Seat.{SeatValue, count_of}
use Rattle.sessions.specs.FedLines.{IsSeatFed}
use Rattle.sessions.specs.FeedCounts.{IsFileRun}
use Rattle.sessions.specs.inner.RefusedWagons.{AreNotedBy, RefusedWagonsValue, no_wagon}
use Rattle.sessions.specs.declared.feed_lines.Counted.{Counted}
use Rattle.sessions.specs.declared.fed_file.FedFile.{FedFile}
use Rattle.sessions.specs.declared.fed_file.FileOf.{FileOf}
use Rattle.sessions.specs.declared.feed_report.FileCount.{FileCount}

-- the number of what stopped a run
abbrev pub stop_number : Result RunCount RunFault → Option ℕ
stop_number (Ok count) = None
stop_number (Err fault) = Some (number_of fault)

-- what came of a file over this reader, at a seat of a shared book of this setting, where readers tell their bytes and their
-- failures so
pub record IsFedFile {L R : Type 0} (setting : Setting) (remaining : R → Option (List ℕ)) (has_failed : R → Bool) (reader : R) (file : FedFile L R) : Type 0 where
  pub run : IsFileRun (remaining reader) (remaining file.reader) (count_of file.seat + file.repeated + file.refused) file.failed (has_failed file.reader)
  pub counts : List Counted
  pub lines : IsSeatFed setting (remaining reader) (remaining file.reader) file.failed counts file.seat file.repeated file.refused
  pub out_of_step : AreNotedBy counts no_wagon file.out_of_step

-- the reader that a thread was given
abbrev pub handed_to : {R : Type 0} → FileOf R → R
handed_to before = before.reader.value

-- the same of a file's counts, its seat, and the wagons that it noted
pub record IsCountOf {R : Type 0} (setting : Setting) (remaining : R → Option (List ℕ)) (has_failed : R → Bool) (reader : R) (file : FileCount R) (seat : SeatValue) (refused : RefusedWagonsValue) : Type 0 where
  pub run : IsFileRun (remaining reader) (remaining file.reader) (file.accepted + file.repeated + file.refused) file.failed (has_failed file.reader)
  pub counts : List Counted
  pub lines : IsSeatFed setting (remaining reader) (remaining file.reader) file.failed counts seat file.repeated file.refused
  pub accepted : file.accepted ≡ count_of seat
  pub out_of_step : AreNotedBy counts no_wagon refused

-- so of each file
pub data AreGathered {R : Type 0} (setting : Setting) (remaining : R → Option (List ℕ)) (has_failed : R → Bool) : List R → List (FileCount R) → List SeatValue → List RefusedWagonsValue → Type 0 where
  no_file : AreGathered setting remaining has_failed [] [] [] []
  one_file : {reader : R} {file : FileCount R} {seat : SeatValue} {refused : RefusedWagonsValue} {others : List R} {files : List (FileCount R)} {seats : List SeatValue} {all : List RefusedWagonsValue}
      → IsCountOf setting remaining has_failed reader file seat refused → AreGathered setting remaining has_failed others files seats all
      → AreGathered setting remaining has_failed (reader ∷ others) (file ∷ files) (seat ∷ seats) (refused ∷ all)

-- the fault that a receipt of one of these seats is lost, which names its seat's number and its entry
abbrev pub IsReceiptLost : List SeatValue → FeedFault → Type 0
IsReceiptLost seats (ReceiptLost number entry) = (history : List Event) × IsLost history seats number entry
IsReceiptLost seats fault = ⊥

-- ---- before the threads are started

-- readers of which none has failed, a seat without a receipt for each, and room for a thread of each
pub record AreToStart {R H : Type 0} (has_failed : R → Bool) (readers : Vec R Global) (seats : Vec SeatValue Global) (running : Vec H Global) : Type 0 where
  pub fresh : All (λ reader. has_failed reader ≡ false) readers.items
  pub new : All (λ seat. count_of seat ≡ 0) seats.items
  pub one_each : vec_len seats ≡ vec_len readers
  pub none : running.items ≡ []
  pub room : vec_len readers ≤ vec_capacity running

-- room for what comes of so many files
pub record HasRoom {R : Type 0} (count : ℕ) (files : Vec (FileCount R) Global) (seats : Vec SeatValue Global) (refused : Vec RefusedWagonsValue Global) : Type 0 where
  pub no_file : files.items ≡ []
  pub file_room : count ≤ vec_capacity files
  pub no_seat : seats.items ≡ []
  pub seat_room : count ≤ vec_capacity seats
  pub none_refused : refused.items ≡ []
  pub refused_room : count ≤ vec_capacity refused
