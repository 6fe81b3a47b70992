-- What people are told of a reason why the program could not run or stopped: words, where nothing more is known, or a text that
-- was made.
use Rattle.std.specs.Prelude.{◌≡◌, ℕ, ◌==◌, if◌then◌else◌, IfSome, List, Option, String, codes, string_bytes}
use Rattle.std.specs.declared.alloc.Global.{Global}
use Rattle.fault_texts.specs.Where.{file_text}
use Rattle.faults.specs.declared.faults.FeedFault.TheVariants as feed
use Rattle.faults.specs.declared.faults.FleetFault.TheVariants as fleet
use Rattle.office_files.specs.Stop.{stop_number}
use Rattle.office_files.specs.declared.stop.Stop.{Stop}
use Rattle.office_files.specs.declared.stop.Stop.TheVariants.{OutOfMemory, Networks, OpenFailed, Roster, Checkpoint, Fleet, Network, Places, Tables, OrderNotInProblem, WagonNotInProblem, OrderNotOnMap, LineWithoutPlan, WriteFailed, NotesFailed, Run, Feed}

-- where memory isn't out
abbrev pub reason_of : Stop → List ℕ
reason_of OutOfMemory = codes "out of memory"
reason_of (Networks fault) = codes "at most 8 networks may be given"
reason_of OpenFailed = codes "a file couldn't be opened"
reason_of (Roster fault) = codes "the roster couldn't be read"
reason_of (Checkpoint fault) = codes "the checkpoint couldn't be read"
reason_of (Fleet fleet.OutOfMemory) = codes "out of memory"
reason_of (Fleet fleet.TooLarge) = codes "the fleet would have over 1,000 wagons, the most that it may have"
reason_of (Fleet (fleet.UnknownWagon number)) = codes "the fleet has no wagon of this number"
reason_of (Fleet (fleet.WagonPromised number)) = codes "this wagon is promised to an order"
reason_of (Network fault) = codes "a network couldn't be read"
reason_of (Places fault) = codes "the names of places couldn't be read"
reason_of (Tables fault) = codes "no thread could be started: too many run already, or memory for one is short"
reason_of (OrderNotInProblem id) = codes "no waiting order of the problem has this name"
reason_of (WagonNotInProblem number) = codes "no free wagon of the problem has this number"
reason_of (OrderNotOnMap id) = codes "no order that lacks wagons or has some promised has this name"
reason_of (LineWithoutPlan line) = codes "this line is no plan line, no begin, and no accepted commit"
reason_of WriteFailed = codes "standard output couldn't be written"
reason_of (NotesFailed line) = codes "the notes couldn't be written"
reason_of (Run fault) = codes "a line couldn't be read or replied to"
reason_of (Feed feed.OutOfMemory) = codes "out of memory"
reason_of (Feed feed.NoThread) = codes "no thread could be started: too many run already, or memory for one is short"
reason_of (Feed (feed.ReceiptLost seat entry)) = codes "an entry isn't what its sender's receipt says, which never happens unless the program is wrong"

abbrev pub words_of : Stop → List ℕ
words_of stop = if stop_number stop == 1 then codes "out of memory" else reason_of stop

-- the text that was made, where memory for it was there, is this one
abbrev pub IsToldAs : (text : List ℕ) → (told : Option (String Global)) → Type 0
IsToldAs text told = IfSome told (λ made. string_bytes made ≡ text)

-- a file as it was named, and something that is said of it
abbrev pub IsOfFile : (path : List ℕ) → String Global → Type 0
IsOfFile path made = (said : List ℕ) × (string_bytes made ≡ file_text path said)

-- the text that was made is one of this file, by what the system says of it
abbrev pub IsToldOfFile : (path : List ℕ) → (told : Option (String Global)) → Type 0
IsToldOfFile path told = IfSome told (IsOfFile path)
