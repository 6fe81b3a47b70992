-- Books as contracts see them: what a book is given and keeps, its answers to single calls, and its entries by number.
use Rattle.std.specs.Prelude.{ℕ, List, length, Option, None, Result, Ok, Err, slice_get, zero, suc}
use Rattle.move_messages.specs.declared.event.Event.{Event}
use Rattle.commit_book.specs.BegunProblem.{BegunValue}
use Rattle.commit_book.specs.Setting.{Setting}
use Rattle.commit_book.specs.History.{replay}
use Rattle.commit_book.specs.declared.answer.Answer.{Answer}
use Rattle.commit_book.specs.declared.answer.Answer.TheVariants.{Done, Begun, Refused}
use Rattle.faults.specs.declared.faults.Refusal.{Refusal}
use Rattle.faults.specs.declared.faults.Refusal.TheVariants.{OutOfMemory}
use Rattle.std.specs.declared.alloc.AllocError.{AllocError}
use Rattle.price_checker.specs.Snap.{SnapValue}
use Rattle.commit_book.specs.declared.reply.Reply.{Reply}
use Rattle.commit_book.specs.declared.reply.Reply.TheVariants.{Accepted, Repeated}
use Rattle.commit_book.specs.BookStep.{BookState}
use Rattle.operating_db.specs.FirstOffice.{IsFirstOffice}
use Rattle.operating_db.specs.Office.{Office}
use Rattle.operating_db.specs.State.{StateValue}
use Rattle.line_network.specs.NetworkCount.{IsNetworkCount}
use Rattle.line_network.specs.Network.{NetworkValue}
use Rattle.price_checker.specs.Limits.{AreLimits, LimitNumbers}

-- what a contract sees of a book: what it was given, its history, and which problems it keeps
pub record BookValue : Type 0 where
  pub setting : Setting
  pub state : BookState

-- the office of a book's present version
abbrev pub present_office : BookValue → StateValue
present_office book = record { office = replay book.setting book.state.history; networks = length book.setting.networks }

-- what a call that enters an event returned, as an answer; what a begin did
abbrev pub answer_of : Result Reply Refusal → Answer
answer_of (Ok reply) = Done reply
answer_of (Err refusal) = Refused refusal

abbrev pub begun_of : Result SnapValue AllocError → Answer
begun_of (Ok snap) = Begun snap.version
begun_of (Err error) = Refused OutOfMemory

abbrev pub begun_with : Result BegunValue AllocError → Answer
begun_with (Ok begun) = Begun begun.snap.version
begun_with (Err error) = Refused OutOfMemory

-- no entry comes of a call: it is refused, or its message is an entry already
abbrev pub IsNoEntry : Result Reply Refusal → Type 0
IsNoEntry (Ok (Accepted n)) = ⊥
IsNoEntry (Ok (Repeated n)) = Unit {0}
IsNoEntry (Err refusal) = Unit {0}

-- the entry of a number, counted from 1
abbrev pub entry_at : List Event → ℕ → Option Event
entry_at history zero = None
entry_at history (suc index) = slice_get history index

-- what a book was given: an office, networks, and limits
abbrev pub setting_with : Office → List NetworkValue → LimitNumbers → Setting
setting_with first networks limits = record { first = first; networks = networks; entries = limits.entries; kept = limits.kept }

-- What every book is given: an office with which a book may begin, 1 to 8 networks, and limits within their own.
pub record IsSetting (setting : Setting) : Type 0 where
  pub first : IsFirstOffice (length setting.networks) setting.first
  pub networks : IsNetworkCount (length setting.networks)
  pub limits : AreLimits setting.entries setting.kept
