-- A planner's commit: a begin, and then, with no call between, a commit of what was planned for it.
use Rattle.std.specs.Prelude.{◌≡◌, ◌+◌, ◌⊎◌, ℕ, List, length, map}
use Rattle.move_messages.specs.declared.commit_text.CommitText.{CommitText}
use Rattle.operating_db.specs.FirstOffice.{IsFirstOffice}
use Rattle.cost_table.specs.Table.{Table}
use Rattle.price_checker.specs.Certificate.{IsCertificate}
use Rattle.move_messages.specs.declared.event.Event.{Event}
use Rattle.move_messages.specs.declared.event.Event.TheVariants as event
use Rattle.commit_book.specs.BookStep.{BookState, IsCall}
use Rattle.commit_book.specs.History.{ArePositions, IsLegal, IsTableAt, problem_at}
use Rattle.commit_book.specs.Setting.{Setting}
use Rattle.price_checker.specs.Snap.{SnapValue, named_pair}
use Rattle.commit_book.specs.Snap.{snap_of}
use Rattle.commit_book.specs.declared.answer.Answer.{Answer}
use Rattle.commit_book.specs.declared.answer.Answer.TheVariants.{Begun, Done, Refused}
use Rattle.commit_book.specs.declared.call.Call.TheVariants as call
use Rattle.faults.specs.declared.faults.Refusal.TheVariants.{BookFull, OutOfMemory}
use Rattle.commit_book.specs.declared.reply.Reply.TheVariants.{Accepted}
use Rattle.sessions.specs.Planning.{IsPlanned}

-- a book with a legal history answers a begin at this moment with this version
pub record IsBegun (setting : Setting) (book : BookState) (at version : ℕ) (begun : BookState) : Type 0 where
  pub legal : IsLegal setting book.history
  pub call : IsCall setting book (call.Begin at) (Begun version) begun

-- a commit that names a version and a moment, and whose pairs and prices are a certificate of the table of that version at
-- that moment
pub record IsCertificateAt (setting : Setting) (history : List Event) (version at : ℕ) (commit : CommitText) : Type 0 where
  pub names_version : commit.version ≡ version
  pub names_moment : commit.at ≡ at
  pub table : Table
  pub is_table : IsTableAt setting history version at table
  pub positions : List (ℕ × ℕ)
  pub are_positions : ArePositions (problem_at setting history version at) commit.pairs positions
  pub certificate : IsCertificate table positions commit.u commit.v

-- the commit of pairs by position and prices, for a snapshot: its version and moment, the pairs by name, the prices
pub record IsCommitOf (snap : SnapValue) (pairs : List (ℕ × ℕ)) (u v : List ℕ) (commit : CommitText) : Type 0 where
  pub version : commit.version ≡ snap.version
  pub at : commit.at ≡ snap.problem.at
  pub named : commit.pairs ≡ map (named_pair snap.problem) pairs
  pub wagon_prices : commit.u ≡ u
  pub order_prices : commit.v ≡ v

-- the commit is accepted as the next entry, unless the book is full (72) or memory is out (1)
abbrev pub IsAcceptedOrLacksRoom : Setting → BookState → CommitText → Type 0
IsAcceptedOrLacksRoom setting book commit =
    (answer : Answer) (new : BookState) → IsCall setting book (call.Event (event.Commit commit)) answer new
    → (answer ≡ Done (Accepted (length book.history + 1))) ⊎ ((answer ≡ Refused BookFull) ⊎ (answer ≡ Refused OutOfMemory))

-- A commit of a certificate of the version and the moment just begun is refused for no other reason.
abbrev pub CertificatesAreAccepted : Type 0
CertificatesAreAccepted =
    (setting : Setting) → IsFirstOffice (length setting.networks) setting.first → (book : BookState) (at version : ℕ) (begun : BookState) → IsBegun setting book at version begun
    → (commit : CommitText) → IsCertificateAt setting begun.history version at commit → IsAcceptedOrLacksRoom setting begun commit

-- So is a commit of what is planned for the snapshot of that begin, over the book's networks.
abbrev pub PlansAreAccepted : Type 0
PlansAreAccepted =
    (setting : Setting) → IsFirstOffice (length setting.networks) setting.first → (book : BookState) (at version : ℕ) (begun : BookState) → IsBegun setting book at version begun
    → (pairs : List (ℕ × ℕ)) (u v : List ℕ) → IsPlanned setting.networks (snap_of setting book.history at) pairs u v
    → (commit : CommitText) → IsCommitOf (snap_of setting book.history at) pairs u v commit → IsAcceptedOrLacksRoom setting begun commit
