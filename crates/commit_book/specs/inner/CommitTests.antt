-- What the tests of a commit say, before it is entered.
use Rattle.std.specs.Prelude.{◌≡◌, ◌+◌, ◌⊎◌, true, false, length}
use Rattle.move_messages.specs.declared.commit_text.CommitText.{CommitText}
use Rattle.operating_db.specs.Commits.{CanPromise}
use Rattle.commit_book.specs.BookStep.{BookState, IsCommitAnswer, is_kept, is_full}
use Rattle.commit_book.specs.History.{IsLeast, replay}
use Rattle.commit_book.specs.Setting.{Setting}
use Rattle.commit_book.specs.declared.answer.Answer.TheVariants.{Done, Refused}
use Rattle.faults.specs.declared.faults.Refusal.{Refusal}
use Rattle.faults.specs.declared.faults.Refusal.TheVariants.{OutOfMemory}
use Rattle.commit_book.specs.declared.reply.Reply.TheVariants.{Accepted}

-- the problem of a commit is kept, and the book isn't full
pub record IsTestable (setting : Setting) (book : BookState) (commit : CommitText) : Type 0 where
  pub kept : is_kept book.kept (commit.version, commit.at) ≡ true
  pub room : is_full setting book.history ≡ false

-- a commit may be entered
pub record IsAccepted (setting : Setting) (book : BookState) (commit : CommitText) : Type 0 where
  pub testable : IsTestable setting book commit
  pub answered : IsCommitAnswer true false setting book.history commit (Done (Accepted (length book.history + 1)))
  pub least : IsLeast setting book.history commit
  pub promised : CanPromise (replay setting book.history) commit.pairs

-- a commit is refused, or memory is out where that may be
abbrev pub IsRefused : Setting → BookState → CommitText → Refusal → Type 0
IsRefused setting book commit refusal =
    IsCommitAnswer (is_kept book.kept (commit.version, commit.at)) (is_full setting book.history) setting book.history commit (Refused refusal)
    ⊎ ((refusal ≡ OutOfMemory) × IsTestable setting book commit)
