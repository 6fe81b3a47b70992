-- Problems of a book by their versions and moments, each with its table over the network in force in its version.
use Rattle.std.specs.Prelude.{◌≡◌, ◌≤◌, ℕ, List, length, Option, Some, None}
use Rattle.commit_book.specs.BegunProblem.{BegunValue}
use Rattle.commit_book.specs.Books.{BookValue}
use Rattle.commit_book.specs.History.{IsTableAt, problem_at, version}
use Rattle.commit_book.specs.Setting.{Setting}
use Rattle.move_messages.specs.declared.event.Event.{Event}
use Rattle.price_checker.specs.Snap.{SnapValue}
use Rattle.line_plans.specs.declared.problem_key.ProblemKey.{ProblemKey}

-- the version and the moment of a problem, as a book keeps them
abbrev pub which_of : ProblemKey → ℕ × ℕ
which_of key = (key.version, key.at)

-- the snapshot of a version of a history at a moment: its problem, and the network in force in it
abbrev pub snap_at : Setting → List Event → (n at : ℕ) → SnapValue
snap_at setting history n at = record { version = n; network = (version setting history n).network; problem = problem_at setting history n at }

-- A problem of a book with its table: the book has had the version, the snapshot is that of the version at the moment, and the
-- table is that of the problem over the network in force in the version.
pub record IsPlanAt (book : BookValue) (key : ProblemKey) (plan : BegunValue) : Type 0 where
  pub had : key.version ≤ length book.state.history
  pub snap : plan.snap ≡ snap_at book.setting book.state.history key.version key.at
  pub networks : plan.networks ≡ book.setting.networks
  pub table : IsTableAt book.setting book.state.history key.version key.at plan.table

-- the same where there is a problem; else there is no plan
abbrev pub IsPlanFor : BookValue → Option ProblemKey → Option BegunValue → Type 0
IsPlanFor book (Some key) (Some plan) = IsPlanAt book key plan
IsPlanFor book (Some key) None = ⊥
IsPlanFor book None plan = plan ≡ None
