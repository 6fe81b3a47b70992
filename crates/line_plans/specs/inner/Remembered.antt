-- The snapshots of the problems that a book keeps.
use Rattle.std.specs.Prelude.{◌≡◌, ◌≤◌, nat_lt, ℕ, if◌then◌else◌, List, [], ◌∷◌, ◌++◌, length, drop, map, Option, IfSome, true, All}
use Rattle.std.specs.List.{find}
use Rattle.commit_book.specs.BookStep.{BookState, is_kept, is_this}
use Rattle.commit_book.specs.Books.{BookValue}
use Rattle.commit_book.specs.Setting.{Setting}
use Rattle.move_messages.specs.declared.event.Event.{Event}
use Rattle.price_checker.specs.Limits.{LimitNumbers}
use Rattle.price_checker.specs.Snap.{SnapValue}
use Rattle.line_plans.specs.Plans.{snap_at, which_of}
use Rattle.line_plans.specs.declared.problem_key.ProblemKey.{ProblemKey}

-- the version and the moment of a snapshot
abbrev pub which_of_snap : SnapValue → ℕ × ℕ
which_of_snap snap = (snap.version, snap.problem.at)

-- the first of some snapshots that is of this version and moment
abbrev pub found_of : (snaps : List SnapValue) → (which : ℕ × ℕ) → Option SnapValue
found_of snaps which = find (λ snap. is_this which (which_of_snap snap)) snaps

-- a snapshot is that of a version which a history has
pub record IsSnapAt (setting : Setting) (history : List Event) (snap : SnapValue) : Type 0 where
  pub had : snap.version ≤ length history
  pub is_snap : snap ≡ snap_at setting history snap.version snap.problem.at

-- these are the snapshots of the problems that a book keeps, in their order
pub record AreRemembered (setting : Setting) (state : BookState) (snaps : List SnapValue) : Type 0 where
  pub kept : map which_of_snap snaps ≡ state.kept
  pub each : All (IsSnapAt setting state.history) snaps

-- a book of these limits with the snapshots of its problems
pub record IsSnapshotBook (book : BookValue) (limits : LimitNumbers) (snaps : List SnapValue) : Type 0 where
  pub limits_are : limits.kept ≡ book.setting.kept
  pub remembered : AreRemembered book.setting book.state snaps

-- one more as the last; the first makes room where there are as many as may be
abbrev pub pushed : (most : ℕ) → (snaps : List SnapValue) → SnapValue → List SnapValue
pushed most snaps snap = if nat_lt (length snaps) most then snaps ++ snap ∷ [] else drop 1 snaps ++ snap ∷ []

-- the same, unless it is among them
abbrev pub with_snap : (most : ℕ) → (snaps : List SnapValue) → SnapValue → List SnapValue
with_snap most snaps snap = if is_kept (map which_of_snap snaps) (which_of_snap snap) then snaps else pushed most snaps snap

-- a problem is kept, where there is one
abbrev pub IsKeptProblem : BookValue → Option ProblemKey → Type 0
IsKeptProblem book problem = IfSome problem (λ key. is_kept book.state.kept (which_of key) ≡ true)
