-- What a begin does to the snapshots of the problems that a book keeps.
use Rattle.std.proofs.Common.{◌≡◌, ◌∙◌, ℕ, Bool, true, false, cond, List, [], ◌∷◌, ◌++◌, length, drop, map, refl, sym, ap, arith, inl, inr}
use Rattle.std.specs.Prelude.{nat_lt, All}
use Rattle.std.proofs.lemmas.List.{length-map, map-append}
use Rattle.std.proofs.lemmas.List.Elements.{All-drop, All-push}
use Rattle.move_messages.specs.declared.event.Event.{Event}
use Rattle.operating_db.specs.Office.{Office}
use Rattle.operating_db.specs.Problem.{problem_of}
use Rattle.price_checker.specs.Snap.{SnapValue}
use Rattle.commit_book.specs.BookStep.{BookState, IsCall, IsStep, is_kept, kept_after}
use Rattle.commit_book.specs.Setting.{Setting}
use Rattle.commit_book.specs.Snap.{snap_of}
use Rattle.commit_book.specs.declared.answer.Answer.TheVariants.{Begun}
use Rattle.commit_book.specs.declared.call.Call.TheVariants as call
use Rattle.commit_book.proofs.BookParts.{last_version}
use Rattle.line_plans.specs.inner.Remembered.{AreRemembered, IsSnapAt, which_of_snap, with_snap}

-- the snapshot of an office as one of a version
snap_by : (n at : ℕ) → Office → SnapValue
snap_by n at office = record { version = n; network = office.network; problem = problem_of office at }

map_by : (known room : Bool) (snaps : List SnapValue) (snap : SnapValue)
    → map which_of_snap (cond known snaps (cond room (snaps ++ snap ∷ []) (drop 1 snaps ++ snap ∷ [])))
    ≡ cond known (map which_of_snap snaps) (cond room (map which_of_snap snaps ++ which_of_snap snap ∷ []) (drop 1 (map which_of_snap snaps) ++ which_of_snap snap ∷ []))
map_by true room snaps snap = refl
map_by false true snaps snap = map-append which_of_snap snaps (snap ∷ [])
map_by false false [] snap = refl
map_by false false (first ∷ snaps) snap = map-append which_of_snap snaps (snap ∷ [])

-- the problems of the snapshots are kept as the book keeps them
which_kept : (setting : Setting) (snaps : List SnapValue) (snap : SnapValue) → map which_of_snap (with_snap setting.kept snaps snap) ≡ kept_after setting (map which_of_snap snaps) (which_of_snap snap)
which_kept setting snaps snap =
    let keys : List (ℕ × ℕ) = map which_of_snap snaps in
    let known : Bool = is_kept keys (which_of_snap snap) in
    map_by known (nat_lt (length snaps) setting.kept) snaps snap
    ∙ ap (λ (n : ℕ). cond known keys (cond (nat_lt n setting.kept) (keys ++ which_of_snap snap ∷ []) (drop 1 keys ++ which_of_snap snap ∷ []))) (sym (length-map snaps which_of_snap))

all_by : (P : SnapValue → Type 0) (known room : Bool) (snaps : List SnapValue) (snap : SnapValue) → All P snaps → P snap → All P (cond known snaps (cond room (snaps ++ snap ∷ []) (drop 1 snaps ++ snap ∷ [])))
all_by P true room snaps snap all here = all
all_by P false true snaps snap all here = All-push P snaps snap all here
all_by P false false snaps snap all here = All-push P (drop 1 snaps) snap (All-drop P 1 snaps all) here

-- the snapshot of the last version is one of a version
last_snap : (setting : Setting) (history : List Event) (at : ℕ) → IsSnapAt setting history (snap_of setting history at)
unfolding snap_by
last_snap setting history at = record { had = omega arith; is_snap = ap (snap_by (length history) at) (sym (last_version setting history)) }

-- a begin that is answered so is a step
begun_step : (setting : Setting) (old new : BookState) (at n : ℕ) → IsCall setting old (call.Begin at) (Begun n) new → IsStep setting old (call.Begin at) (Begun n) new
begun_step setting old new at n called = elim called [
  | inl step ↦ step
  | inr memory ↦ let no : ⊥ = cc memory.refused in absurd no
]

with_last : (setting : Setting) (old new : BookState) (snaps : List SnapValue) (at : ℕ) → AreRemembered setting old snaps → new ≡ record old { kept = kept_after setting old.kept (length old.history, at) } → AreRemembered setting new (with_snap setting.kept snaps (snap_of setting old.history at))
with_last setting old new snaps at h changed =
    let snap : SnapValue = snap_of setting old.history at in
    record {
      kept = which_kept setting snaps snap ∙ ap (λ (kept : List (ℕ × ℕ)). kept_after setting kept (length old.history, at)) h.kept ∙ sym (ap (λ (state : BookState). state.kept) changed);
      each = rw changed (all_by (IsSnapAt setting old.history) (is_kept (map which_of_snap snaps) (which_of_snap snap)) (nat_lt (length snaps) setting.kept) snaps snap h.each (last_snap setting old.history at));
    }

-- a begin keeps its problem as the last one
pub begun : (setting : Setting) (old new : BookState) (snaps : List SnapValue) (most at n : ℕ) (snap : SnapValue) → AreRemembered setting old snaps → most ≡ setting.kept → snap ≡ snap_of setting old.history at → IsCall setting old (call.Begin at) (Begun n) new
    → AreRemembered setting new (with_snap most snaps snap)
begun setting old new snaps most at n snap h same is called =
    rw (same, is) (with_last setting old new snaps at h (begun_step setting old new at n called).changed)
