-- Snapshots that are looked for by version and moment.
use Rattle.std.proofs.Common.{◌≡◌, ◌∙◌, ℕ, Bool, true, false, cond, ◌||◌, List, [], ◌∷◌, length, map, Option, Some, Bor, refl, sym, ap, subst}
use Rattle.std.specs.Prelude.{◌==◌, ◌≤◌, None, IsSome, is_some, option_copied, All}
use Rattle.std.proofs.lemmas.List.Elements.{All-head, All-tail}
use Rattle.commit_book.specs.BookStep.{BookState, is_kept, is_this}
use Rattle.commit_book.specs.Setting.{Setting}
use Rattle.commit_book.proofs.CommitLaws.{both_true, same_number}
use Rattle.move_messages.specs.declared.event.Event.{Event}
use Rattle.price_checker.specs.Snap.{SnapValue}
use Rattle.line_plans.specs.Plans.{snap_at}
use Rattle.line_plans.specs.inner.Remembered.{AreRemembered, IsSnapAt, found_of, pushed, which_of_snap, with_snap}

found_by : (this : Bool) (first : SnapValue) (rest : Option SnapValue) (any : Bool) → any ≡ is_some rest → (this || any) ≡ is_some (cond this (Some first) rest)
found_by true first rest any h = refl
found_by false first rest any h = h

-- a snapshot is found where its problem is among them
kept_is_found : (snaps : List SnapValue) (which : ℕ × ℕ) → is_kept (map which_of_snap snaps) which ≡ is_some (found_of snaps which)
kept_is_found [] which = refl
kept_is_found (first ∷ snaps) which = found_by (is_this which (which_of_snap first)) first (found_of snaps which) (is_kept (map which_of_snap snaps) which) (kept_is_found snaps which)

same_snap : (a b : SnapValue) → let o : Option SnapValue = Some a in o ≡ Some b → a ≡ b
same_snap a b h = cc

-- what is found is one of them, and of this version and moment
pub record IsFound (P : SnapValue → Type 0) (which : ℕ × ℕ) (snap : SnapValue) : Type 0 where
  pub holds : P snap
  pub version : snap.version ≡ which.0
  pub at : snap.problem.at ≡ which.1

of_this : (P : SnapValue → Type 0) (which : ℕ × ℕ) (snap : SnapValue) → P snap → is_this which (which_of_snap snap) ≡ true → IsFound P which snap
of_this P which snap holds is =
    let f = both_true (snap.version == which.0) (snap.problem.at == which.1) is in
    record { holds = holds; version = same_number snap.version which.0 f.0; at = same_number snap.problem.at which.1 f.1 }

found_step : (P : SnapValue → Type 0) (which : ℕ × ℕ) (first snap : SnapValue) (rest : Option SnapValue) (this : Bool) → is_this which (which_of_snap first) ≡ this → P first → (rest ≡ Some snap → IsFound P which snap) → cond this (Some first) rest ≡ Some snap → IsFound P which snap
found_step P which first snap rest true is here later h = subst (IsFound P which) (same_snap first snap h) (of_this P which first here is)
found_step P which first snap rest false is here later h = later h

found_is : (P : SnapValue → Type 0) (snaps : List SnapValue) (which : ℕ × ℕ) (snap : SnapValue) → All P snaps → found_of snaps which ≡ Some snap → IsFound P which snap
found_is P [] which snap all h = absurd cc
found_is P (first ∷ snaps) which snap all h =
    found_step P which first snap (found_of snaps which) (is_this which (which_of_snap first)) refl (All-head P first snaps all) (found_is P snaps which snap (All-tail P first snaps all)) h

-- a snapshot that is found is that of the version and the moment
pub record IsSnapOf (setting : Setting) (history : List Event) (version at : ℕ) (snap : SnapValue) : Type 0 where
  pub had : version ≤ length history
  pub is_snap : snap ≡ snap_at setting history version at

pub found_snap : (setting : Setting) (history : List Event) (snaps : List SnapValue) (version at : ℕ) (snap : SnapValue) → All (IsSnapAt setting history) snaps → found_of snaps (version, at) ≡ Some snap → IsSnapOf setting history version at snap
found_snap setting history snaps version at snap all h =
    let found = found_is (IsSnapAt setting history) snaps (version, at) snap all h in
    record {
      had = subst (λ (n : ℕ). n ≤ length history) found.version found.holds.had;
      is_snap = found.holds.is_snap ∙ ap (λ (n : ℕ). snap_at setting history n snap.problem.at) found.version ∙ ap (snap_at setting history version) found.at;
    }

-- ---- looking through references

copied_is_found : {A : Type 0} (found : Option (Bor A)) → is_some (option_copied found) ≡ is_some found
copied_is_found None = refl
copied_is_found (Some lent) = refl

-- whether a problem is among those of the snapshots, as the search says
known_as : (snaps : List SnapValue) (which : ℕ × ℕ) (found : Option (Bor SnapValue)) → option_copied found ≡ found_of snaps which → is_kept (map which_of_snap snaps) which ≡ is_some found
known_as snaps which found is = kept_is_found snaps which ∙ ap (λ (o : Option SnapValue). is_some o) (sym is) ∙ copied_is_found found

-- a snapshot of another problem goes last
pub new_snap : (most : ℕ) (snaps new : List SnapValue) (snap : SnapValue) (found : Option (Bor SnapValue)) → option_copied found ≡ found_of snaps (which_of_snap snap) → is_some found ≡ false → new ≡ pushed most snaps snap → new ≡ with_snap most snaps snap
new_snap most snaps new snap found is none h =
    h ∙ sym (ap (λ (known : Bool). cond known snaps (pushed most snaps snap)) (known_as snaps (which_of_snap snap) found is ∙ none))

-- one of a problem that is among them isn't added
pub known_snap : (most : ℕ) (snaps : List SnapValue) (snap : SnapValue) (found : Option (Bor SnapValue)) → option_copied found ≡ found_of snaps (which_of_snap snap) → is_some found ≡ true → snaps ≡ with_snap most snaps snap
known_snap most snaps snap found is some =
    sym (ap (λ (known : Bool). cond known snaps (pushed most snaps snap)) (known_as snaps (which_of_snap snap) found is ∙ some))

-- the snapshot of a problem that the book keeps is found
pub found_there : (setting : Setting) (state : BookState) (snaps : List SnapValue) (which : ℕ × ℕ) (found : Option (Bor SnapValue)) → AreRemembered setting state snaps → is_kept state.kept which ≡ true → option_copied found ≡ found_of snaps which → IsSome found
found_there setting state snaps which found h known is =
    sym (known_as snaps which found is) ∙ ap (λ (kept : List (ℕ × ℕ)). is_kept kept which) h.kept ∙ known
