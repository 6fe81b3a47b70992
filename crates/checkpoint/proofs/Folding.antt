-- A run over the lines of a checkpoint gives what the definition gives.
use Rattle.std.proofs.Common.{◌≡◌, ◌∙◌, ℕ, ◌+◌, Bool, true, false, List, [], ◌∷◌, refl, sym, ap, subst, inl, inr, Result, Ok, Err}
use Rattle.std.proofs.lemmas.Bool.{cases_Bool}
use Rattle.line_engine.specs.Lines.{is_blank}
use Rattle.line_engine.specs.Replies.{ServesLine, ServesLines}
use Rattle.checkpoint.specs.Parts.{PartsValue}
use Rattle.checkpoint.specs.Taking.{Taken, take_line}
use Rattle.checkpoint.specs.OfficeOf.{with_line, with_lines}
use Rattle.checkpoint.specs.inner.Runs.{TakesLine}
use Rattle.checkpoint.specs.inner.Steps.{Follows, TakesFrom}
use Rattle.checkpoint.specs.declared.read_fault.ReadFault.{ReadFault}
use Rattle.checkpoint.specs.declared.read_fault.ReadFault.TheVariants.{Line, Run, Unread}
use Rattle.checkpoint.specs.declared.reading.LinesSoFar.{LinesSoFar}

-- a blank line changes nothing
blank_stays : (networks n : ℕ) (taken : Taken) (line : List ℕ) → is_blank line ≡ true → with_line networks n taken line ≡ taken
blank_stays networks n (Ok parts) line blank = rw blank refl
blank_stays networks n (Err fault) line blank = refl

-- a line that isn't blank
step : (networks n : ℕ) (taken : Taken) (line : List ℕ) (old new : Result PartsValue ReadFault) → is_blank line ≡ false → Follows taken old → TakesFrom networks n old line new → Follows (with_line networks n taken line) new
step networks n taken line (Err (Run fault)) new filled so is = subst (Follows (with_line networks n taken line)) (sym is) so
step networks n taken line (Err (Line fault)) new filled so is =
    subst (Follows (with_line networks n taken line)) (sym is) (ap (λ (t : Taken). with_line networks n t line) so)
step networks n taken line (Err (Unread m fault)) new filled so is =
    subst (Follows (with_line networks n taken line)) (sym is) (ap (λ (t : Taken). with_line networks n t line) so)
step networks n taken line (Ok parts) new filled so is =
    let here : with_line networks n (Ok parts) line ≡ take_line networks n parts line = rw filled refl in
    let same : with_line networks n taken line ≡ take_line networks n parts line = ap (λ (t : Taken). with_line networks n t line) so ∙ here in
    subst (λ (t : Taken). Follows t new) (sym same) is

-- what a run has once the lines were served
pub record HasTaken (old new : LinesSoFar) (taken : Taken) : Type 0 where
  pub parts : Follows taken new.parts
  pub same_networks : new.networks ≡ old.networks

one_line : (n : ℕ) (old new : LinesSoFar) (line text : List ℕ) (refused : Bool) (taken : Taken) → ServesLine TakesLine n old line text refused new → Follows taken old.parts → HasTaken old new (with_line old.networks n taken line)
one_line n old new line text refused taken served so = elim (cases_Bool (is_blank line)) [
  | inl blank ↦
      let same : new ≡ old = (rw blank at served).2 in
      let here : Follows (with_line old.networks n taken line) old.parts = subst (λ (t : Taken). Follows t old.parts) (sym (blank_stays old.networks n taken line blank)) so in
      record {
        parts = subst (λ (s : LinesSoFar). Follows (with_line old.networks n taken line) s.parts) (sym same) here;
        same_networks = ap (λ (s : LinesSoFar). s.networks) same;
      }
  | inr filled ↦
      let takes : TakesLine n old line text refused new = rw filled at served in
      record {
        parts = step old.networks n taken line old.parts new.parts filled so takes.takes;
        same_networks = takes.same_networks;
      }
]

pub all_lines : (n : ℕ) (old new : LinesSoFar) (lines : List (List ℕ)) (output : List ℕ) (refusals : ℕ) (taken : Taken) → ServesLines TakesLine n old lines output refusals new → Follows taken old.parts → HasTaken old new (with_lines old.networks n taken lines)
all_lines n old new [] output refusals taken served so = record {
  parts = subst (λ (s : LinesSoFar). Follows taken s.parts) (sym served.2) so;
  same_networks = ap (λ (s : LinesSoFar). s.networks) served.2;
}
all_lines n old new (line ∷ lines) output refusals taken served so =
    let mid : LinesSoFar = served.4 in
    let first : HasTaken old mid (with_line old.networks n taken line) = one_line n old mid line served.0 served.2 taken served.5 so in
    let later : HasTaken mid new (with_lines mid.networks (n + 1) (with_line old.networks n taken line) lines) =
    all_lines (n + 1) mid new lines served.1 served.3 (with_line old.networks n taken line) served.6 first.parts in
    record {
      parts = subst (λ (k : ℕ). Follows (with_lines k (n + 1) (with_line old.networks n taken line) lines) new.parts) first.same_networks later.parts;
      same_networks = later.same_networks ∙ first.same_networks;
    }
