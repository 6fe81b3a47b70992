-- A list in memory whose elements are written again as they were is the same.
use Rattle.std.proofs.Common.{◌≡◌, ◌∙◌, ◌≤◌, List, length, sym, ap, Vec}
use Rattle.std.specs.Vec.{with_items}
use Rattle.std.proofs.lemmas.List.{with_items_is}
use mathlib.Core.HLevel.{is_prop→PathP}
use native.Mathlib.Nat.{ℕ_set}
use native.Mathlib.Bridge.{le_prop}

pub with_same : {X Z : Type 0} (v : Vec X Z) (ws : List X) → ws ≡ v.items → with_items v ws ≡ v
with_same v ws h =
    let items : (with_items v ws).items ≡ v.items = with_items_is v ws (ap (λ xs. length xs) h ∙ sym v.ok.0) ∙ h in
    λ i. record {
      ptr = v.ptr;
      len = v.len;
      cap = v.cap;
      alloc = v.alloc;
      items = items i;
      ok = is_prop→PathP (λ j. (v.len ≡ length (items j)) × (v.len ≤ v.cap)) (λ j x y k. (ℕ_set _ _ x.0 y.0 k, le_prop x.1 y.1 k)) (with_items v ws).ok v.ok i;
      small = v.small;
    }
