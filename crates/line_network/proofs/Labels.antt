-- Labels of places: how they compare, and what lowering one changes.
use Rattle.std.proofs.Common.{◌≡◌, ◌+◌, ◌*◌, ◌^◌, ◌<◌, ◌≤◌, true, false, arith, Some, None, Option, inl, inr}
use Rattle.std.proofs.lemmas.Bool.{cases_eq}
use Rattle.std.proofs.lemmas.Bool.Decides.{nat_tests}
use Rattle.line_network.specs.declared.line.Line.{Line}
use Rattle.line_network.specs.inner.Lengths.{Distance}
use Rattle.line_network.specs.inner.Search.{plus_line, LabelAtMost, LabelAbove, IsBelow, is_label_below, label_weight}

below_true : (d e : Distance) → is_label_below d (Some e) ≡ true → IsBelow e d
below_true d e h = grind (arith, nat_tests)

true_below : (d e : Distance) → IsBelow e d → is_label_below d (Some e) ≡ true
true_below d e h = grind (arith, nat_tests)

IsBelow-trans : (d e f : Distance) → IsBelow d e → IsBelow e f → IsBelow d f
IsBelow-trans d e f h k = (omega arith, λ s. omega arith)

IsBelow-asym : (d e : Distance) → IsBelow d e → IsBelow e d → ⊥
IsBelow-asym d e h k = let s : d.km ≡ e.km = omega arith in let m : d.minutes < e.minutes = h.1 s in let n : e.minutes < d.minutes = k.1 (omega arith) in omega arith

pub IsBelow-plus_line : (d : Distance) (l : Line) → 1 ≤ l.km → IsBelow d (plus_line d l)
IsBelow-plus_line d l h = (omega arith, λ s. omega arith)

-- no pair lies below itself
pub not_below_itself : (d : Distance) → is_label_below d (Some d) ≡ false
not_below_itself d = grind (arith, nat_tests)

-- where a label falls, it stays below what it was below
pub fallen_below : (o : Option Distance) (p e : Distance) → LabelAbove o p → is_label_below e o ≡ true → is_label_below e (Some p) ≡ true
fallen_below None p e h k = absurd (let s : false ≡ true = k in cc)
fallen_below (Some x) p e h k = true_below e p (IsBelow-trans p x e h (below_true e x k))

-- a label above a pair isn't below a lower one
pub not_below : (o : Option Distance) (d p : Distance) → LabelAbove o p → IsBelow d p → is_label_below d o ≡ true → ⊥
not_below None d p h b k = let s : false ≡ true = k in cc
not_below (Some x) d p h b k = IsBelow-asym d x (IsBelow-trans d p x b h) (below_true d x k)

pub below_more : (o : Option Distance) (d p : Distance) → IsBelow d p → is_label_below d o ≡ true → is_label_below p o ≡ true
below_more None d p b k = absurd (let s : false ≡ true = k in cc)
below_more (Some x) d p b k = true_below p x (IsBelow-trans x d p (below_true d x k) b)

pub is_below_itself_more : (d p : Distance) → IsBelow d p → is_label_below p (Some d) ≡ true
is_below_itself_more d p b = true_below p d b

-- a pair isn't above a higher one
pub not_above : (d p : Distance) → IsBelow d p → LabelAbove (Some d) p → ⊥
not_above d p b h = IsBelow-asym d p b h

-- where a label falls, it stays at most what it was at most
pub LabelAtMost-fallen : (o : Option Distance) (p e : Distance) → LabelAbove o p → LabelAtMost o e → LabelAtMost (Some p) e
LabelAtMost-fallen None p e h k = absurd k
LabelAtMost-fallen (Some x) p e h k = (omega arith, λ s. omega arith)

pub LabelAtMost-itself : (p : Distance) → LabelAtMost (Some p) p
LabelAtMost-itself p = (omega arith, λ s. omega arith)

weight_falls : (p x : Distance) → p.minutes < 2 ^ 32 → IsBelow p x → p.km * 2 ^ 32 + p.minutes < x.km * 2 ^ 32 + x.minutes
weight_falls p x m h = elim (cases_eq p.km x.km) [ inl s ↦ (let n : p.minutes < x.minutes = h.1 s in omega arith) | inr s ↦ omega arith ]

-- where a label falls, less is left to do
pub label_weight-falls : (o : Option Distance) (p : Distance) → p.km < 2 ^ 32 → p.minutes < 2 ^ 32 → LabelAbove o p → label_weight (Some p) < label_weight o
label_weight-falls None p k m h = omega arith
label_weight-falls (Some x) p k m h = weight_falls p x m h
