-- What a group's two numbers say of its distance.
use Rattle.std.proofs.Common.{◌≡◌, ◌+◌, ◌<◌, ℕ, zero, suc, get_or, refl, ◌∙◌, ap, arith}
use Rattle.assignment.specs.declared.search.Search.{Search}
use Rattle.assignment.specs.inner.State.{Kept}
use Rattle.assignment.specs.inner.Search.{ahead_of, closed_of, group_at, label_of, label_at}

pub label_closed : (ahead closed : ℕ) → ahead ≡ 0 → label_of ahead closed ≡ closed
label_closed zero closed e = refl
label_closed (suc l) closed e = absurd (omega (arith, e))

pub label_open : (ahead closed : ℕ) → 0 < ahead → label_of ahead closed + 1 ≡ ahead
label_open zero closed l = absurd (omega (arith, l))
label_open (suc n) closed l = omega arith

-- the groups' numbers are the same
pub record HaveSameLabels (f f' : Search) : Type 0 where
  pub ahead : f'.ahead.items ≡ f.ahead.items
  pub closed : f'.closed_at.items ≡ f.closed_at.items

pub ahead_same : (s : Kept) (f f' : Search) (i : ℕ) → HaveSameLabels f f' → ahead_of f' (group_at s i) ≡ ahead_of f (group_at s i)
ahead_same s f f' i same = ap (λ y. get_or y (group_at s i) 0) same.ahead

pub closed_same : (s : Kept) (f f' : Search) (i : ℕ) → HaveSameLabels f f' → closed_of f' (group_at s i) ≡ closed_of f (group_at s i)
closed_same s f f' i same = ap (λ y. get_or y (group_at s i) 0) same.closed

pub label_same : (s : Kept) (f f' : Search) (i : ℕ) → HaveSameLabels f f' → label_at s f' i ≡ label_at s f i
label_same s f f' i same = ap (λ y. label_of y (closed_of f' (group_at s i))) (ahead_same s f f' i same) ∙ ap (λ y. label_of (ahead_of f (group_at s i)) y) (closed_same s f f' i same)
