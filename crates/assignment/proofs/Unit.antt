use Rattle.std.proofs.Common.{◌≡◌, ◌+◌, ◌<◌, ℕ, List, Option, Some, None, get_or, ◌∙◌, ap, arith, inl, inr, subst}
use Rattle.std.proofs.lemmas.Bool.{cases_eq, cases_lt}
use Rattle.std.proofs.lemmas.Bool.Decides.{nat_tests}
use Rattle.cost_table.specs.Table.{penalty_at, order_count}
use Rattle.assignment.specs.declared.search.Search.{Search}
use Rattle.assignment.specs.inner.State.{Kept, IsKept, IsEndAt, AreCounted, served, more}
use Rattle.assignment.specs.inner.Search.{IsShortestPath, distance_at, settled_at}
use Rattle.assignment.specs.inner.Path.{one_if, given_up, given_up_at}
use Rattle.assignment.proofs.Raised.{AreRaised, raised, priced_raised}

more-is : (j : ℕ) (taken : ℕ → ℕ) (k : ℕ) → more j 1 taken k ≡ taken k + one_if k (Some j)
more-is j taken k = elim (cases_eq k j) [
  | inl same ↦ grind (arith, nat_tests, same)
  | inr other ↦ grind (arith, nat_tests, other)
]

-- one unit more
pub more-one : (j units : ℕ) (taken : ℕ → ℕ) (k : ℕ) → more j (units + 1) taken k ≡ more j units taken k + one_if k (Some j)
more-one j units taken k = elim (cases_eq k j) [
  | inl same ↦ grind (arith, nat_tests, same)
  | inr other ↦ grind (arith, nat_tests, other)
]

one_if-same : (k q : ℕ) → 0 < one_if k (Some q) → q ≡ k
one_if-same k q h = elim (cases_eq q k) [
  | inl same ↦ same
  | inr other ↦ absurd (let z : one_if k (Some q) ≡ 0 = grind (arith, nat_tests, other) in omega arith)
]

-- the order that refuses a unit is at its penalty
refused_at : (s : Kept) (f : Search) (u v : List ℕ) (end : Option ℕ) (k : ℕ) → IsKept s → IsShortestPath s f → AreRaised s f u v → IsEndAt s (settled_at f f.end.index) (distance_at f (settled_at f f.end.index)) f.end.distance end → 0 < one_if k (given_up_at f end) → get_or v k 0 ≡ penalty_at s.table k
refused_at s f u v (Some w) k keeps h r end one = absurd (omega (arith, one))
refused_at s f u v None k keeps h r end one =
    let x = f.end.index in
    let lx = h.search.end.within h.some in
    let q = settled_at f x in
    let same : q ≡ k = one_if-same k q one in
    let lq : q < order_count s.table = h.search.settled.order x lx in
    let le = h.search.settled.near x lx in
    let front = h.search.end.beyond in
    let o = keeps.priced.orders in
    let a = r.orders q (omega (arith, lq, o)) in
    let here : get_or v q 0 ≡ penalty_at s.table q = omega (arith, le, front, a, end) in
    subst (λ (y : ℕ). get_or v y 0 ≡ penalty_at s.table y) same here

-- one more unit is taken in
pub counted_more : (s : Kept) (f : Search) (u v : List ℕ) (order_of : List (Option ℕ)) (j : ℕ) (taken : ℕ → ℕ) → IsKept s → IsShortestPath s f → AreRaised s f u v → settled_at f 0 ≡ j → ((k : ℕ) → served k order_of + one_if k (given_up f) ≡ served k s.order_of + one_if k (Some (settled_at f 0))) → AreCounted s taken → AreCounted (raised s u v order_of) (more j 1 taken)
counted_more s f u v order_of j taken keeps h r first count c =
    let priced = priced_raised s f u v order_of keeps h r in
    let counts : (k : ℕ) → served k order_of + one_if k (given_up f) ≡ served k s.order_of + one_if k (Some j) = λ k. count k ∙ ap (λ x. served k s.order_of + one_if k (Some x)) first in
    record {
      within = λ k lk. let a = counts k in let b = c.within k lk in let e = more-is j taken k in omega (arith, a, b, e);
      refused = λ k lk less.
          let a = counts k in
          let e = more-is j taken k in
          elim (cases_lt 0 (one_if k (given_up f))) [
            | inl one ↦ refused_at s f u v f.end.wagon k keeps h r (h.search.end.is h.some) one
            | inr none ↦
                let was = c.refused k lk (omega (arith, a, e, less, none)) in
                let o = keeps.priced.orders in
                let rise = r.orders k (omega (arith, lk, o)) in
                let below = priced.below_penalty k lk in
                omega (arith, was, rise, below)
          ];
    }

-- the counts hold of whatever is taken in alike
pub counted_same : (s : Kept) (taken taken' : ℕ → ℕ) → ((k : ℕ) → k < order_count s.table → taken' k ≡ taken k) → AreCounted s taken → AreCounted s taken'
counted_same s taken taken' same c = record {
  within = λ k lk. let e = same k lk in let w = c.within k lk in omega (arith, e, w);
  refused = λ k lk less. let e = same k lk in c.refused k lk (omega (arith, e, less));
}

pub more_none : (j k : ℕ) (taken : ℕ → ℕ) → more j 0 taken k ≡ taken k
more_none j k taken = elim (cases_eq k j) [
  | inl same ↦ grind (arith, nat_tests, same)
  | inr other ↦ grind (arith, nat_tests, other)
]
