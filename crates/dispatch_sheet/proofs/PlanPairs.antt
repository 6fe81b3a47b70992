-- The pairs of a plan, which ascend by order: those of one order stand together.
use Rattle.std.proofs.Common.{◌≡◌, ◌+◌, ◌<◌, ◌≤◌, ℕ, suc, List, [], ◌∷◌, ◌++◌, ◌-◌, length, take, drop, Bool, true, false, cond, leb, refl, sym, ap, ap₂, ◌∙◌, inl, inr, arith}
use Rattle.std.specs.Prelude.{◌==◌, filter, replicate}
use Rattle.std.specs.List.{concat, flat_map, prefix_len}
use Rattle.std.proofs.lemmas.Bool.{cases_lt, cases_eq, ne_eqb, eq-eqb, le-leb, lt-leb}
use Rattle.std.proofs.lemmas.List.Sums.{length-filter}
use Rattle.cost_table.specs.Plan.{serves, AllAllowed, IsAllowed}
use Rattle.cost_table.specs.PlanList.{IsAscendingPlan, IsAscendingFrom, IsPlanList, Precedes}
use Rattle.cost_table.specs.Problem.{ProblemValue}
use Rattle.cost_table.specs.Table.{lack_at, Table}
use Rattle.dispatch_sheet.specs.PlanText.{assign_line, order_lines, refuse_line}
use Rattle.dispatch_sheet.specs.inner.PairLines.{lines_of_pairs}

-- the pairs of order j; those of it and of the later orders
abbrev pub pairs_at : ℕ → List (ℕ × ℕ) → List (ℕ × ℕ)
pairs_at j pairs = filter (λ (p : ℕ × ℕ). p.1 == j) pairs

abbrev pub pairs_from : ℕ → List (ℕ × ℕ) → List (ℕ × ℕ)
pairs_from j pairs = filter (λ (p : ℕ × ℕ). leb j p.1) pairs

-- how many at the front go to order j
abbrev pub count_at : ℕ → List (ℕ × ℕ) → ℕ
count_at j pairs = prefix_len (λ (p : ℕ × ℕ). p.1 == j) pairs

not_below : (p q : ℕ × ℕ) → Precedes p q → p.1 ≤ q.1
not_below p q (inl l) = omega arith
not_below p q (inr l) = let e = l.0 in omega arith

ascends_behind : (p : ℕ × ℕ) (pairs : List (ℕ × ℕ)) → IsAscendingFrom p pairs → IsAscendingPlan pairs
ascends_behind p [] h = tt
ascends_behind p (q ∷ pairs) h = h.1

one_more : (n : ℕ) → 1 + n ≡ suc n
one_more n = omega arith

-- behind a pair of a later order none goes to order j, and behind one of an order from k on all do
none_at : (j : ℕ) (p : ℕ × ℕ) (pairs : List (ℕ × ℕ)) → j < p.1 → IsAscendingFrom p pairs → pairs_at j pairs ≡ []
none_at j p [] l h = refl
none_at j p (q ∷ pairs) l h =
    let m : j < q.1 = omega (arith, not_below p q h.0) in
    rw (ne_eqb q.1 j (λ e. omega arith)) (none_at j q pairs m h.1)

all_from : (k : ℕ) (p : ℕ × ℕ) (pairs : List (ℕ × ℕ)) → k ≤ p.1 → IsAscendingFrom p pairs → pairs_from k pairs ≡ pairs
all_from k p [] l h = refl
all_from k p (q ∷ pairs) l h =
    let m : k ≤ q.1 = omega (arith, not_below p q h.0) in
    rw (le-leb k q.1 m) (ap (λ more. q ∷ more) (all_from k q pairs m h.1))

-- of the pairs from order j on, those at the front that go to it are all its pairs
front_at : (j : ℕ) (pairs : List (ℕ × ℕ)) → IsAscendingPlan pairs → take (count_at j (pairs_from j pairs)) (pairs_from j pairs) ≡ pairs_at j pairs
front_at j [] h = refl
front_at j (p ∷ pairs) h =
    elim (cases_lt p.1 j) [
      | inl before ↦ rw (lt-leb j p.1 before) (rw (ne_eqb p.1 j (λ e. omega arith)) (front_at j pairs (ascends_behind p pairs h)))
      | inr from ↦
          elim (cases_eq p.1 j) [
            | inl same ↦ rw (le-leb j p.1 from) (rw (eq-eqb p.1 j same) (rw (one_more (count_at j (pairs_from j pairs))) (ap (λ more. p ∷ more) (front_at j pairs (ascends_behind p pairs h)))))
            | inr other ↦ rw (le-leb j p.1 from) (rw (ne_eqb p.1 j other) (sym (none_at j p pairs (omega (arith, other)) h)))
          ]
    ]

-- and the others are those from the next order on
behind_at : (j : ℕ) (pairs : List (ℕ × ℕ)) → IsAscendingPlan pairs → drop (count_at j (pairs_from j pairs)) (pairs_from j pairs) ≡ pairs_from (j + 1) pairs
behind_at j [] h = refl
behind_at j (p ∷ pairs) h =
    elim (cases_lt p.1 j) [
      | inl before ↦ rw (lt-leb j p.1 before) (rw (lt-leb (j + 1) p.1 (omega arith)) (behind_at j pairs (ascends_behind p pairs h)))
      | inr from ↦
          elim (cases_eq p.1 j) [
            | inl same ↦ rw (le-leb j p.1 from) (rw (eq-eqb p.1 j same) (rw (one_more (count_at j (pairs_from j pairs))) (rw (lt-leb (j + 1) p.1 (omega arith)) (behind_at j pairs (ascends_behind p pairs h)))))
            | inr other ↦
                let l : j + 1 ≤ p.1 = omega (arith, other) in
                rw (le-leb j p.1 from) (rw (ne_eqb p.1 j other) (rw (le-leb (j + 1) p.1 l) (ap (λ more. p ∷ more) (all_from j p pairs from h ∙ sym (all_from (j + 1) p pairs l h)))))
          ]
    ]

-- the same of a list that was parted there
pub parted : (j n : ℕ) (pairs rest mine later : List (ℕ × ℕ)) → IsPlanList pairs → rest ≡ pairs_from j pairs → n ≡ count_at j rest → mine ≡ take n rest → later ≡ drop n rest
    → (mine ≡ pairs_at j pairs) × (later ≡ pairs_from (j + 1) pairs)
parted j n pairs rest mine later kept is_rest is_n front behind = (
  front ∙ ap (λ m. take m rest) is_n ∙ ap (λ xs. take (count_at j xs) xs) is_rest ∙ front_at j pairs kept.ascending,
  behind ∙ ap (λ m. drop m rest) is_n ∙ ap (λ xs. drop (count_at j xs) xs) is_rest ∙ behind_at j pairs kept.ascending,
)

-- no more than the plan gives the order
pub length-mine : (j : ℕ) (pairs mine : List (ℕ × ℕ)) → mine ≡ pairs_at j pairs → length mine ≡ serves j pairs
length-mine j pairs mine is = ap length is ∙ length-filter (λ (p : ℕ × ℕ). p.1 == j) pairs

-- the lines of the order
pub lines-mine : (problem : ProblemValue) (t : Table) (j : ℕ) (pairs mine : List (ℕ × ℕ)) → mine ≡ pairs_at j pairs → lines_of_pairs problem t mine j ≡ order_lines problem t pairs j
lines-mine problem t j pairs mine is =
    ap₂ (λ (xs : List (ℕ × ℕ)) (n : ℕ). flat_map (assign_line problem t) xs ++ concat (replicate (lack_at t j - n) (refuse_line problem t j))) is (length-mine j pairs mine is)

-- all are from order 0 on
pub pairs_from_0 : (pairs : List (ℕ × ℕ)) → pairs ≡ pairs_from 0 pairs
pairs_from_0 [] = refl
pairs_from_0 (p ∷ pairs) = rw (le-leb 0 p.1 (omega arith)) (ap (λ more. p ∷ more) (pairs_from_0 pairs))

-- pairs of one order are allowed
allowed_choose : (t : Table) (b : Bool) (p : ℕ × ℕ) (pairs : List (ℕ × ℕ)) → IsAllowed t p → AllAllowed t pairs → AllAllowed t (cond b (p ∷ pairs) pairs)
allowed_choose t true p pairs a h = (a, h)
allowed_choose t false p pairs a h = h

pub AllAllowed-at : (t : Table) (j : ℕ) (pairs : List (ℕ × ℕ)) → AllAllowed t pairs → AllAllowed t (pairs_at j pairs)
AllAllowed-at t j [] h = tt
AllAllowed-at t j (p ∷ pairs) h = allowed_choose t (p.1 == j) p (pairs_at j pairs) h.0 (AllAllowed-at t j pairs h.1)
