use Rattle.std.proofs.Common.{◌≡◌, ◌≢◌, ◌+◌, ◌≤◌, ◌*◌, ℕ, Bool, true, false, cond, List, [], ◌∷◌, ◌++◌, Option, Some, None, length, take, drop, refl, sym, ap, arith, inl, inr}
use Rattle.std.specs.Prelude.{◌==◌}
use Rattle.std.proofs.lemmas.Bool.{cases_eq, cases_lt}
use Rattle.std.proofs.lemmas.List.{take-append-drop}
use Rattle.std.proofs.lemmas.List.Sums.{sum_by-cons, sum_by-append}
use Rattle.std.proofs.lemmas.Bool.Decides.{nat_tests}
use Rattle.cost_table.specs.Plan.{sum_below}
use Rattle.cost_table.proofs.Sums.{sum_below-same, sum_below-add, sum_below-zero, sum_below-at}
use Rattle.assignment.specs.inner.State.{has_order, served}
use Rattle.assignment.specs.inner.Path.{one_if}
use Rattle.assignment.specs.inner.Pairs.{pairs_of}

choose_push : (a b : Bool) (h y : ℕ × ℕ) (r r' : List (ℕ × ℕ)) → r' ≡ cond b (r ++ y ∷ []) r → cond a (h ∷ r') r' ≡ cond b (cond a (h ∷ r) r ++ y ∷ []) (cond a (h ∷ r) r)
choose_push true true h y r r' e = ap (λ x. h ∷ x) e
choose_push true false h y r r' e = ap (λ x. h ∷ x) e
choose_push false true h y r r' e = e
choose_push false false h y r r' e = e

abbrev one_pair : ℕ → ℕ → List (ℕ × ℕ)
one_pair i j = (i, j) ∷ []

choose_one : (b : Bool) (i k j : ℕ) → k ≡ i → cond b (one_pair i j) [] ≡ cond b (one_pair k j) []
choose_one b i k j e = ap (λ x. cond b (one_pair x j) []) (sym e)

-- the pairs of one order, one wagon further
pub pairs_of-push : (j i n : ℕ) (xs : List (Option ℕ)) (o : Option ℕ) → n ≡ i + length xs → pairs_of j i (xs ++ o ∷ []) ≡ cond (has_order j o) (pairs_of j i xs ++ (n, j) ∷ []) (pairs_of j i xs)
pairs_of-push j i n [] o e = choose_one (has_order j o) i n j (omega arith)
pairs_of-push j i n (x ∷ xs) o e =
    choose_push (has_order j x) (has_order j o) (i, j) (n, j) (pairs_of j (i + 1) xs) (pairs_of j (i + 1) (xs ++ o ∷ [])) (pairs_of-push j (i + 1) n xs o (omega arith))

pub served-take : (j i : ℕ) (order_of : List (Option ℕ)) → served j (take i order_of) ≤ served j order_of
served-take j i order_of =
    let a = sum_by-append (λ (q : Option ℕ). cond (has_order j q) 1 0) (take i order_of) (drop i order_of) in
    let e : served j (take i order_of ++ drop i order_of) ≡ served j order_of = ap (served j) (take-append-drop i order_of) in
    omega (arith, a, e)

pub is_order-same : (j : ℕ) → has_order j (Some j) ≡ true
is_order-same j = grind (arith, nat_tests)

pub is_order-other : (j : ℕ) (o : Option ℕ) → (o ≡ Some j → ⊥) → has_order j o ≡ false
is_order-other j None h = refl
is_order-other j (Some q) h = elim (cases_eq q j) [
  | inl same ↦ absurd (h (ap (λ x. Some x) same))
  | inr other ↦ grind (arith, nat_tests, other)
]

times_one : (x : ℕ) → x ≡ x * 1
times_one x = omega arith

-- a wagon's order is one of the orders below n at most once
pub one_below : (n : ℕ) (o : Option ℕ) → sum_below n (λ k. one_if k o) ≤ 1
one_below n None = let z = sum_below-zero n (λ k. one_if k None) (λ k l. refl) in omega arith
one_below n (Some q) =
    elim (cases_lt q n) [
      | inl less ↦
          let at : sum_below n (λ j. cond (q == j) 1 0 * 1) ≡ 1 = sum_below-at n q (λ j. 1) less in
          let same = sum_below-same n (λ k. one_if k (Some q)) (λ j. cond (q == j) 1 0 * 1) (λ k l. times_one (cond (q == k) 1 0)) in
          omega (arith, at, same)
      | inr more ↦
          let none = sum_below-zero n (λ k. one_if k (Some q)) (λ k l. let other : q ≢ k = omega arith in grind (arith, nat_tests, other)) in
          omega (arith, none)
    ]

pub one_if-test : (k : ℕ) (o : Option ℕ) → cond (has_order k o) 1 0 ≡ one_if k o
one_if-test k None = refl
one_if-test k (Some q) = refl

-- so no more wagons have orders than there are
pub served_below : (n : ℕ) (order_of : List (Option ℕ)) → sum_below n (λ k. served k order_of) ≤ length order_of
served_below n [] = let z = sum_below-zero n (λ k. 0) (λ k l. refl) in omega arith
served_below n (o ∷ os) =
    let rest = served_below n os in
    let one = one_below n o in
    let split = sum_below-same n (λ k. served k (o ∷ os)) (λ k. one_if k o + served k os) (λ k l. let c = sum_by-cons (λ (q : Option ℕ). cond (has_order k q) 1 0) o os in let t = one_if-test k o in omega (arith, c, t)) in
    let add = sum_below-add n (λ k. one_if k o) (λ k. served k os) in
    omega (arith, rest, one, split, add)
