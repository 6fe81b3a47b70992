use Rattle.std.proofs.Common.{◌≡◌, ◌≢◌, ◌+◌, ◌*◌, ◌<◌, ◌≤◌, ℕ, zero, suc, cond, List, [], ◌∷◌, ◌++◌, Option, None, length, get_or, take, refl, sym, ◌∙◌, ap, arith, inl, inr, subst}
use Rattle.std.specs.Prelude.{◌==◌}
use Rattle.std.specs.List.{All}
use Rattle.std.specs.List.Sorted.{IsPermutation}
use Rattle.std.proofs.lemmas.Bool.{cases_eq}
use Rattle.std.proofs.lemmas.Bool.Decides.{nat_tests}
use Rattle.std.proofs.lemmas.List.{take_more, take_all}
use Rattle.std.proofs.lemmas.List.Sums.{sum_by-cons, sum_by-append}
use Rattle.std.proofs.lemmas.List.Elements.{All-push, All-weaker}
use Rattle.std.proofs.lemmas.List.Sorted.{All-permutation, sum_by-IsPermutation}
use Rattle.cost_table.specs.Table.{Table, lack_at, order_count}
use Rattle.assignment.specs.inner.State.{Kept, AreCounted, AreServed, order_at, served, has_order, more}
use Rattle.assignment.specs.inner.Sequence.{times, IsSequence, taken_in}
use Rattle.assignment.proofs.Unit.{counted_same, more_none}

abbrev is_of : ℕ → ℕ × ℕ → ℕ
is_of k entry = cond (entry.1 == k) 1 0

times_push : (k : ℕ) (xs : List (ℕ × ℕ)) (x : ℕ × ℕ) → times k (xs ++ x ∷ []) ≡ times k xs + is_of k x
times_push k xs x =
    let split = sum_by-append (is_of k) xs (x ∷ []) in
    let last = sum_by-cons (is_of k) x [] in
    omega (arith, split, last)

-- the orders below j, each once
pub record IsBegun (j : ℕ) (xs : List (ℕ × ℕ)) : Type 0 where
  pub within : All (λ (entry : ℕ × ℕ). entry.1 < j) xs
  pub once : (k : ℕ) → k < j → times k xs ≡ 1
  pub none : (k : ℕ) → j ≤ k → times k xs ≡ 0

of_other : (k : ℕ) (x : ℕ × ℕ) → x.1 ≢ k → is_of k x ≡ 0
of_other k x other = grind (arith, nat_tests, other)

of_same : (k : ℕ) (x : ℕ × ℕ) → x.1 ≡ k → is_of k x ≡ 1
of_same k x same = grind (arith, nat_tests, same)

pub begun_more : (j price : ℕ) (xs xs' : List (ℕ × ℕ)) → IsBegun j xs → xs' ≡ xs ++ (price, j) ∷ [] → IsBegun (j + 1) xs'
begun_more j price xs xs' h e =
    let step : (k : ℕ) → times k xs' ≡ times k xs + is_of k (price, j) = λ k. ap (times k) e ∙ times_push k xs (price, j) in
    record {
      within = rw e (All-push (λ (entry : ℕ × ℕ). entry.1 < j + 1) xs (price, j) (All-weaker (λ (entry : ℕ × ℕ). entry.1 < j) (λ (entry : ℕ × ℕ). entry.1 < j + 1) (λ x l. omega (arith, l)) xs h.within) (omega arith));
      once = λ k l. elim (cases_eq k j) [
        | inl same ↦ let none = h.none k (omega (arith, same)) in let one = of_same k (price, j) (sym same) in let s = step k in omega (arith, s, none, one)
        | inr other ↦ let was = h.once k (omega (arith, l, other)) in let zero_more = of_other k (price, j) (λ e. other (sym e)) in let s = step k in omega (arith, s, was, zero_more)
      ];
      none = λ k l. let was = h.none k (omega (arith, l)) in let zero_more = of_other k (price, j) (λ e. omega (arith, l, e)) in let s = step k in omega (arith, s, was, zero_more);
    }

pub begun_all : (j n : ℕ) (xs : List (ℕ × ℕ)) → IsBegun j xs → j ≡ n → IsSequence n xs
begun_all j n xs h e = subst (λ (x : ℕ). IsSequence x xs) e (record { within = h.within; once = h.once })

-- a permutation of a sequence is one
pub sequence_permuted : (n : ℕ) (xs ys : List (ℕ × ℕ)) → IsPermutation xs ys → IsSequence n xs → IsSequence n ys
sequence_permuted n xs ys p h = record {
  within = All-permutation (λ (entry : ℕ × ℕ). entry.1 < n) xs ys p h.within;
  once = λ k l. sum_by-IsPermutation (is_of k) xs ys p ∙ h.once k l;
}

more-at : (k : ℕ) (taken : ℕ → ℕ) (n : ℕ) → more k n taken k ≡ taken k + n
more-at k taken n = grind (arith, nat_tests)

more-other : (j k n : ℕ) (taken : ℕ → ℕ) → k ≢ j → more j n taken k ≡ taken k
more-other j k n taken other = grind (arith, nat_tests, other)

one_time : (a b : ℕ) → (a + 1) * b ≡ a * b + b
one_time a b = grind arith

no_time : (a b : ℕ) → (a + 0) * b ≡ a * b
no_time a b = grind arith

-- one more order is whole
taken_next : (t : Table) (done : List (ℕ × ℕ)) (entry : ℕ × ℕ) (k : ℕ) → taken_in t (done ++ entry ∷ []) k ≡ more entry.1 (lack_at t entry.1) (taken_in t done) k
taken_next t done entry k = elim (cases_eq k entry.1) [
  | inl same ↦
      let j = entry.1 in
      let here : times j (done ++ entry ∷ []) ≡ times j done + 1 = times_push j done entry ∙ ap (λ n. times j done + n) (of_same j entry refl) in
      subst (λ (x : ℕ). taken_in t (done ++ entry ∷ []) x ≡ more j (lack_at t j) (taken_in t done) x) (sym same)
      (ap (λ n. n * lack_at t j) here ∙ one_time (times j done) (lack_at t j) ∙ sym (more-at j (taken_in t done) (lack_at t j)))
  | inr other ↦
      let there : times k (done ++ entry ∷ []) ≡ times k done + 0 = times_push k done entry ∙ ap (λ n. times k done + n) (of_other k entry (λ e. other (sym e))) in
      ap (λ n. n * lack_at t k) there ∙ no_time (times k done) (lack_at t k) ∙ sym (more-other entry.1 k (lack_at t entry.1) (taken_in t done) other)
]

pub counted_entry : (s : Kept) (sequence : List (ℕ × ℕ)) (x : ℕ) → x < length sequence → AreCounted s (more (get_or sequence x (0, 0)).1 (lack_at s.table (get_or sequence x (0, 0)).1) (taken_in s.table (take x sequence))) → AreCounted s (taken_in s.table (take (x + 1) sequence))
counted_entry s sequence x l c =
    counted_same s _ (taken_in s.table (take (x + 1) sequence)) (λ k lk. ap (λ ys. taken_in s.table ys k) (take_more sequence x (0, 0) l) ∙ taken_next s.table (take x sequence) (get_or sequence x (0, 0)) k) c

once_is : (a b : ℕ) → a ≡ 1 → a * b ≡ b
once_is a b e = grind (arith, e)

-- when all are whole
pub all_taken : (t : Table) (sequence : List (ℕ × ℕ)) (x k : ℕ) → IsSequence (order_count t) sequence → length sequence ≤ x → k < order_count t → taken_in t (take x sequence) k ≡ lack_at t k
all_taken t sequence x k h l lk = ap (λ ys. taken_in t ys k) (take_all x sequence l) ∙ once_is (times k sequence) (lack_at t k) (h.once k lk)

pub counted_none : (s : Kept) (j : ℕ) (taken : ℕ → ℕ) → AreCounted s taken → AreCounted s (more j 0 taken)
counted_none s j taken c = counted_same s taken (more j 0 taken) (λ k lk. more_none j k taken) c

served_none : (k : ℕ) (order_of : List (Option ℕ)) → ((i : ℕ) → order_at order_of i ≡ None) → served k order_of ≡ 0
served_none k [] none = refl
served_none k (o ∷ os) none =
    let rest = served_none k os (λ i. none (suc i)) in
    let cons = sum_by-cons (λ (q : Option ℕ). cond (has_order k q) 1 0) o os in
    let first : cond (has_order k o) 1 0 ≡ zero = ap (λ (q : Option ℕ). cond (has_order k q) 1 0) (none 0) in
    omega (arith, rest, cons, first)

-- no unit is taken in yet
pub counted_begun : (s : Kept) → ((i : ℕ) → order_at s.order_of i ≡ None) → AreCounted s (λ k. 0)
counted_begun s none = record {
  within = λ k lk. let z = served_none k s.order_of none in omega (arith, z);
  refused = λ k lk less. absurd (omega (arith, less));
}

pub served_begun : (orders : ℕ) (order_of : List (Option ℕ)) (numbers : List ℕ) → length numbers ≡ orders → ((k : ℕ) → get_or numbers k 0 ≡ 0) → ((i : ℕ) → order_at order_of i ≡ None) → AreServed orders order_of numbers
served_begun orders order_of numbers count zeros none = record {
  count = count;
  each = λ k l. zeros k ∙ sym (served_none k order_of none);
}
