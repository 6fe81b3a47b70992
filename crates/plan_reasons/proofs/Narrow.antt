-- Counts of which one is no greater than the other.
use Rattle.std.proofs.Common.{◌≡◌, ◌≤◌, ℕ, Bool, true, false, cond, List, [], ◌∷◌, refl, arith}
use Rattle.std.specs.Prelude.{◌↔◌, IsTrue}
use Rattle.std.specs.List.{AllZip, count_by}
use Rattle.std.proofs.lemmas.List.Sums.{sum_by-cons}
use Rattle.wagons_and_orders.specs.declared.free_wagon.FreeWagon.{FreeWagon}
use Rattle.wagons_and_orders.specs.Suits.{Suits}
use Rattle.plan_reasons.specs.declared.reasons.Counts.{Counts}
use Rattle.plan_reasons.specs.Reasons.{HasWay, IsCheaper, IsCount, IsInTime, IsOfClass}
use Rattle.plan_reasons.specs.Laws.{CountsAreSettled, TestsNarrow}
use Rattle.plan_reasons.proofs.Counted.{counted_within}

mark_le : (wide narrow : Bool) → (narrow ≡ true → wide ≡ true) → cond narrow 1 0 ≤ cond wide 1 0
mark_le true true h = omega arith
mark_le true false h = omega arith
mark_le false true h = let no : false ≡ true = h refl in cc
mark_le false false h = omega arith

module _ (IsWide IsNarrow : FreeWagon → Type 0) (within : (wagon : FreeWagon) → IsNarrow wagon → IsWide wagon) where
  marks_le : (wagons : List FreeWagon) (wide narrow : List Bool) → AllZip (λ wagon mark. IsTrue mark ↔ IsWide wagon) wagons wide → AllZip (λ wagon mark. IsTrue mark ↔ IsNarrow wagon) wagons narrow
      → count_by (λ mark. mark) narrow ≤ count_by (λ mark. mark) wide
  marks_le [] [] [] p q = omega arith
  marks_le [] [] (n ∷ ns) p q = absurd q
  marks_le [] (w ∷ ws) ns p q = absurd p
  marks_le (x ∷ xs) [] ns p q = absurd p
  marks_le (x ∷ xs) (w ∷ ws) [] p q = absurd q
  marks_le (x ∷ xs) (w ∷ ws) (n ∷ ns) p q =
      let first = mark_le w n (λ yes. p.0.1 (within x (q.0.0 yes))) in
      let rest = marks_le xs ws ns p.1 q.1 in
      omega (arith, first, rest, sum_by-cons (λ (mark : Bool). cond mark 1 0) w ws, sum_by-cons (λ (mark : Bool). cond mark 1 0) n ns)

  pub no_more : (wagons : List FreeWagon) (wide narrow : ℕ) → IsCount IsWide wagons wide → IsCount IsNarrow wagons narrow → narrow ≤ wide
  no_more wagons wide narrow p q = omega (arith, marks_le wagons p.marks q.marks p.each q.each, p.count, q.count)

same_mark : (wide narrow : Bool) → (let n : ℕ = cond narrow 1 0 in let w : ℕ = cond wide 1 0 in n ≡ w) → wide ≡ true → narrow ≡ true
same_mark true true h marked = refl
same_mark true false h marked = absurd (omega (arith, h))
same_mark false narrow h marked = cc

-- where a wider and a narrower test are passed by as many wagons, so is one between them
module _ (IsWide IsMiddle IsNarrow : FreeWagon → Type 0) (wider : (wagon : FreeWagon) → IsMiddle wagon → IsWide wagon) (narrower : (wagon : FreeWagon) → IsNarrow wagon → IsMiddle wagon) where
  between : (wagons : List FreeWagon) (wide narrow : List Bool) → AllZip (λ wagon mark. IsTrue mark ↔ IsWide wagon) wagons wide → AllZip (λ wagon mark. IsTrue mark ↔ IsNarrow wagon) wagons narrow
      → count_by (λ mark. mark) narrow ≡ count_by (λ mark. mark) wide → AllZip (λ wagon mark. IsTrue mark ↔ IsMiddle wagon) wagons wide
  between [] [] narrow p q same = tt
  between [] (w ∷ ws) narrow p q same = absurd p
  between (x ∷ xs) [] narrow p q same = absurd p
  between (x ∷ xs) (w ∷ ws) [] p q same = absurd q
  between (x ∷ xs) (w ∷ ws) (n ∷ ns) p q same =
      let within : (wagon : FreeWagon) → IsNarrow wagon → IsWide wagon = λ wagon is. wider wagon (narrower wagon is) in
      let first = mark_le w n (λ yes. p.0.1 (within x (q.0.0 yes))) in
      let rest = marks_le IsWide IsNarrow within xs ws ns p.1 q.1 in
      let one = sum_by-cons (λ (mark : Bool). cond mark 1 0) w ws in
      let other = sum_by-cons (λ (mark : Bool). cond mark 1 0) n ns in (
        (λ yes. narrower x (q.0.0 (same_mark w n (omega (arith, first, rest, one, other, same)) yes)), λ middle. p.0.1 (wider x middle)),
        between xs ws ns p.1 q.1 (omega (arith, first, rest, one, other, same)),
      )

  pub same_between : (wagons : List FreeWagon) (n m : ℕ) → n ≡ m → IsCount IsWide wagons n → IsCount IsNarrow wagons m → IsCount IsMiddle wagons n
  same_between wagons n m same wide narrow = record {
    marks = wide.marks;
    each = between wagons wide.marks narrow.marks wide.each narrow.each (omega (arith, same, wide.count, narrow.count));
    count = wide.count;
  }

-- a count is one number
one_count : (IsSo : FreeWagon → Type 0) (wagons : List FreeWagon) (n m : ℕ) → IsCount IsSo wagons n → IsCount IsSo wagons m → n ≡ m
one_count IsSo wagons n m p q = omega (arith, no_more IsSo IsSo (λ wagon h. h) wagons n m p q, no_more IsSo IsSo (λ wagon h. h) wagons m n q p)

counts : (class load way in_time cheaper : ℕ) → Counts
counts class load way in_time cheaper = record { class = class; load = load; way = way; in_time = in_time; cheaper = cheaper }

same_counts : (a a' b b' c c' d d' e e' : ℕ) → a ≡ a' → b ≡ b' → c ≡ c' → d ≡ d' → e ≡ e' → counts a b c d e ≡ counts a' b' c' d' e'
same_counts a a' b b' c c' d d' e e' p q r s t = cc

pub counts_are_settled : CountsAreSettled
unfolding counts
counts_are_settled net at wagons order one other p q =
    let class = one_count (λ (w : FreeWagon). IsOfClass w order) wagons one.class other.class p.class q.class in
    let load = one_count (λ (w : FreeWagon). Suits w order) wagons one.load other.load p.load q.load in
    let way = one_count (λ (w : FreeWagon). HasWay net w order) wagons one.way other.way p.way q.way in
    let in_time = one_count (λ (w : FreeWagon). IsInTime net at w order) wagons one.in_time other.in_time p.in_time q.in_time in
    let cheaper = one_count (λ (w : FreeWagon). IsCheaper net at w order) wagons one.cheaper other.cheaper p.cheaper q.cheaper in
    same_counts one.class other.class one.load other.load one.way other.way one.in_time other.in_time one.cheaper other.cheaper class load way in_time cheaper

pub tests_narrow : TestsNarrow
tests_narrow net at wagons order counts are =
    let class = λ (w : FreeWagon). IsOfClass w order in
    let load = λ (w : FreeWagon). Suits w order in
    let way = λ (w : FreeWagon). HasWay net w order in
    let in_time = λ (w : FreeWagon). IsInTime net at w order in
    let cheaper = λ (w : FreeWagon). IsCheaper net at w order in
    record {
      class = counted_within class wagons counts.class are.class;
      load = no_more class load (λ wagon suits. suits.class) wagons counts.class counts.load are.class are.load;
      way = no_more load way (λ wagon has. has.suits) wagons counts.load counts.way are.load are.way;
      in_time = no_more way in_time (λ wagon r. record { suits = r.1.suits; way = (r.0, r.1.minutes); distance = r.1.distance }) wagons counts.way counts.in_time are.way are.in_time;
      cheaper = no_more in_time cheaper (λ wagon r. (r.km, r.reaches)) wagons counts.in_time counts.cheaper are.in_time are.cheaper;
    }
