-- A list in strict order stays so where one more stands behind those below it.
use Rattle.std.proofs.Common.{◌≡◌, ◌∙◌, ℕ, ◌+◌, Bool, true, false, cond, not, ◌||◌, List, [], ◌∷◌, ◌++◌, refl, ap, sym, subst, arith, count_by, zero, suc}
use Rattle.std.specs.List.{filter, insert, list_any, AllByRecursion}
use Rattle.std.specs.List.Sorted.{IsStrictlySortedBy}
use Rattle.std.specs.Cmp.{IsTotalOrder}
use Rattle.std.specs.Ordering.{is_lt, eq_by_cmp, ordering_reverse}
use Rattle.std.proofs.lemmas.List.Sums.{sum_by-cons}
use Rattle.std.specs.declared.cmp.Ordering.{Ordering}
use Rattle.std.specs.declared.cmp.Ordering.TheVariants.{Less, Equal, Greater}

-- how many of the list are below y
abbrev pub below : {K : Type 0} → (K → K → Ordering) → K → List K → ℕ
below R y xs = count_by (λ x. is_lt (R x y)) xs

-- the other way round
reversed : {K : Type 0} {R : K → K → Ordering} → IsTotalOrder R → (x y : K) (r : Ordering) → R x y ≡ r → R y x ≡ ordering_reverse r
reversed {R = R} o x y r e = o.antisymm y x ∙ ap ordering_reverse e

-- where y is below x, none of those above x is below y
none_below : {K : Type 0} {R : K → K → Ordering} → IsTotalOrder R → (x y : K) (xs : List K) → R y x ≡ Less → AllByRecursion (λ z. R x z ≡ Less) xs → below R y xs ≡ 0
none_below o x y [] e h = refl
none_below {R = R} o x y (z ∷ zs) e h =
    let above : R z y ≡ Greater = reversed o y z Less (o.trans y x z e h.0) in
    rw (above, none_below o x y zs e h.1) refl

all_above : {K : Type 0} {R : K → K → Ordering} → IsTotalOrder R → (x y : K) (xs : List K) → R y x ≡ Less → AllByRecursion (λ z. R x z ≡ Less) xs → AllByRecursion (λ z. R y z ≡ Less) xs
all_above o x y [] e h = tt
all_above o x y (z ∷ zs) e h = (o.trans y x z e h.0, all_above o x y zs e h.1)

all-insert : {K : Type 0} (P : K → Type 0) (xs : List K) (i : ℕ) (y : K) → AllByRecursion P xs → P y → AllByRecursion P (insert xs i y)
all-insert P xs zero y h p = (p, h)
all-insert P [] (suc i) y h p = (p, tt)
all-insert P (x ∷ xs) (suc i) y h p = (h.0, all-insert P xs i y h.1 p)

-- how many are below, by the first of the list
one_more : (o : Ordering) (n : ℕ) → o ≡ Less → cond (is_lt o) 1 0 + n ≡ suc n
one_more Less n e = omega arith
one_more Equal n e = cc e
one_more Greater n e = cc e

no_more : (o : Ordering) (n : ℕ) → o ≡ Greater → cond (is_lt o) 1 0 + n ≡ n
no_more Less n e = cc e
no_more Equal n e = cc e
no_more Greater n e = omega arith

below-cons : {K : Type 0} (R : K → K → Ordering) (y x : K) (xs : List K) → below R y (x ∷ xs) ≡ cond (is_lt (R x y)) 1 0 + below R y xs
below-cons R y x xs = sum_by-cons (λ z. cond (is_lt (R z y)) 1 0) x xs

sorted_step : {K : Type 0} {R : K → K → Ordering} → IsTotalOrder R → (y x : K) (xs : List K) (r : Ordering) → R x y ≡ r → eq_by_cmp R y x ≡ false
    → AllByRecursion (λ z. R x z ≡ Less) xs → IsStrictlySortedBy R xs → IsStrictlySortedBy R (insert xs (below R y xs) y) → IsStrictlySortedBy R (insert (x ∷ xs) (below R y (x ∷ xs)) y)
unfolding IsStrictlySortedBy
sorted_step {R = R} o y x xs Less e other above sorted later =
    subst (λ n. IsStrictlySortedBy R (insert (x ∷ xs) n y)) (sym (below-cons R y x xs ∙ one_more (R x y) (below R y xs) e)) (all-insert (λ z. R x z ≡ Less) xs (below R y xs) y above e, later)
sorted_step {R = R} o y x xs Equal e other above sorted later = let same : R y x ≡ Equal = reversed o x y Equal e in cc (rw same at other)
sorted_step {R = R} o y x xs Greater e other above sorted later =
    let less : R y x ≡ Less = reversed o x y Greater e in
    subst (λ n. IsStrictlySortedBy R (insert (x ∷ xs) n y)) (sym (below-cons R y x xs ∙ no_more (R x y) (below R y xs) e ∙ none_below o x y xs less above)) ((less, all_above o x y xs less above), (above, sorted))

any_first : (a b : Bool) → a || b ≡ false → a ≡ false
any_first true b h = h
any_first false b h = refl

any_later : (a b : Bool) → a || b ≡ false → b ≡ false
any_later true b h = cc h
any_later false b h = h

pub sorted-insert : {K : Type 0} {R : K → K → Ordering} → IsTotalOrder R → (y : K) (xs : List K) → list_any (eq_by_cmp R y) xs ≡ false → IsStrictlySortedBy R xs → IsStrictlySortedBy R (insert xs (below R y xs) y)
unfolding IsStrictlySortedBy
sorted-insert o y [] other sorted = (tt, tt)
sorted-insert {R = R} o y (x ∷ xs) other sorted =
    sorted_step o y x xs (R x y) refl (any_first _ _ other) sorted.0 sorted.1 (sorted-insert o y xs (any_later _ _ other) sorted.1)

-- ---- an insertion parts a list

-- where y is below x, all those above x stand behind y
none_before : {K : Type 0} {R : K → K → Ordering} → IsTotalOrder R → (x y : K) (xs : List K) → R y x ≡ Less → AllByRecursion (λ z. R x z ≡ Less) xs → filter (λ z. is_lt (R z y)) xs ≡ []
none_before o x y [] e h = refl
none_before {R = R} o x y (z ∷ zs) e h =
    let above : R z y ≡ Greater = reversed o y z Less (o.trans y x z e h.0) in
    rw above (none_before o x y zs e h.1)

all_behind : {K : Type 0} {R : K → K → Ordering} → IsTotalOrder R → (x y : K) (xs : List K) → R y x ≡ Less → AllByRecursion (λ z. R x z ≡ Less) xs → filter (λ z. not (is_lt (R z y))) xs ≡ xs
all_behind o x y [] e h = refl
all_behind {R = R} o x y (z ∷ zs) e h =
    let above : R z y ≡ Greater = reversed o y z Less (o.trans y x z e h.0) in
    rw above (ap (λ rest. z ∷ rest) (all_behind o x y zs e h.1))

-- those below y, y, and the others
abbrev pub parted : {K : Type 0} → (K → K → Ordering) → K → List K → List K
parted R y xs = filter (λ x. is_lt (R x y)) xs ++ y ∷ filter (λ x. not (is_lt (R x y))) xs

parted_step : {K : Type 0} {R : K → K → Ordering} → IsTotalOrder R → (y x : K) (xs : List K) (r : Ordering) → R x y ≡ r → eq_by_cmp R y x ≡ false
    → AllByRecursion (λ z. R x z ≡ Less) xs → parted R y xs ≡ insert xs (below R y xs) y → parted R y (x ∷ xs) ≡ insert (x ∷ xs) (below R y (x ∷ xs)) y
parted_step {R = R} o y x xs Less e other above later =
    rw (below-cons R y x xs ∙ one_more (R x y) (below R y xs) e, e) (ap (λ rest. x ∷ rest) later)
parted_step {R = R} o y x xs Equal e other above later = let same : R y x ≡ Equal = reversed o x y Equal e in cc (rw same at other)
parted_step {R = R} o y x xs Greater e other above later =
    let less : R y x ≡ Less = reversed o x y Greater e in
    rw (below-cons R y x xs ∙ no_more (R x y) (below R y xs) e ∙ none_below o x y xs less above, e, none_before o x y xs less above, all_behind o x y xs less above) refl

pub parted-insert : {K : Type 0} {R : K → K → Ordering} → IsTotalOrder R → (y : K) (xs : List K) → list_any (eq_by_cmp R y) xs ≡ false → IsStrictlySortedBy R xs → parted R y xs ≡ insert xs (below R y xs) y
unfolding IsStrictlySortedBy
parted-insert o y [] other sorted = refl
parted-insert {R = R} o y (x ∷ xs) other sorted =
    parted_step o y x xs (R x y) refl (any_first _ _ other) sorted.0 (parted-insert o y xs (any_later _ _ other) sorted.1)
