use Rattle.std.proofs.Common.{◌≡◌, ◌≢◌, ◌+◌, ◌-◌, ◌%◌, ◌<◌, ◌≤◌, ℕ, cond, List, length, take, drop, get_or, set, get_or-set_same, get_or-set_other, refl, sym, ◌∙◌, ap, arith, inl, inr, subst, min}
use Rattle.std.specs.Prelude.{◌==◌}
use Rattle.std.proofs.lemmas.Bool.{cases_eq, cases_lt, ne_eqb}
use Rattle.std.proofs.lemmas.Bool.Decides.{nat_tests}
use Rattle.std.proofs.lemmas.List.{get_or-take, get_or-drop, length-take-le, length-drop}
use Rattle.assignment.specs.inner.Passes.{HasIdle, IsLeastIdle, IsNearest}

-- the first n items are written, each as `f` says
pub record IsPassed (f : ℕ → ℕ) (old new : List ℕ) (n : ℕ) : Type 0 where
  pub written : (i : ℕ) → i < n → get_or new i 0 ≡ f i
  pub left : (i : ℕ) → n ≤ i → get_or new i 0 ≡ get_or old i 0

-- one item more is written
pub passed_more : (f : ℕ → ℕ) (old new : List ℕ) (n number : ℕ) → IsPassed f old new n → n < length new → number ≡ f n → IsPassed f old (set new n number) (n + 1)
passed_more f old new n number h l e = record {
  written = λ i li. elim (cases_eq i n) [
    | inl same ↦ ap (λ x. get_or (set new n number) x 0) same ∙ get_or-set_same new n number 0 l ∙ e ∙ ap f (sym same)
    | inr apart ↦ get_or-set_other new n i number 0 apart ∙ h.written i (omega (arith, li, apart))
  ];
  left = λ i li. get_or-set_other new n i number 0 (λ e. omega (arith, e, li)) ∙ h.left i (omega (arith, li));
}

-- nothing is written yet, where the items before n are what `f` says
pub passed_from : (f : ℕ → ℕ) (old : List ℕ) (n : ℕ) → ((i : ℕ) → i < n → get_or old i 0 ≡ f i) → IsPassed f old old n
passed_from f old n same = record { written = same; left = λ i l. refl }

-- a group's cost if it has an idle wagon, else the greatest number
pub record IsChosen (idle chosen cost : ℕ) : Type 0 where
  pub meant : idle ≢ 4294967295 → chosen ≡ cost
  pub other : chosen < 4294967295 → (idle ≢ 4294967295) × (chosen ≡ cost)

full_chosen : (idle cost : ℕ) → idle ≡ 4294967295 → cond (idle == 4294967295) 4294967295 cost ≡ 4294967295
full_chosen idle cost full = grind (arith, nat_tests, full)

idle_chosen : (idle cost : ℕ) → idle ≢ 4294967295 → cond (idle == 4294967295) 4294967295 cost ≡ cost
idle_chosen idle cost has = ap (λ b. cond b 4294967295 cost) (ne_eqb idle 4294967295 has)

pub is_chosen : (idle chosen cost : ℕ) → chosen ≡ cond (idle == 4294967295) 4294967295 cost → IsChosen idle chosen cost
is_chosen idle chosen cost e = record {
  meant = λ has. e ∙ idle_chosen idle cost has;
  other = λ near. elim (cases_eq idle 4294967295) [
    | inl full ↦ absurd (let c = full_chosen idle cost full in omega (arith, e, c, near))
    | inr has ↦ (has, e ∙ idle_chosen idle cost has)
  ];
}

-- one group more
pub least_more : (costs idle : List ℕ) (least n cost chosen next : ℕ) → IsLeastIdle costs idle least n → cost ≡ get_or costs n 0 → IsChosen (get_or idle n 0) chosen cost → next ≡ min least chosen → IsLeastIdle costs idle next (n + 1)
least_more costs idle least n cost chosen next h new is m = record {
  below = λ g l has. elim (cases_eq g n) [
    | inl same ↦ let e = ap (λ x. get_or costs x 0) same in let c = is.meant (subst (HasIdle idle) same has) in omega (arith, new, m, e, c)
    | inr apart ↦ let b = h.below g (omega (arith, l, apart)) has in omega (arith, m, b)
  ];
  attained = λ near. elim (cases_lt chosen least) [
    | inl less ↦ let c = is.other (omega (arith, m, near, less)) in let e = c.1 in record { group = n; is = record { within = omega arith; is = omega (arith, new, m, e, less); has = c.0 } }
    | inr more ↦ let at = h.attained (omega (arith, m, near, more)) in let to = at.is.within in let e = at.is.is in record { group = at.group; is = record { within = omega (arith, to); is = omega (arith, m, e, more); has = at.is.has } }
  ];
}

-- no group of a block has a number that isn't in it
pub none_in_block : (numbers : List ℕ) (block n number g : ℕ) → ((k : ℕ) → k < length (take ((block + n) - block) (drop block numbers)) → get_or (take ((block + n) - block) (drop block numbers)) k 0 ≡ number → ⊥) → block + n ≤ length numbers → block ≤ g → g < block + n → get_or numbers g 0 ≡ number → ⊥
none_in_block numbers block n number g none long from to is =
    let rest = length-drop block numbers in
    let count = length-take-le ((block + n) - block) (drop block numbers) (omega (arith, rest, long)) in
    let index : block + (g - block) ≡ g = omega (arith, from) in
    let read : get_or (take ((block + n) - block) (drop block numbers)) (g - block) 0 ≡ get_or numbers g 0 = get_or-take ((block + n) - block) (drop block numbers) (g - block) 0 (omega (arith, from, to)) ∙ get_or-drop block numbers (g - block) 0 ∙ ap (λ x. get_or numbers x 0) index in
    none (g - block) (omega (arith, count, from, to)) (read ∙ is)

-- one less than a number, and the greatest number where it is 0
pub record IsLess (number less : ℕ) : Type 0 where
  pub none : number ≡ 0 → less ≡ 4294967295
  pub some : 0 < number → less + 1 ≡ number

pub is_less : (n : ℕ) → n < 4294967296 → IsLess n ((n + (4294967296 - 1)) % 4294967296)
is_less n l = record { none = λ e. omega (arith, e); some = λ p. omega (arith, l, p) }

-- one group more
pub nearest_more : (f : ℕ → ℕ) (onward n number less next : ℕ) → IsNearest f onward n → number ≡ f n → IsLess number less → next ≡ min onward less → IsNearest f next (n + 1)
nearest_more f onward n number less next h new is m = record {
  below = λ g l leads. elim (cases_eq g n) [
    | inl same ↦ let e = ap f same in let s = is.some (omega (arith, leads, e, new)) in omega (arith, new, m, e, s)
    | inr apart ↦ let b = h.below g (omega (arith, l, apart)) leads in omega (arith, m, b)
  ];
  attained = λ near. elim (cases_lt less onward) [
    | inl lower ↦
        let one : 0 < number = elim (cases_lt 0 number) [ inl some ↦ some | inr none ↦ absurd (let e = is.none (omega (arith, none)) in omega (arith, e, m, near, lower)) ] in
        let s = is.some one in
        record { index = n; within = omega arith; is = omega (arith, new, m, s, lower) }
    | inr more ↦ let at = h.attained (omega (arith, m, near, more)) in let to = at.within in let e = at.is in record { index = at.index; within = omega (arith, to); is = omega (arith, m, e, more) }
  ];
}

-- no group is seen yet, and none before n leads on
pub nearest_from : (f : ℕ → ℕ) (n : ℕ) → ((g : ℕ) → g < n → f g ≡ 0) → IsNearest f 4294967295 n
nearest_from f n none = record { below = λ g l leads. absurd (let e = none g l in omega (arith, e, leads)); attained = λ near. absurd (omega (arith, near)) }

-- the groups from n on don't lead on
pub nearest_of_all : (f numbers : ℕ → ℕ) (onward n m : ℕ) → IsNearest f onward n → n ≤ m → ((g : ℕ) → g < n → numbers g ≡ f g) → ((g : ℕ) → n ≤ g → g < m → numbers g ≡ 0) → IsNearest numbers onward m
nearest_of_all f numbers onward n m h le same none = record {
  below = λ g l leads. elim (cases_lt g n) [
    | inl before ↦ let e = same g before in let b = h.below g before (omega (arith, e, leads)) in omega (arith, e, b)
    | inr after ↦ absurd (let e = none g after l in omega (arith, e, leads))
  ];
  attained = λ near. let at = h.attained near in let to = at.within in let is = at.is in let e = same at.index at.within in record { index = at.index; within = omega (arith, to, le); is = omega (arith, is, e) };
}
