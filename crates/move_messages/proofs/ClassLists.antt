-- Lists of classes, as they lie in memory.
use Rattle.std.proofs.Common.{◌≡◌, ℕ, ◌+◌, ◌-◌, ◌<◌, ◌≤◌, List, [], ◌∷◌, ◌++◌, length, get_or, take, drop, set, replicate, arith, refl, sym, ap, ◌∙◌, subst, length-append}
use Rattle.std.proofs.Math.Seq.{drop-append-add}
use Rattle.std.proofs.lemmas.List.{drop-replicate, drop-set-lt, take_more_set, take-append-drop, length-set}
use Rattle.move_messages.specs.inner.PaddedClasses.{padded, first_class, IsPadded, length-take-used}

first_is : (classes : List (List ℕ)) (first : List ℕ) → 1 ≤ length classes → first ≡ get_or classes 0 first → first_class classes ≡ first
first_is [] first one is = absurd (omega arith)
first_is (c ∷ cs) first one is = sym is

-- eight times the first class, with all classes written over its head
pub padded-written : (classes : List (List ℕ)) (first : List ℕ) → 1 ≤ length classes → first ≡ get_or classes 0 first
    → classes ++ drop (length classes) (first ∷ first ∷ first ∷ first ∷ first ∷ first ∷ first ∷ first ∷ []) ≡ padded classes
padded-written classes first one is =
    rw (first_is classes first one is) (ap (λ rest. classes ++ rest) (drop-replicate (length classes) 8 first))

-- what stands behind the classes and one more place
behind : (classes : List (List ℕ)) (first : List ℕ) → drop (length classes + 1) (classes ++ replicate (8 - length classes) first) ≡ replicate (8 - (length classes + 1)) first
behind classes first =
    let fewer : 8 - length classes - 1 ≡ 8 - (length classes + 1) = omega arith in
    drop-append-add classes (replicate (8 - length classes) first) 1 ∙ drop-replicate 1 (8 - length classes) first ∙ ap (λ n. replicate n first) fewer

same_first : (classes : List (List ℕ)) (class : List ℕ) → 1 ≤ length classes → first_class (classes ++ class ∷ []) ≡ first_class classes
same_first [] class one = absurd (omega arith)
same_first (c ∷ cs) class one = refl

-- one more class, written behind those in use
pub padded-more : (items : List (List ℕ)) (used : ℕ) (class : List ℕ) → IsPadded items used → used < 8 → padded (take (used + 1) (set items used class)) ≡ set items used class
padded-more items used class h room =
    let classes = take used items in
    let many : length classes ≡ used = length-take-used items used h in
    let front : take (used + 1) (set items used class) ≡ classes ++ class ∷ [] = take_more_set items used class (omega arith) in
    let first : first_class (classes ++ class ∷ []) ≡ first_class classes = same_first classes class (omega arith) in
    let rest : drop (used + 1) items ≡ replicate (8 - (used + 1)) (first_class classes) =
    ap (drop (used + 1)) (sym h.3) ∙ subst (λ n. drop (n + 1) (padded classes) ≡ replicate (8 - (n + 1)) (first_class classes)) many (behind classes (first_class classes)) in
    let tail : drop (used + 1) (set items used class) ≡ replicate (8 - (used + 1)) (first_class classes) =
    drop-set-lt (used + 1) items used class (omega arith) ∙ rest in
    let count : length (classes ++ class ∷ []) ≡ used + 1 = length-append classes (class ∷ []) ∙ ap (λ n. n + 1) many in
    let written : padded (classes ++ class ∷ []) ≡ (classes ++ class ∷ []) ++ drop (used + 1) (set items used class) = rw (count, first, tail) refl in
    ap padded front ∙ written ∙ ap (λ xs. xs ++ drop (used + 1) (set items used class)) (sym front) ∙ take-append-drop (used + 1) (set items used class)

pub IsPadded-more : (items : List (List ℕ)) (used : ℕ) (class : List ℕ) → IsPadded items used → used < 8 → IsPadded (set items used class) (used + 1)
IsPadded-more items used class h room = (length-set items used class ∙ h.0, omega arith, omega arith, padded-more items used class h room)
