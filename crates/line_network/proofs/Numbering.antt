-- The numbers of lengths and the distances that they stand for.
use Rattle.std.proofs.Common.{◌≡◌, ℕ, zero, suc, ◌∷◌, replicate, ◌+◌, ◌*◌, ◌/◌, ◌%◌, ◌^◌, ◌<◌, ◌≤◌, ◌==◌, Bool, true, false, ltb, List, length, set, get_or, refl, sym, ◌∙◌, ap, subst, arith, Some, None, Option}
use Rattle.std.specs.Bool.{MatchBool}
use Rattle.std.specs.List.Sorted.{IsPermutation}
use Rattle.std.proofs.lemmas.Bool.{cond-false, cond_both, eqb-true, ne_eqb, ltb-true, ltb-false}
use Rattle.std.proofs.lemmas.List.{length-map, map-set, get_or-map}
use Rattle.line_network.specs.declared.line.Line.{Line}
use Rattle.line_network.specs.declared.length.Length.{Length}
use Rattle.line_network.specs.declared.step.Step.{Step}
use Rattle.line_network.specs.inner.Lengths.{Distance, distance_of, label_of, known}
use Rattle.line_network.specs.inner.Search.{label_at, plus_line, LabelAbove, LabelAtMost, Relaxes, falls}
use Rattle.line_network.specs.inner.Steps.{step_along, line_from}
use Rattle.line_network.specs.inner.Turns.{Waiting, entry}

pub length_known : (labels : List Length) → length (known labels) ≡ length labels
length_known labels = length-map labels label_of

-- the label of a place, as it is read
pub label_read : (labels : List Length) (place : ℕ) (l : Length) → place < length labels → label_at (known labels) place ≡ label_of (get_or labels place l)
label_read labels place l within = get_or-map label_of labels place l None within

-- the same, where what is read is named
pub known_read : (labels : List Length) (place : ℕ) (l : Length) → place < length labels → l ≡ get_or labels place l → label_of l ≡ label_at (known labels) place
known_read labels place l within same = ap label_of same ∙ sym (label_read labels place l within)

-- a label that is written
pub known_set : (labels : List Length) (place : ℕ) (l : Length) (d : Distance) → label_of l ≡ Some d → known (set labels place l) ≡ set (known labels) place (Some d)
known_set labels place l d is = map-set label_of labels place l ∙ ap (λ o. set (known labels) place o) is

pub known_replicate : (places : ℕ) (l : Length) → label_of l ≡ None → known (replicate places l) ≡ replicate places None
known_replicate zero l is = refl
known_replicate (suc places) l is = ap (λ xs. label_of l ∷ xs) (known_replicate places l is) ∙ ap (λ o. o ∷ replicate places None) is

-- a number of few kilometres isn't the greatest
some_label : (l : Length) → l.number / 33554432 < 2 ^ 25 → label_of l ≡ Some (distance_of l)
some_label l short =
    cond-false (l.number == 18446744073709551615) None (Some (distance_of l)) (ne_eqb l.number 18446744073709551615 (λ e. omega arith))

-- a label that is lowered to the length of a way
pub known_lower : (labels : List Length) (place : ℕ) (way : Length) → way.number / 33554432 < 2 ^ 25 → known (set labels place way) ≡ set (known labels) place (Some (distance_of way))
known_lower labels place way short = known_set labels place way (distance_of way) (some_label way short)

-- the line of a step
pub line_of_step : (place : ℕ) (s : Step) (l : Line) → s ≡ step_along l → l.from ≡ place → l.minutes ≤ 10000 → line_from place s ≡ l
line_of_step place s l same from few =
    let number : ℕ = l.km * 33554432 + l.minutes in
    let of_km : ℕ → Line = λ k. record { from = place; to = l.to; km = k; minutes = number % 33554432 } in
    let of_minutes : ℕ → Line = λ m. record { from = place; to = l.to; km = l.km; minutes = m } in
    let of_from : ℕ → Line = λ p. record { from = p; to = l.to; km = l.km; minutes = l.minutes } in
    let km : (l.km * 33554432 + l.minutes) / 33554432 ≡ l.km = omega arith in
    let minutes : (l.km * 33554432 + l.minutes) % 33554432 ≡ l.minutes = omega arith in
    ap (line_from place) same ∙ (ap of_km km ∙ (ap of_minutes minutes ∙ ap of_from (sym from)))

-- comparing numbers compares distances
above : (l way : Length) → way.number < l.number → LabelAbove (label_of l) (distance_of way)
above l way below =
    cond_both (l.number == 18446744073709551615) None (Some (distance_of l)) (λ o. LabelAbove o (distance_of way))
    (λ none. tt)
    (λ some. (omega arith, λ s. omega arith))

at_most : (l way : Length) → way.number / 33554432 < 2 ^ 25 → l.number ≤ way.number → LabelAtMost (label_of l) (distance_of way)
at_most l way short least =
    cond_both (l.number == 18446744073709551615) None (Some (distance_of l)) (λ o. LabelAtMost o (distance_of way))
    (λ none. absurd (let most : l.number ≡ 18446744073709551615 = eqb-true l.number 18446744073709551615 none in omega arith))
    (λ some. (omega arith, λ s. omega arith))

match_below : (b : Bool) (P Q : Type 0) → (b ≡ true → P) → (b ≡ false → Q) → MatchBool b P Q
match_below true P Q f g = f refl
match_below false P Q f g = g refl

pub falls_match : (l way : Length) → way.number / 33554432 < 2 ^ 25 → MatchBool (ltb way.number l.number) (LabelAbove (label_of l) (distance_of way)) (LabelAtMost (label_of l) (distance_of way))
falls_match l way short =
    match_below (ltb way.number l.number) _ _
    (λ e. above l way (ltb-true way.number l.number e))
    (λ e. at_most l way short (ltb-false way.number l.number e))

-- the label of the place where a line ends falls, and the place waits
pub Relaxes-falls : (labels : List Length) (waited waits : List Waiting) (d : Distance) (label way : Length) (l : Line) → distance_of way ≡ plus_line d l → d.km + l.km < 2 ^ 25 → l.to < length labels → LabelAbove (label_of (get_or labels l.to label)) (distance_of way) → IsPermutation (entry (distance_of way) l.to ∷ waited) waits → Relaxes (known labels) (known (set labels l.to way)) waited waits d l
Relaxes-falls labels waited waits d label way l is fits within above moved =
    let km : way.number / 33554432 ≡ d.km + l.km = ap (λ (x : Distance). x.km) is in
    let Set : Distance → Type 0 = λ x. known (set labels l.to way) ≡ set (known labels) l.to (Some x) in
    let Moved : Distance → Type 0 = λ x. IsPermutation (entry x l.to ∷ waited) waits in
    let Above : Option Distance → Type 0 = λ o. LabelAbove o (distance_of way) in
    falls (subst Set is (known_lower labels l.to way (omega arith))) (subst Moved is moved)
    (subst (LabelAbove (label_at (known labels) l.to)) is (subst Above (sym (label_read labels l.to label within)) above))
