-- Texts whose first bytes are compared as one number.
use Rattle.std.proofs.Common.{◌≡◌, ℕ, zero, suc, ◌+◌, ◌*◌, ◌<◌, ◌≤◌, List, [], ◌∷◌, length, take, drop, length-take-le, arith, ap, refl, sym, ◌∙◌}
use Rattle.std.proofs.lemmas.Bool.Decides.{nat_tests}
use Rattle.std.specs.Cmp.Lexicographic.{slice_cmp}
use Rattle.std.specs.Int.{from_be_bytes, w32, w64}
use Rattle.std.specs.Prelude.{slice_index}
use Rattle.std.specs.Ordering.{nat_cmp, ordering_then}
use Rattle.std.specs.Str.{IsAscii}
use Rattle.std.specs.declared.cmp.Ordering.{Ordering}
use Rattle.std.specs.declared.cmp.Ordering.TheVariants.{Less, Equal, Greater}

-- the number that bytes spell behind a number, the first of them highest
abbrev spelled : ℕ → List ℕ → ℕ
spelled n [] = n
spelled n (b ∷ bs) = spelled (n * 256 + b) bs

-- a byte behind each of two numbers decides only where the numbers are equal
one_more : (x y b c : ℕ) → b < 256 → c < 256 → nat_cmp (x * 256 + b) (y * 256 + c) ≡ ordering_then (nat_cmp x y) (nat_cmp b c)
one_more x y b c few few_too = grind (arith, nat_tests)

then_then : (a b c : Ordering) → ordering_then a (ordering_then b c) ≡ ordering_then (ordering_then a b) c
then_then Less b c = refl
then_then Equal b c = refl
then_then Greater b c = refl

tail_ascii : (b : ℕ) (bs : List ℕ) → IsAscii (b ∷ bs) → IsAscii bs
tail_ascii b bs ascii i = ascii (suc i)

-- two numbers and the bytes behind them, of which the first n are put into the numbers
moved : (n x y : ℕ) (bs cs : List ℕ) → n ≤ length bs → n ≤ length cs → IsAscii bs → IsAscii cs → ordering_then (nat_cmp x y) (slice_cmp nat_cmp bs cs) ≡ ordering_then (nat_cmp (spelled x (take n bs)) (spelled y (take n cs))) (slice_cmp nat_cmp (drop n bs) (drop n cs))
moved zero x y bs cs p q h g = refl
moved (suc n) x y [] cs p q h g = absurd (omega arith)
moved (suc n) x y (b ∷ bs) [] p q h g = absurd (omega arith)
moved (suc n) x y (b ∷ bs) (c ∷ cs) p q h g =
    let one : b < 128 = h 0 in
    let two : c < 128 = g 0 in
    let rest = moved n (x * 256 + b) (y * 256 + c) bs cs (omega arith) (omega arith) (tail_ascii b bs h) (tail_ascii c cs g) in
    then_then (nat_cmp x y) (nat_cmp b c) (slice_cmp nat_cmp bs cs)
    ∙ ap (λ o. ordering_then o (slice_cmp nat_cmp bs cs)) (sym (one_more x y b c (omega arith) (omega arith)))
    ∙ rest

-- four and eight bytes are read as the number that they spell
four : (l : List ℕ) → length l ≡ 4 → from_be_bytes w32 l ≡ spelled 0 l
four [] long = absurd (omega arith)
four (b0 ∷ []) long = absurd (omega arith)
four (b0 ∷ b1 ∷ []) long = absurd (omega arith)
four (b0 ∷ b1 ∷ b2 ∷ []) long = absurd (omega arith)
four (b0 ∷ b1 ∷ b2 ∷ b3 ∷ []) long =
    let read : from_be_bytes w32 (b0 ∷ b1 ∷ b2 ∷ b3 ∷ []) ≡ b0 * 16777216 + b1 * 65536 + b2 * 256 + b3 = refl in
    let sums : b0 * 16777216 + b1 * 65536 + b2 * 256 + b3 ≡ spelled 0 (b0 ∷ b1 ∷ b2 ∷ b3 ∷ []) = omega arith in
    read ∙ sums
four (b0 ∷ b1 ∷ b2 ∷ b3 ∷ b ∷ bs) long = absurd (omega arith)

eight : (l : List ℕ) → length l ≡ 8 → from_be_bytes w64 l ≡ spelled 0 l
eight [] long = absurd (omega arith)
eight (b0 ∷ []) long = absurd (omega arith)
eight (b0 ∷ b1 ∷ []) long = absurd (omega arith)
eight (b0 ∷ b1 ∷ b2 ∷ []) long = absurd (omega arith)
eight (b0 ∷ b1 ∷ b2 ∷ b3 ∷ []) long = absurd (omega arith)
eight (b0 ∷ b1 ∷ b2 ∷ b3 ∷ b4 ∷ []) long = absurd (omega arith)
eight (b0 ∷ b1 ∷ b2 ∷ b3 ∷ b4 ∷ b5 ∷ []) long = absurd (omega arith)
eight (b0 ∷ b1 ∷ b2 ∷ b3 ∷ b4 ∷ b5 ∷ b6 ∷ []) long = absurd (omega arith)
eight (b0 ∷ b1 ∷ b2 ∷ b3 ∷ b4 ∷ b5 ∷ b6 ∷ b7 ∷ []) long =
    let read : from_be_bytes w64 (b0 ∷ b1 ∷ b2 ∷ b3 ∷ b4 ∷ b5 ∷ b6 ∷ b7 ∷ []) ≡ b0 * 72057594037927936 + b1 * 281474976710656 + b2 * 1099511627776 + b3 * 4294967296 + b4 * 16777216 + b5 * 65536 + b6 * 256 + b7 = refl in
    let sums : b0 * 72057594037927936 + b1 * 281474976710656 + b2 * 1099511627776 + b3 * 4294967296 + b4 * 16777216 + b5 * 65536 + b6 * 256 + b7 ≡ spelled 0 (b0 ∷ b1 ∷ b2 ∷ b3 ∷ b4 ∷ b5 ∷ b6 ∷ b7 ∷ []) = omega arith in
    read ∙ sums
eight (b0 ∷ b1 ∷ b2 ∷ b3 ∷ b4 ∷ b5 ∷ b6 ∷ b7 ∷ b ∷ bs) long = absurd (omega arith)

-- what is taken off a text: its first n bytes, and the rest
abbrev pub IsTakenOff : ℕ → List ℕ → List ℕ → List ℕ → Type 0
IsTakenOff n text first rest = (first ≡ take n text) × (rest ≡ drop n text) × (length rest + n ≡ length text)

-- two texts are ordered by their first bytes as numbers, then by the rest
pub by_four : (bs cs first rest first' rest' : List ℕ) (o : Ordering) → IsTakenOff 4 bs first rest → IsTakenOff 4 cs first' rest' → IsAscii bs → IsAscii cs → o ≡ nat_cmp (from_be_bytes w32 first) (from_be_bytes w32 first') → slice_cmp nat_cmp bs cs ≡ ordering_then o (slice_cmp nat_cmp rest rest')
by_four bs cs first rest first' rest' o p q h g e =
    let one = four (take 4 bs) (length-take-le 4 bs (omega arith)) in
    let two = four (take 4 cs) (length-take-le 4 cs (omega arith)) in
    rw (e, p.0, q.0, p.1, q.1, one, two) (moved 4 0 0 bs cs (omega arith) (omega arith) h g)

-- three bytes are read as the number that they spell
three : (l : List ℕ) → length l ≡ 3 → slice_index l 0 * 65536 + slice_index l 1 * 256 + slice_index l 2 ≡ spelled 0 l
three [] long = absurd (omega arith)
three (b0 ∷ []) long = absurd (omega arith)
three (b0 ∷ b1 ∷ []) long = absurd (omega arith)
three (b0 ∷ b1 ∷ b2 ∷ []) long =
    let sums : b0 * 65536 + b1 * 256 + b2 ≡ spelled 0 (b0 ∷ b1 ∷ b2 ∷ []) = omega arith in
    sums
three (b0 ∷ b1 ∷ b2 ∷ b ∷ bs) long = absurd (omega arith)

-- the number of three bytes
abbrev pub three_bytes : List ℕ → ℕ
three_bytes l = slice_index l 0 * 65536 + slice_index l 1 * 256 + slice_index l 2

pub by_three : (bs cs first rest first' rest' : List ℕ) (o : Ordering) → IsTakenOff 3 bs first rest → IsTakenOff 3 cs first' rest' → IsAscii bs → IsAscii cs → o ≡ nat_cmp (three_bytes first) (three_bytes first') → slice_cmp nat_cmp bs cs ≡ ordering_then o (slice_cmp nat_cmp rest rest')
by_three bs cs first rest first' rest' o p q h g e =
    let one = three (take 3 bs) (length-take-le 3 bs (omega arith)) in
    let two = three (take 3 cs) (length-take-le 3 cs (omega arith)) in
    rw (e, p.0, q.0, p.1, q.1, one, two) (moved 3 0 0 bs cs (omega arith) (omega arith) h g)

pub by_eight : (bs cs first rest first' rest' : List ℕ) (o : Ordering) → IsTakenOff 8 bs first rest → IsTakenOff 8 cs first' rest' → IsAscii bs → IsAscii cs → o ≡ nat_cmp (from_be_bytes w64 first) (from_be_bytes w64 first') → slice_cmp nat_cmp bs cs ≡ ordering_then o (slice_cmp nat_cmp rest rest')
by_eight bs cs first rest first' rest' o p q h g e =
    let one = eight (take 8 bs) (length-take-le 8 bs (omega arith)) in
    let two = eight (take 8 cs) (length-take-le 8 cs (omega arith)) in
    rw (e, p.0, q.0, p.1, q.1, one, two) (moved 8 0 0 bs cs (omega arith) (omega arith) h g)

-- what differs settles the order
pub settled : (o p : Ordering) → (o ≡ Equal → ⊥) → ordering_then o p ≡ o
settled Less p other = refl
settled Equal p other = absurd (other refl)
settled Greater p other = refl

-- what is left of a text is a text
pub rest_ascii : (n : ℕ) (bs rest : List ℕ) → rest ≡ drop n bs → IsAscii bs → IsAscii rest
rest_ascii zero bs rest e ascii = rw (e) ascii
rest_ascii (suc n) [] rest e ascii = rw (e) ascii
rest_ascii (suc n) (b ∷ bs) rest e ascii = rest_ascii n bs rest e (tail_ascii b bs ascii)
