-- Short texts in fields of fixed size.
use Rattle.std.proofs.Common.{◌≡◌, ℕ, zero, suc, ◌+◌, ◌-◌, ◌<◌, ◌≤◌, false, Bool, not, nat_lt, inl, inr, List, [], ◌∷◌, ◌++◌, length, get_or, replicate, take, length-append, append-nil, unwrap_or, position, arith, ap, refl, sym, ◌∙◌}
use Rattle.std.proofs.lemmas.Bool.{cases_Bool}
use Rattle.std.proofs.lemmas.Bool.Decides.{nat_tests}
use Rattle.std.proofs.lemmas.List.{get_or-take, length-replicate, length-take}
use Rattle.std.proofs.lemmas.List.Sums.{fails_before_first, prefix_len-le-length}
use Rattle.std.proofs.lemmas.Str.{IsAscii-append}
use Rattle.std.specs.Cmp.Lexicographic.{slice_cmp}
use Rattle.std.specs.List.{position_or_len}
use Rattle.std.specs.Ordering.{nat_cmp, ordering_then}
use Rattle.std.specs.Str.{IsAscii}
use Rattle.std.specs.declared.cmp.Ordering.TheVariants.{Less, Equal, Greater}
use Rattle.rail_codes.specs.inner.ShortText.{HasNoNul, IsPadded, is_nul, padded, text_in}

no_nul_behind : (c : ℕ) (cs : List ℕ) → HasNoNul (c ∷ cs) → HasNoNul cs
no_nul_behind c cs none i within = none (suc i) (omega arith)

text_in-cons : (c : ℕ) (bytes : List ℕ) → text_in (suc c ∷ bytes) ≡ suc c ∷ text_in bytes
text_in-cons c bytes =
    let other : is_nul (suc c) ≡ false = grind (arith, nat_tests) in
    let one : 1 + position_or_len is_nul bytes ≡ suc (position_or_len is_nul bytes) = omega arith in
    rw (other, one) refl

-- so much 0 behind a text leaves the text
text_in-zeros : (text : List ℕ) (k : ℕ) → HasNoNul text → text_in (text ++ replicate k 0) ≡ text
text_in-zeros [] zero none = refl
text_in-zeros [] (suc k) none = refl
text_in-zeros (zero ∷ cs) k none = absurd (omega (arith, none 0 (omega arith)))
text_in-zeros (suc c ∷ cs) k none =
    text_in-cons c (cs ++ replicate k 0) ∙ ap (λ t. suc c ∷ t) (text_in-zeros cs k (no_nul_behind (suc c) cs none))

pub text_in-padded : (room : ℕ) (text : List ℕ) → HasNoNul text → text_in (padded room text) ≡ text
text_in-padded room text none = text_in-zeros text (room - length text) none

zeros_ascii : (k : ℕ) → IsAscii (replicate k 0)
zeros_ascii zero i = omega arith
zeros_ascii (suc k) zero = omega arith
zeros_ascii (suc k) (suc i) = zeros_ascii k i

-- a text with 0 behind it is padded
pub IsPadded-padded : (room : ℕ) (text : List ℕ) → length text ≤ room → IsAscii text → HasNoNul text → IsPadded room (padded room text)
IsPadded-padded room text fits ascii none =
    let long : length (padded room text) ≡ room = rw (length-append text (replicate (room - length text) 0), length-replicate {A = ℕ} (room - length text) 0) (omega arith) in
    (long, IsAscii-append text (replicate (room - length text) 0) ascii (zeros_ascii (room - length text)), ap (padded room) (text_in-padded room text none))

-- no 0 stands in the text of a field
has_no_nul : (bytes : List ℕ) → HasNoNul (text_in bytes)
has_no_nul bytes i within =
    let before : i < position_or_len is_nul bytes = omega (arith, length-take (position_or_len is_nul bytes) bytes) in
    let other : is_nul (get_or bytes i 0) ≡ false = fails_before_first is_nul bytes i 0 before in
    rw (get_or-take (position_or_len is_nul bytes) bytes i 0 before) (grind (arith, nat_tests))

same_zeros : (k : ℕ) → slice_cmp nat_cmp (replicate k 0) (replicate k 0) ≡ Equal
same_zeros zero = refl
same_zeros (suc k) = same_zeros k

-- two texts are ordered as they are with 0 behind them
with_zeros : (text other : List ℕ) (k l : ℕ) → length text + k ≡ length other + l → HasNoNul text → HasNoNul other → slice_cmp nat_cmp (text ++ replicate k 0) (other ++ replicate l 0) ≡ slice_cmp nat_cmp text other
with_zeros [] [] k l same h g = let e : k ≡ l = omega arith in rw e (same_zeros l)
with_zeros [] (zero ∷ cs) k l same h g = absurd (omega (arith, g 0 (omega arith)))
with_zeros [] (suc c ∷ cs) zero l same h g = absurd (omega arith)
with_zeros [] (suc c ∷ cs) (suc k) l same h g = let less : nat_cmp 0 (suc c) ≡ Less = grind (arith, nat_tests) in rw less refl
with_zeros (zero ∷ bs) other k l same h g = absurd (omega (arith, h 0 (omega arith)))
with_zeros (suc b ∷ bs) [] k zero same h g = absurd (omega arith)
with_zeros (suc b ∷ bs) [] k (suc l) same h g = let greater : nat_cmp (suc b) 0 ≡ Greater = grind (arith, nat_tests) in rw greater refl
with_zeros (suc b ∷ bs) (c ∷ cs) k l same h g =
    ap (ordering_then (nat_cmp (suc b) c)) (with_zeros bs cs k l (omega arith) (no_nul_behind (suc b) bs h) (no_nul_behind c cs g))

pub order_of_fields : (room : ℕ) (bytes other : List ℕ) → IsPadded room bytes → IsPadded room other → slice_cmp nat_cmp bytes other ≡ slice_cmp nat_cmp (text_in bytes) (text_in other)
order_of_fields room bytes other h g =
    let fits : length (text_in bytes) ≤ room = omega (arith, h.0, length-take (position_or_len is_nul bytes) bytes) in
    let fits_too : length (text_in other) ≤ room = omega (arith, g.0, length-take (position_or_len is_nul other) other) in
    ap (λ b. slice_cmp nat_cmp b other) (sym h.2)
    ∙ ap (slice_cmp nat_cmp (padded room (text_in bytes))) (sym g.2)
    ∙ with_zeros (text_in bytes) (text_in other) (room - length (text_in bytes)) (room - length (text_in other)) (omega (arith, fits, fits_too)) (has_no_nul bytes) (has_no_nul other)

-- a text that fills its field is all of it
pub text_in-full : (room : ℕ) (bytes : List ℕ) → IsPadded room bytes → length (text_in bytes) ≡ room → bytes ≡ text_in bytes
text_in-full room bytes h full =
    let none : room - length (text_in bytes) ≡ 0 = omega arith in
    let whole : text_in bytes ++ replicate 0 0 ≡ bytes = rw none at h.2 in
    sym whole ∙ append-nil (text_in bytes)

-- how many bytes stand before the first that passes
pub position_or_all : {X : Type 0} (p : X → Bool) (xs : List X) → unwrap_or (position p xs) (length xs) ≡ position_or_len p xs
position_or_all p xs = elim (cases_Bool (nat_lt (position_or_len p xs) (length xs))) [
  | inl within ↦ rw within refl
  | inr past ↦
      let most : position_or_len p xs ≤ length xs = prefix_len-le-length (λ x. not (p x)) xs in
      let all : length xs ≡ position_or_len p xs = grind (arith, nat_tests) in
      rw past all
]
