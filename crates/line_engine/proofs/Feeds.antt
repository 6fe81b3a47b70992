-- Where line feeds are, and how an input is cut at them.
use Rattle.std.proofs.Common.{◌≡◌, ℕ, zero, suc, ◌+◌, ◌-◌, ◌<◌, ◌≤◌, Bool, true, false, List, [], ◌∷◌, ◌++◌, length, get_or, take, drop, refl, sym, ap, ◌∙◌, subst, arith, add-one, append_assoc}
use Rattle.std.specs.Prelude.{◌==◌, nat_lt, ◌||◌, Some, None, Result, Ok, Err, is_err, OnOk}
use Rattle.std.specs.List.{slice_range}
use Rattle.std.proofs.lemmas.List.Folds.{list_any_more, list_any-append}
use Rattle.std.proofs.lemmas.List.{take_all, length-take, length-append, drop-take, drop-drop, take-append-drop, get_or-append-add}
use Rattle.std.proofs.Math.Seq.{drop-cons, drop-append_seam}
use Rattle.std.proofs.lemmas.Bool.Decides.{nat_tests}
use Rattle.memchr.specs.Find.{IsFirstByte, is_byte}
use Rattle.line_engine.specs.inner.Cutting.{Moves}
use Rattle.line_engine.specs.Lines.{line_feed, has_feed, is_unended, lines_of, first_line}

not_true : (b : Bool) → (b ≡ true → ⊥) → b ≡ false
not_true true h = absurd (h refl)
not_true false h = refl

-- what holds on success, where there was no error
pub on_success : {T E P : Type 0} (r : Result T E) → is_err r ≡ false → OnOk r P → P
on_success (Ok x) h p = p
on_success (Err e) h p = cc

-- no line feed below n, so none in the first n bytes
no_feed_below : (bytes : List ℕ) (n : ℕ) → n ≤ length bytes → ((k : ℕ) → k < n → (get_or bytes k 0 == line_feed) ≡ true → ⊥) → has_feed (take n bytes) ≡ false
no_feed_below bytes zero le none = refl
no_feed_below bytes (suc n) le none =
    let rest = no_feed_below bytes n (omega arith) (λ k l. none k (omega arith)) in
    let here = not_true (get_or bytes n 0 == line_feed) (none n (omega arith)) in
    let lt : n < length bytes = omega arith in
    let more = list_any_more (λ c. c == line_feed) bytes n 0 lt in
    subst (λ m. has_feed (take m bytes) ≡ false) (add-one n) (more ∙ rw (rest, here) refl)

-- what stands before the first line feed, and what after it
pub record Split (bytes front : List ℕ) : Type 0 where
  pub rest : List ℕ
  pub whole : bytes ≡ front ++ line_feed ∷ rest
  pub free : has_feed front ≡ false

pub at_feed : (bytes : List ℕ) (at : ℕ) → IsFirstByte (is_byte line_feed) bytes (Some at) → Split bytes (take at bytes)
at_feed bytes at h =
    let lt : at < length bytes = h.0.high in
    let here : get_or bytes at 0 ≡ line_feed = grind (arith, nat_tests, h.1) in
    let parts : bytes ≡ take at bytes ++ get_or bytes at 0 ∷ drop (suc at) bytes = sym (take-append-drop at bytes) ∙ ap (λ (xs : List ℕ). take at bytes ++ xs) (drop-cons bytes at 0 lt) in
    record {
      rest = drop (suc at) bytes;
      whole = parts ∙ ap (λ (c : ℕ). take at bytes ++ c ∷ drop (suc at) bytes) here;
      free = no_feed_below bytes at (omega arith) (λ k l. h.0.before k (omega arith) l);
    }

pub no_feed : (bytes : List ℕ) → IsFirstByte (is_byte line_feed) bytes None → has_feed bytes ≡ false
no_feed bytes h =
    let all = no_feed_below bytes (length bytes) (omega arith) (λ k l. h k (omega arith) l) in
    subst (λ xs. has_feed xs ≡ false) (take_all (length bytes) bytes (omega arith)) all

-- a range goes on behind its front
pub range_behind : (xs : List ℕ) (from to n : ℕ) (front rest : List ℕ) → slice_range xs from to ≡ front ++ rest → length front ≡ n → slice_range xs (from + n) to ≡ rest
range_behind xs from to n front rest whole len =
    let lens = ap length whole ∙ length-append front rest in
    let short : length (slice_range xs from to) ≤ to - from = omega (arith, length-take (to - from) (drop from xs)) in
    let more : to - from ≡ n + (to - (from + n)) = omega (arith, lens, short, len) in
    let dropped : drop n (slice_range xs from to) ≡ slice_range xs (from + n) to =
    rw more (drop-take n (to - (from + n)) (drop from xs) ∙ ap (take (to - (from + n))) (drop-drop n from xs)) in
    sym dropped ∙ ap (drop n) whole ∙ rw (← len) (drop-append_seam front rest)

-- a line feed was found behind the front, and the range goes on behind it
pub moves_ended : (xs : List ℕ) (from to : ℕ) (old front line grown : List ℕ) → slice_range xs from to ≡ old → ((rest : List ℕ) × (old ≡ front ++ line_feed ∷ rest))
    → has_feed front ≡ false → grown ≡ line ++ front → Moves old (slice_range xs (from + (length front + 1)) to) line grown true
moves_ended xs from to old front line grown is found free grew =
    let regrouped : slice_range xs from to ≡ (front ++ line_feed ∷ []) ++ found.0 = is ∙ found.1 ∙ sym (append_assoc front (line_feed ∷ []) found.0) in
    let on = range_behind xs from to (length front + 1) (front ++ line_feed ∷ []) found.0 regrouped (length-append front (line_feed ∷ [])) in
    (front, found.1 ∙ ap (λ (r : List ℕ). front ++ line_feed ∷ r) (sym on), free, grew)

range_none : (xs : List ℕ) (at : ℕ) → slice_range xs at at ≡ []
range_none xs at = rw (sub_self at) refl where
  sub_self : (n : ℕ) → n - n ≡ 0
  sub_self n = omega arith

pub moves_all : (xs : List ℕ) (to : ℕ) (old line grown : List ℕ) → has_feed old ≡ false → grown ≡ line ++ old → Moves old (slice_range xs to to) line grown false
moves_all xs to old line grown free grew = (range_none xs to, free, grew)

-- ---- lines off the front

pub has_feed-append : (a b : List ℕ) → has_feed a ≡ false → has_feed b ≡ false → has_feed (a ++ b) ≡ false
has_feed-append a b p q = list_any-append (λ c. c == line_feed) a b ∙ rw (p, q) refl

first_free : (c : ℕ) (bytes : List ℕ) → has_feed (c ∷ bytes) ≡ false → ((c == line_feed) ≡ false) × (has_feed bytes ≡ false)
first_free c bytes h = by_test (c == line_feed) (has_feed bytes) h where
  by_test : (a b : Bool) → (a || b) ≡ false → (a ≡ false) × (b ≡ false)
  by_test true b h = absurd cc
  by_test false b h = (refl, h)

-- behind any bytes a line feed is one
pub has_feed-feed : (line rest : List ℕ) → has_feed (line ++ line_feed ∷ rest) ≡ true
has_feed-feed line rest = list_any-append (λ c. c == line_feed) line (line_feed ∷ rest) ∙ or-true (has_feed line) where
  or-true : (b : Bool) → (b || true) ≡ true
  or-true true = refl
  or-true false = refl

-- a line that a line feed ends
pub lines_of-feed : (line rest : List ℕ) → has_feed line ≡ false → lines_of (line ++ line_feed ∷ rest) ≡ line ∷ lines_of rest
lines_of-feed [] rest h = refl
lines_of-feed (c ∷ line) rest h =
    let parts = first_free c line h in
    rw (parts.0, lines_of-feed line rest parts.1) refl

-- the last line, which none ends
pub lines_of-last : (line : List ℕ) → has_feed line ≡ false → 0 < length line → lines_of line ≡ line ∷ []
lines_of-last [] h some = absurd (omega arith)
lines_of-last (c ∷ []) h some = let parts = first_free c [] h in rw parts.0 refl
lines_of-last (c ∷ d ∷ line) h some =
    let parts = first_free c (d ∷ line) h in
    rw (parts.0, lines_of-last (d ∷ line) parts.1 (omega arith)) refl

-- ---- how an input ends

-- bytes with others before them
pub is_unended-behind : (front back : List ℕ) → 0 < length back → is_unended (front ++ back) ≡ is_unended back
unfolding is_unended
is_unended-behind front back some =
    let last : length (front ++ back) - 1 ≡ length front + (length back - 1) = omega (arith, length-append front back, some) in
    let byte : get_or (front ++ back) (length (front ++ back) - 1) 0 ≡ get_or back (length back - 1) 0
    = ap (λ (k : ℕ). get_or (front ++ back) k 0) last ∙ get_or-append-add front back (length back - 1) 0 in
    let more : nat_lt 0 (length (front ++ back)) ≡ nat_lt 0 (length back) = grind (arith, nat_tests, length-append front back, some) in
    rw (more, byte) refl

-- bytes that a line feed ends
pub is_unended-feed : (line : List ℕ) → is_unended (line ++ line_feed ∷ []) ≡ false
unfolding is_unended
is_unended-feed line = is_unended-behind line (line_feed ∷ []) (omega arith) ∙ refl

-- bytes without one
pub is_unended-last : (line : List ℕ) → has_feed line ≡ false → 0 < length line → is_unended line ≡ true
unfolding is_unended
is_unended-last [] h some = absurd (omega arith)
is_unended-last (c ∷ []) h some = let parts = first_free c [] h in rw parts.0 refl
is_unended-last (c ∷ d ∷ line) h some =
    let parts = first_free c (d ∷ line) h in
    is_unended-behind (c ∷ []) (d ∷ line) (omega arith) ∙ is_unended-last (d ∷ line) parts.1 (omega arith)

-- bytes with no line feed stand in the first line
pub first_line-within : (front rest : List ℕ) → has_feed front ≡ false → length front ≤ length (first_line (front ++ rest))
first_line-within [] rest h = omega arith
first_line-within (c ∷ front) rest h =
    let parts = first_free c front h in
    let less = first_line-within front rest parts.1 in
    let whole : first_line (c ∷ (front ++ rest)) ≡ c ∷ first_line (front ++ rest) = rw parts.0 refl in
    omega (arith, less, ap length whole)
