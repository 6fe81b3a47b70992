-- The front of an input, up to the line feed that ends so many lines.
use Rattle.std.proofs.Common.{◌≡◌, ℕ, zero, suc, ◌+◌, ◌-◌, ◌==◌, ◌<◌, Bool, true, false, List, [], ◌∷◌, ◌++◌, length, take, drop, get_or, if◌then◌else◌, refl, sym, ap, ◌∙◌, append_assoc, arith, sub-one, ◌≤◌, ne_eqb, subst, Option, Some, None}
use Rattle.std.specs.Io.KnownBytes.{Consumes, IsAtEnd}
use Rattle.std.specs.Prelude.{option_map}
use Rattle.std.proofs.Math.Dec.{eqb-suc-zero}
use Rattle.std.proofs.Math.Seq.{take-nil}
use Rattle.std.proofs.lemmas.List.{take_more, drop_more}
use Rattle.line_engine.specs.Lines.{line_feed, lines_of, begin_with}
use Rattle.wagons_program.specs.FirstLines.{AreTheFirstLines, first_lines}

length_taken : (n : ℕ) (xs : List ℕ) → n ≤ length xs → length (take n xs) ≡ n
length_taken zero xs fits = refl
length_taken (suc n) [] fits = absurd (omega arith)
length_taken (suc n) (x ∷ xs) fits = let e : length (take n xs) ≡ n = length_taken n xs (omega arith) in ap suc e

take_taken : (m n : ℕ) (xs : List ℕ) → m ≤ n → take m (take n xs) ≡ take m xs
take_taken zero n xs within = refl
take_taken (suc m) zero xs within = absurd (omega arith)
take_taken (suc m) (suc n) [] within = refl
take_taken (suc m) (suc n) (x ∷ xs) within = ap (λ (t : List ℕ). x ∷ t) (take_taken m n xs (omega arith))

none_read : (count long taken : ℕ) → (0 < long → 0 < taken) → taken ≡ 0 → long ≡ count → count ≡ 0
none_read zero long taken moves none is = refl
none_read (suc n) long taken moves none is = let some : 0 < taken = moves (omega arith) in absurd (omega arith)

-- no byte, where no line is to come
pub none_left : (bytes : List ℕ) → first_lines bytes 0 ≡ []
none_left [] = refl
none_left (c ∷ bytes) = refl

-- how many lines are to come behind a byte
abbrev pub left_after : (c left : ℕ) → ℕ
left_after c left = if c == line_feed then left - 1 else left

-- a byte where some line is to come
pub byte_taken : (c : ℕ) (bytes : List ℕ) (left : ℕ) → 0 < left → first_lines (c ∷ bytes) left ≡ c ∷ first_lines bytes (left_after c left)
byte_taken c bytes zero some = absurd (omega arith)
byte_taken c bytes (suc n) some = rw (eqb-suc-zero n) refl

-- one more byte of a piece
pub one_more : (piece : List ℕ) (i lines left next : ℕ) → i < length piece → 0 < left → next ≡ left_after (get_or piece i 0) left
    → ((rest : List ℕ) → first_lines (piece ++ rest) lines ≡ take i piece ++ first_lines (drop i piece ++ rest) left)
    → (rest : List ℕ) → first_lines (piece ++ rest) lines ≡ take (i + 1) piece ++ first_lines (drop (i + 1) piece ++ rest) next
one_more piece i lines left next within some is before rest =
    before rest
    ∙ ap (λ (t : List ℕ). take i piece ++ first_lines (t ++ rest) left) (drop_more piece i 0 within)
    ∙ ap (λ (t : List ℕ). take i piece ++ t) (byte_taken (get_or piece i 0) (drop (i + 1) piece ++ rest) left some)
    ∙ ap (λ (n : ℕ). take i piece ++ get_or piece i 0 ∷ first_lines (drop (i + 1) piece ++ rest) n) (sym is)
    ∙ sym (append_assoc (take i piece) (get_or piece i 0 ∷ []) (first_lines (drop (i + 1) piece ++ rest) next))
    ∙ ap (λ (t : List ℕ). t ++ first_lines (drop (i + 1) piece ++ rest) next) (sym (take_more piece i 0 within))

-- the rest is cut off, where no line is to come
pub none_more : (piece : List ℕ) (i lines left : ℕ) → left ≡ 0 → ((rest : List ℕ) → first_lines (piece ++ rest) lines ≡ take i piece ++ first_lines (drop i piece ++ rest) left)
    → (rest : List ℕ) → first_lines (piece ++ rest) lines ≡ take i piece ++ first_lines rest left
none_more piece i lines left none before rest =
    before rest
    ∙ ap (λ (n : ℕ). take i piece ++ first_lines (drop i piece ++ rest) n) none
    ∙ ap (λ (t : List ℕ). take i piece ++ t) (none_left (drop i piece ++ rest) ∙ sym (none_left rest))
    ∙ ap (λ (n : ℕ). take i piece ++ first_lines rest n) (sym none)

drop_whole : (piece : List ℕ) → drop (length piece) piece ≡ []
drop_whole [] = refl
drop_whole (c ∷ piece) = drop_whole piece

-- the whole piece
pub whole_piece : (piece : List ℕ) (i lines left : ℕ) → i ≡ length piece → ((rest : List ℕ) → first_lines (piece ++ rest) lines ≡ take i piece ++ first_lines (drop i piece ++ rest) left)
    → (rest : List ℕ) → first_lines (piece ++ rest) lines ≡ take (length piece) piece ++ first_lines rest left
whole_piece piece i lines left all before rest =
    before rest
    ∙ ap (λ (k : ℕ). take k piece ++ first_lines (drop k piece ++ rest) left) all
    ∙ ap (λ (t : List ℕ). take (length piece) piece ++ first_lines (t ++ rest) left) (drop_whole piece)

-- a byte was taken, where a line was to come and none is now
pub some_taken : (i left lines : ℕ) → (i ≡ 0 → left ≡ lines) → left ≡ 0 → 0 < lines → 0 < i
some_taken zero left lines first none some = let e : left ≡ lines = first refl in absurd (omega arith)
some_taken (suc i) left lines first none some = omega arith

pub left_behind_feed : (c left next : ℕ) → c ≡ 10 → next ≡ left - 1 → next ≡ left_after c left
left_behind_feed c left next feed is = is ∙ rw feed refl

pub left_behind_other : (c left next : ℕ) → (c ≡ 10 → ⊥) → next ≡ left → next ≡ left_after c left
left_behind_other c left next other is = is ∙ rw (ne_eqb c 10 other) refl

-- the bytes of an input up to so many lines, where they are known
abbrev pub upto : (lines : ℕ) → Option (List ℕ) → Option (List ℕ)
upto lines known = option_map (λ bytes. first_lines bytes lines) known

-- nothing is read, where no line is to come
pub nothing_read : (left : ℕ) (known : Option (List ℕ)) (buf : List ℕ) → left ≡ 0
    → Consumes (upto left known) (upto left known) (take 0 buf) × (◌≡◌ {A = ℕ} 0 0 → 0 < length buf → IsAtEnd (upto left known))
nothing_read left None buf none = (tt, λ _ _. tt)
nothing_read left (Some bytes) buf none = (refl, λ _ _. rw none (none_left bytes))

at_end : (left : ℕ) (known : Option (List ℕ)) → IsAtEnd known → IsAtEnd (upto left known)
at_end left None end = tt
at_end left (Some bytes) end = rw end refl

front_consumed : (was behind : Option (List ℕ)) (lines left taken : ℕ) (piece : List ℕ) → Consumes was behind piece
    → ((rest : List ℕ) → first_lines (piece ++ rest) lines ≡ take taken piece ++ first_lines rest left)
    → Consumes (upto lines was) (upto left behind) (take taken piece)
front_consumed None behind lines left taken piece consumed first = tt
front_consumed (Some bytes) None lines left taken piece consumed first = absurd consumed
front_consumed (Some bytes) (Some rest) lines left taken piece consumed first = ap (λ (t : List ℕ). first_lines t lines) consumed ∙ first rest

-- the front of what was read, up to the line feed that ends the lines that were to come
pub front_read : (was behind : Option (List ℕ)) (count lines left taken : ℕ) (buf : List ℕ)
    → Consumes was behind (take count buf) × (count ≡ 0 → 0 < length buf → IsAtEnd behind) → count ≤ length buf → 0 < lines
    → taken ≤ length (take count buf) → (0 < lines → 0 < length (take count buf) → 0 < taken)
    → ((rest : List ℕ) → first_lines (take count buf ++ rest) lines ≡ take taken (take count buf) ++ first_lines rest left)
    → Consumes (upto lines was) (upto left behind) (take taken buf) × (taken ≡ 0 → 0 < length buf → IsAtEnd (upto left behind))
front_read was behind count lines left taken buf read fits some within moves first =
    let long : length (take count buf) ≡ count = length_taken count buf fits in
    let front : take taken (take count buf) ≡ take taken buf = take_taken taken count buf (omega arith) in (
      subst (Consumes (upto lines was) (upto left behind)) front (front_consumed was behind lines left taken (take count buf) read.0 first),
      λ none room. at_end left behind (read.1 (none_read count (length (take count buf)) taken (moves some) none long) room),
    )

-- ---- as lines

begin_taken : (c n : ℕ) (lines : List (List ℕ)) → begin_with c (take (suc n) lines) ≡ take (suc n) (begin_with c lines)
begin_taken c n [] = ap (λ (t : List (List ℕ)). (c ∷ []) ∷ t) (sym (take-nil n))
begin_taken c n (line ∷ lines) = refl

by_test : (feed : Bool) (c n : ℕ) (bytes : List ℕ) → lines_of (first_lines bytes n) ≡ take n (lines_of bytes)
    → lines_of (first_lines bytes (suc n)) ≡ take (suc n) (lines_of bytes)
    → (if feed then [] ∷ lines_of (first_lines bytes (if feed then suc n - 1 else suc n)) else begin_with c (lines_of (first_lines bytes (if feed then suc n - 1 else suc n))))
    ≡ take (suc n) (if feed then [] ∷ lines_of bytes else begin_with c (lines_of bytes))
by_test true c n bytes ended more = ap (λ (k : ℕ). [] ∷ lines_of (first_lines bytes k)) (sub-one (suc n)) ∙ ap (λ (t : List (List ℕ)). [] ∷ t) ended
by_test false c n bytes ended more = ap (begin_with c) more ∙ begin_taken c n (lines_of bytes)

pub are_the_first : AreTheFirstLines
are_the_first [] count = sym (take-nil count)
are_the_first (c ∷ bytes) zero = refl
are_the_first (c ∷ bytes) (suc n) =
    ap lines_of (byte_taken c bytes (suc n) (omega arith)) ∙ by_test (c == line_feed) c n bytes (are_the_first bytes n) (are_the_first bytes (suc n))
