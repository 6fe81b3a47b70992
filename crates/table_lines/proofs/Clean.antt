-- Texts that stand for themselves in quotes: printable ASCII without a quote and a backslash.
use Rattle.std.proofs.Common.{◌≡◌, ℕ, zero, suc, ◌/◌, ◌%◌, ◌<◌, Bool, true, false, cond, ◌&&◌, ◌==◌, List, [], ◌∷◌, ◌++◌, decimal, refl, ◌∙◌, arith}
use Rattle.std.specs.Prelude.{nat_lt}
use Rattle.std.specs.Fmt.{digits, digits_onto, digit_glyph}
use Rattle.std.specs.List.{list_all}
use Rattle.std.specs.Str.{IsAscii}
use Rattle.std.proofs.lemmas.Bool.{and_parts, ne_eqb}
use Rattle.std.proofs.lemmas.Bool.Decides.{nat_tests}
use Rattle.std.proofs.lemmas.List.Folds.{list_all-append}
use Rattle.line_engine.specs.Lines.{has_feed}
use Rattle.line_fields.specs.inner.PlainTexts.{is_plain}

abbrev pub is_clean : ℕ → Bool
is_clean c = is_plain c && nat_lt c 128

abbrev pub AreClean : List ℕ → Type 0
AreClean text = list_all is_clean text ≡ true

pub clean-append : (a b : List ℕ) → AreClean a → AreClean b → AreClean (a ++ b)
clean-append a b p q = list_all-append is_clean a b ∙ rw (p, q) refl

all_weaker : (p q : ℕ → Bool) → ((c : ℕ) → p c ≡ true → q c ≡ true) → (xs : List ℕ) → list_all p xs ≡ true → list_all q xs ≡ true
all_weaker p q f [] h = refl
all_weaker p q f (x ∷ xs) h = let both = and_parts (p x) (list_all p xs) h in rw (f x both.0, all_weaker p q f xs both.1) refl

-- what each of a text's characters is, by a test that lets clean ones through alone
pub clean_by : (p : ℕ → Bool) → ((c : ℕ) → p c ≡ true → is_clean c ≡ true) → (text : List ℕ) → list_all p text ≡ true → AreClean text
clean_by p f text h = all_weaker p is_clean f text h

pub plain-clean : (text : List ℕ) → AreClean text → list_all is_plain text ≡ true
plain-clean text h = all_weaker is_clean is_plain (λ c clean. (and_parts (is_plain c) (nat_lt c 128) clean).0) text h

abbrev is_below_128 : ℕ → Bool
is_below_128 c = nat_lt c 128

below_128 : (c : ℕ) → is_below_128 c ≡ true → c < 128
below_128 c h = grind (arith, nat_tests)

-- a test that computes on literals
pub ascii_by : (text : List ℕ) → list_all (λ c. nat_lt c 128) text ≡ true → IsAscii text
ascii_by [] h i = omega arith
ascii_by (c ∷ text) h zero = below_128 c (and_parts (is_below_128 c) (list_all is_below_128 text) h).0
ascii_by (c ∷ text) h (suc i) = ascii_by text (and_parts (is_below_128 c) (list_all is_below_128 text) h).1 i

pub ascii-clean : (text : List ℕ) → AreClean text → IsAscii text
ascii-clean text h = ascii_by text (all_weaker is_clean is_below_128 (λ c clean. (and_parts (is_plain c) (is_below_128 c) clean).1) text h)

no_feed_at : (c : ℕ) → is_clean c ≡ true → (c == 10) ≡ false
no_feed_at c clean = ne_eqb c 10 (λ e. absurd (grind (arith, nat_tests)))

pub free-clean : (text : List ℕ) → AreClean text → has_feed text ≡ false
free-clean [] h = refl
free-clean (c ∷ text) h = let both = and_parts (is_clean c) (list_all is_clean text) h in rw (no_feed_at c both.0, free-clean text both.1) refl

-- ---- numbers

digit_clean : (d : ℕ) → d < 10 → is_clean (digit_glyph false d) ≡ true
digit_clean d small = grind (arith, nat_tests)

either_clean : (b : Bool) (a c : List ℕ) → AreClean a → AreClean c → AreClean (cond b a c)
either_clean true a c p q = p
either_clean false a c p q = q

digits_clean : (k n : ℕ) (behind : List ℕ) → AreClean behind → AreClean (digits_onto k 10 false n behind)
digits_clean zero n behind h = h
digits_clean (suc k) n behind h =
    let more : AreClean (digit_glyph false (n % 10) ∷ behind) = rw (digit_clean (n % 10) (omega arith), h) refl in
    either_clean (n / 10 == 0) (digit_glyph false (n % 10) ∷ behind) (digits_onto k 10 false (n / 10) (digit_glyph false (n % 10) ∷ behind)) more
    (digits_clean k (n / 10) (digit_glyph false (n % 10) ∷ behind) more)

pub decimal_clean : (n : ℕ) → AreClean (decimal n)
unfolding digits
decimal_clean n = digits_clean 64 n [] refl
