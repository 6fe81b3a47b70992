-- A text in quotation marks has no control character in it.
use Rattle.std.proofs.Common.{◌≡◌, ℕ, zero, suc, ◌<◌, Bool, true, ◌&&◌, List, [], ◌∷◌, ◌++◌, inl, inr, refl, ◌∙◌, arith}
use Rattle.std.specs.List.{list_all}
use Rattle.std.proofs.lemmas.Bool.{and_from, and_parts, cases_eq, cases_lt, le-leb}
use Rattle.std.proofs.lemmas.List.Folds.{list_all-append}
use Rattle.json.specs.Print.{escape, escape_byte, quoted}
use Rattle.json.proofs.Printed.Strings.{escape_byte_plain}
use Rattle.text_tables.specs.JsonLines.{is_no_control}

-- no control character stands in a text
abbrev pub is_clean : List ℕ → Bool
is_clean text = list_all is_no_control text

pub clean-append : (one other : List ℕ) → is_clean one ≡ true → is_clean other ≡ true → is_clean (one ++ other) ≡ true
clean-append one other h k = list_all-append is_no_control one other ∙ and_from _ _ h k

-- what stands for the bytes below n
abbrev clean_below : ℕ → Bool
clean_below zero = true
clean_below (suc n) = is_clean (escape_byte n) && clean_below n

clean_at : (n : ℕ) → clean_below n ≡ true → (x : ℕ) → x < n → is_clean (escape_byte x) ≡ true
clean_at zero e x h = absurd (omega arith)
clean_at (suc n) e x h =
    let p = and_parts _ _ e in
    elim (cases_eq x n) [ inl same ↦ rw same p.0 | inr other ↦ clean_at n p.1 x (omega arith) ]

all_low : clean_below 93 ≡ true
unfolding escape_byte
all_low = refl

pub clean-byte : (x : ℕ) → is_clean (escape_byte x) ≡ true
clean-byte x = elim (cases_lt x 93) [
  | inl low ↦ clean_at 93 all_low x low
  | inr high ↦ rw (escape_byte_plain x (λ e. omega arith) (λ e. omega arith) (omega arith)) (and_from _ _ (le-leb 32 x (omega arith)) refl)
]

clean-escape : (text : List ℕ) → is_clean (escape text) ≡ true
clean-escape [] = refl
clean-escape (x ∷ text) = clean-append (escape_byte x) (escape text) (clean-byte x) (clean-escape text)

pub clean-quoted : (text : List ℕ) → is_clean (quoted text) ≡ true
clean-quoted text = clean-append (34 ∷ escape text) (34 ∷ []) (clean-escape text) refl
