-- How a text is shown from its first letter or byte on.
use Rattle.std.proofs.Common.{◌≡◌, ℕ, ◌<◌, List, [], ◌∷◌, ◌++◌, length, drop, get_or, Some, None, refl, sym, ap, inl, inr, arith, ◌∙◌}
use Rattle.std.proofs.lemmas.Bool.{cases_Bool}
use Rattle.std.proofs.lemmas.List.{append-nil, append_assoc}
use Rattle.csv.specs.Records.{field_at}
use Rattle.csv_records.specs.Fields.{Record}
use Rattle.fault_texts.specs.HeaderText.{first_field}
use Rattle.fault_texts.specs.Shown.{first_letter, is_letter, shown, shown_byte}

-- a letter, and what is behind it
pub letter_shown : (rest letter : List ℕ) → Some letter ≡ first_letter rest → letter ++ shown (drop 2 rest) ≡ shown rest
unfolding shown
letter_shown [] letter e = cc e
letter_shown (byte ∷ []) letter e = cc e
letter_shown (first ∷ second ∷ rest) letter e = elim (cases_Bool (is_letter first second)) [
  | inl is ↦
      let same : letter ≡ first ∷ second ∷ [] = cc (rw is at e) in
      rw (same, is) refl
  | inr other ↦ cc (rw other at e)
]

-- a byte that begins no letter, and what is behind it
pub byte_shown : (first : ℕ) (rest : List ℕ) → None ≡ first_letter (first ∷ rest) → shown_byte first ++ shown rest ≡ shown (first ∷ rest)
unfolding shown
byte_shown first [] e = rw append-nil refl
byte_shown first (second ∷ rest) e = elim (cases_Bool (is_letter first second)) [
  | inl is ↦ cc (rw is at e)
  | inr other ↦ rw other refl
]

pub shown_nil : shown [] ≡ []
unfolding shown
shown_nil = refl

-- the first field of a record
pub first_known : (fields : Record) (field : List ℕ) → Some field ≡ field_at fields 0 → field ≡ first_field fields
unfolding field_at
first_known [] field e = cc e
first_known (f ∷ fields) field e = cc e

pub first_none : (fields : Record) → None ≡ field_at fields 0 → [] ≡ first_field fields
unfolding field_at
first_none [] e = refl
first_none (f ∷ fields) e = cc e

-- a part that is added, and what is still to be shown behind it
pub added_shown : (old new part rest whole : List ℕ) → new ≡ old ++ part → part ++ rest ≡ whole → new ++ rest ≡ old ++ whole
added_shown old new part rest whole is all = rw (is, append_assoc) (ap (λ (l : List ℕ). old ++ l) all)

pub first_byte_shown : (rest : List ℕ) → 0 < length rest → None ≡ first_letter rest → shown_byte (get_or rest 0 0) ++ shown (drop 1 rest) ≡ shown rest
first_byte_shown [] h e = absurd (omega arith)
first_byte_shown (first ∷ rest) h e = byte_shown first rest e

-- nothing is left to be shown
pub all_shown : (text rest whole : List ℕ) → length rest ≡ 0 → text ++ shown rest ≡ whole → text ≡ whole
all_shown text [] whole none is = sym (append-nil text) ∙ rw shown_nil at is
all_shown text (byte ∷ rest) whole none is = absurd (omega arith)

-- four parts, one behind the other
pub four_parts : (old a b c d one two three four : List ℕ) → one ≡ old ++ a → two ≡ one ++ b → three ≡ two ++ c → four ≡ three ++ d → four ≡ old ++ (((a ++ b) ++ c) ++ d)
four_parts old a b c d one two three four p q r s = rw (s, r, q, p) (simp append_assoc refl)
