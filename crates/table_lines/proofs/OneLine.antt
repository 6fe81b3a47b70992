-- A text of JSON is one line: a line feed in a text is escaped.
use Rattle.std.proofs.Common.{◌≡◌, ℕ, zero, suc, ◌≤◌, ◌<◌, Bool, true, false, not, ◌&&◌, pos, negsuc, List, [], ◌∷◌, ◌++◌, inl, inr, refl, ap, ◌∙◌, subst, decimal, arith}
use Rattle.std.proofs.lemmas.Bool.{and_parts, cases_lt, ne_eqb}
use Rattle.json.specs.Print.{escape_byte, escape, quoted}
use Rattle.json.proofs.Printed.Strings.{escape_byte_plain}
use Rattle.serde_json.specs.Data.{Num, unsigned, negative, float, Data, null, boolean, number, string, array, object, Items, no_items, item, Members, no_members, member}
use Rattle.serde_json.specs.Written.{number_text, comma_if, compact_text, items_text, members_text}
use Rattle.line_engine.specs.Lines.{has_feed}
use Rattle.line_engine.proofs.Feeds.{has_feed-append}
use Rattle.table_lines.proofs.Clean.{decimal_clean, free-clean}

-- ---- texts and numbers

abbrev all_below : (ℕ → Bool) → ℕ → Bool
all_below p zero = true
all_below p (suc n) = p n && all_below p n

holds_below : (p : ℕ → Bool) (n x : ℕ) → all_below p n ≡ true → x < n → p x ≡ true
holds_below p zero x all lt = absurd (omega arith)
holds_below p (suc n) x all lt =
    let both = and_parts (p n) (all_below p n) all in
    elim (cases_lt x n) [ inl below ↦ holds_below p n x both.1 below | inr above ↦ let same : n ≡ x = omega arith in subst (λ y. p y ≡ true) same both.0 ]

abbrev is_free : ℕ → Bool
is_free x = not (has_feed (escape_byte x))

free_is : (b : Bool) → not b ≡ true → b ≡ false
free_is true h = cc
free_is false h = refl

-- the control characters, a quote and a backslash have escapes
escaped : all_below is_free 93 ≡ true
unfolding escape_byte
escaped = refl

plain_byte : (x : ℕ) → 93 ≤ x → escape_byte x ≡ x ∷ []
plain_byte x above = escape_byte_plain x (λ e. omega arith) (λ e. omega arith) (omega arith)

byte_free : (x : ℕ) → has_feed (escape_byte x) ≡ false
byte_free x = elim (cases_lt x 93) [
  | inl below ↦ free_is (has_feed (escape_byte x)) (holds_below is_free 93 x escaped below)
  | inr above ↦ ap has_feed (plain_byte x above) ∙ rw (ne_eqb x 10 (λ e. omega arith)) refl
]

escape_free : (s : List ℕ) → has_feed (escape s) ≡ false
escape_free [] = refl
escape_free (x ∷ s) = has_feed-append (escape_byte x) (escape s) (byte_free x) (escape_free s)

quoted_free : (s : List ℕ) → has_feed (quoted s) ≡ false
quoted_free s = has_feed-append (escape s) (34 ∷ []) (escape_free s) refl

number_free : (n : Num) → has_feed (number_text n) ≡ false
number_free (unsigned n) = free-clean (decimal n) (decimal_clean n)
number_free (negative (pos n)) = free-clean (decimal n) (decimal_clean n)
number_free (negative (negsuc n)) = free-clean (decimal (suc n)) (decimal_clean (suc n))
number_free (float x) = refl

-- ---- values

comma_free : (later : Bool) → has_feed (comma_if later) ≡ false
comma_free true = refl
comma_free false = refl

mutual
  pub text_free : (d : Data) → has_feed (compact_text d) ≡ false
  text_free null = refl
  text_free (boolean true) = refl
  text_free (boolean false) = refl
  text_free (number n) = number_free n
  text_free (string s) = quoted_free s
  text_free (array ds) = items_free false ds
  text_free (object ms) = members_free false ms

  items_free : (later : Bool) (ds : Items) → has_feed (items_text later ds) ≡ false
  items_free later no_items = refl
  items_free later (item d ds) =
      has_feed-append (comma_if later) (compact_text d ++ items_text true ds) (comma_free later)
      (has_feed-append (compact_text d) (items_text true ds) (text_free d) (items_free true ds))

  members_free : (later : Bool) (ms : Members) → has_feed (members_text later ms) ≡ false
  members_free later no_members = refl
  members_free later (member k d ms) =
      let value = has_feed-append (compact_text d) (members_text true ms) (text_free d) (members_free true ms) in
      has_feed-append (comma_if later) (quoted k ++ 58 ∷ (compact_text d ++ members_text true ms)) (comma_free later)
      (has_feed-append (quoted k) (58 ∷ (compact_text d ++ members_text true ms)) (quoted_free k) value)
