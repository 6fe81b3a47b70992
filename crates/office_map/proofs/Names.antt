-- Codes have no quote and no backslash, and names in a cell no bracket.
use Rattle.std.proofs.Common.{◌≡◌, ◌≤◌, ◌+◌, ◌/◌, ◌%◌, ℕ, List, [], ◌∷◌, Bool, true, false, take, drop, take-append-drop, refl, sym, ap, ◌∙◌, arith}
use Rattle.std.specs.Prelude.{◌&&◌, ◌||◌, ◌==◌, if◌then◌else◌, chars, codes, encode_utf8, nat_le, nat_lt, not}
use Rattle.std.specs.Char.{is_ascii_alphabetic, is_ascii_digit, is_ascii_uppercase}
use Rattle.std.specs.Cmp.Derive.{both_true}
use Rattle.std.specs.List.{flat_map, list_all}
use Rattle.std.proofs.lemmas.Bool.Decides.{nat_tests}
use lib.Utf8.{encode}
use Rattle.std.proofs.lemmas.List.Folds.{list_all-append}
use Rattle.std.proofs.lemmas.List.Sums.{AllPass-from_list_all, list_all-from_AllPass}
use Rattle.rail_codes.specs.OrderId.{is_order_character}
use Rattle.office_map.specs.Laws.{NamesStayInQuotes, is_no_bracket, is_plain}
use Rattle.office_map.specs.Names.{escaped_character}

left : (a b : Bool) → (a && b) ≡ true → a ≡ true
left true b h = refl
left false b h = h

right : (a b : Bool) → (a && b) ≡ true → b ≡ true
right true b h = h
right false b h = absurd cc

-- what is true of each is so of something weaker
weaker : (p q : ℕ → Bool) → ((c : ℕ) → p c ≡ true → q c ≡ true) → (xs : List ℕ) → list_all p xs ≡ true → list_all q xs ≡ true
weaker p q h xs all = list_all-from_AllPass q xs (λ k d lt. h _ (AllPass-from_list_all p xs all k d lt))

plain-upper : (c : ℕ) → is_ascii_uppercase c ≡ true → is_plain c ≡ true
plain-upper c h = grind (arith, nat_tests)

plain-digit : (c : ℕ) → is_ascii_digit c ≡ true → is_plain c ≡ true
plain-digit c h = grind (arith, nat_tests)

plain-letter : (c : ℕ) → is_ascii_alphabetic c ≡ true → is_plain c ≡ true
plain-letter c h = grind (arith, nat_tests)

plain-order : (c : ℕ) → is_order_character c ≡ true → is_plain c ≡ true
plain-order c h = grind (arith, nat_tests)

-- a place in its two parts
plain-parts : (xs : List ℕ) → list_all is_ascii_uppercase (take 2 xs) ≡ true → list_all is_ascii_digit (drop 2 xs) ≡ true → list_all is_plain xs ≡ true
plain-parts xs letters digits =
    ap (list_all is_plain) (sym (take-append-drop 2 xs)) ∙ list_all-append is_plain (take 2 xs) (drop 2 xs)
    ∙ both_true (weaker is_ascii_uppercase is_plain plain-upper (take 2 xs) letters) (weaker is_ascii_digit is_plain plain-digit (drop 2 xs) digits)

-- a byte behind the ASCII characters
high : (c : ℕ) → 128 ≤ c → is_no_bracket c ≡ true
high c h = grind (arith, nat_tests)

two : (c : ℕ) → list_all is_no_bracket ((192 + c / 64) ∷ (128 + c % 64) ∷ []) ≡ true
two c = both_true (high (192 + c / 64) (omega arith)) (both_true (high (128 + c % 64) (omega arith)) refl)

three : (c : ℕ) → list_all is_no_bracket ((224 + c / 4096) ∷ (128 + c / 64 % 64) ∷ (128 + c % 64) ∷ []) ≡ true
three c =
    both_true (high (224 + c / 4096) (omega arith)) (both_true (high (128 + c / 64 % 64) (omega arith)) (both_true (high (128 + c % 64) (omega arith)) refl))

four : (c : ℕ) → list_all is_no_bracket ((240 + c / 262144) ∷ (128 + c / 4096 % 64) ∷ (128 + c / 64 % 64) ∷ (128 + c % 64) ∷ []) ≡ true
four c =
    both_true (high (240 + c / 262144) (omega arith))
    (both_true (high (128 + c / 4096 % 64) (omega arith)) (both_true (high (128 + c / 64 % 64) (omega arith)) (both_true (high (128 + c % 64) (omega arith)) refl)))

-- what is true of each of four texts is so of the one that is chosen
of_four : (x y z : Bool) (a b c d : List ℕ) → list_all is_no_bracket a ≡ true → list_all is_no_bracket b ≡ true → list_all is_no_bracket c ≡ true → list_all is_no_bracket d ≡ true
    → list_all is_no_bracket (if x then a else if y then b else if z then c else d) ≡ true
of_four true y z a b c d ha hb hc hd = ha
of_four false true z a b c d ha hb hc hd = hb
of_four false false true a b c d ha hb hc hd = hc
of_four false false false a b c d ha hb hc hd = hd

encoded : (c : ℕ) → is_no_bracket c ≡ true → list_all is_no_bracket (encode_utf8 c) ≡ true
unfolding encode
encoded c plain = of_four (nat_lt c 128) (nat_lt c 2048) (nat_lt c 65536) _ _ _ _ (both_true plain refl) (two c) (three c) (four c)

neither : (x y : Bool) → x ≡ false → y ≡ false → not (x || y) ≡ true
neither false false h g = refl
neither false true h g = absurd cc
neither true y h g = absurd cc

-- a character in a cell, by what it is
of_six : (a b d e f : Bool) (last : List ℕ) → (b ≡ false → d ≡ false → list_all is_no_bracket last ≡ true)
    → list_all is_no_bracket (if a then codes "&amp;" else if b then codes "&lt;" else if d then codes "&gt;" else if e then 92 ∷ 92 ∷ [] else if f then codes "?" else last) ≡ true
of_six true b d e f last h = refl
of_six false true d e f last h = refl
of_six false false true e f last h = refl
of_six false false false true f last h = refl
of_six false false false false true last h = refl
of_six false false false false false last h = h refl refl

character : (c : ℕ) → list_all is_no_bracket (escaped_character c) ≡ true
character c = of_six (c == 38) (c == 60) (c == 62) (c == 92) (nat_le 65534 c && nat_le c 65535) (encode_utf8 c) (λ less greater. encoded c (neither (c == 60) (c == 62) less greater))

in_cell : (cs : List ℕ) → list_all is_no_bracket (flat_map escaped_character cs) ≡ true
in_cell [] = refl
in_cell (c ∷ cs) = list_all-append is_no_bracket (escaped_character c) (flat_map escaped_character cs) ∙ both_true (character c) (in_cell cs)

pub names : NamesStayInQuotes
names = record {
  places = λ place h. plain-parts place (right _ _ (left _ _ h)) (right _ _ h);
  classes = λ class h. weaker is_ascii_alphabetic is_plain plain-letter class (right _ _ h);
  orders = λ id h. weaker is_order_character is_plain plain-order id (right _ _ h);
  names = λ name. in_cell (chars name);
}
