-- JSON texts without spaces: what they spell is read back.
use Rattle.std.proofs.Common.{◌≡◌, ℕ, ◌+◌, ◌-◌, ◌*◌, ◌/◌, ◌%◌, ◌^◌, ◌<◌, ◌≤◌, length, get_or, take, decimal, true, List, [], ◌∷◌, ◌++◌, Some, option_and_then, refl, sym, ap, ◌∙◌, append-nil, arith}
use Rattle.std.specs.List.{list_all}
use Rattle.std.proofs.lemmas.Bool.{and_parts}
use Rattle.std.proofs.lemmas.Bool.Decides.{nat_tests}
use Rattle.std.specs.Str.Pattern.{StripsPrefix, FindsTextPrefix}
use Rattle.std.proofs.lemmas.Fmt.{decimal_digit, decimal_step}
use Rattle.std.proofs.lemmas.List.{take_more, take_all}
use Rattle.json.specs.Json as json
use Rattle.json.specs.Print.{escape, escape_byte, print}
use Rattle.json.specs.Tree.{HasNumbers, json_tokens, depth}
use Rattle.json.proofs.Printed.Strings.{escape_byte_plain}
use Rattle.json.proofs.Printed.Tokens.{tokens-print}
use Rattle.json.proofs.Printed.Trees.{value-json_tokens, ArePrintable-json_tokens}
use Rattle.serde_json.specs.Data.{Data}
use Rattle.serde_json.specs.Read.{of_json, read}
use Rattle.line_fields.specs.inner.PlainTexts.{is_plain}

plain_byte : (x : ℕ) → is_plain x ≡ true → escape_byte x ≡ x ∷ []
plain_byte x plain = escape_byte_plain x (λ e. absurd (grind (arith, nat_tests))) (λ e. absurd (grind (arith, nat_tests))) (grind (arith, nat_tests))

-- what has nothing to escape stands for itself
pub escape-plain : (s : List ℕ) → list_all is_plain s ≡ true → escape s ≡ s
escape-plain [] plain = refl
escape-plain (x ∷ s) plain =
    let both = and_parts (is_plain x) (list_all is_plain s) plain in
    rw (plain_byte x both.0) (ap (λ l. x ∷ l) (escape-plain s both.1))

-- the text of a value without spaces is read as that value
pub read-print : (j : json.Json) (d : Data) → HasNumbers j → depth j ≤ 127 → of_json j ≡ Some d → read (print (json_tokens j)) ≡ Some d
read-print j d numbers shallow is =
    let whole = tokens-print (json_tokens j) (ArePrintable-json_tokens j numbers) ∙ sym (append-nil (json_tokens j)) in
    ap (λ ts. option_and_then of_json (option_and_then (λ p. json.if_last p.0 p.1) (json.value 127 ts))) whole
    ∙ ap (λ o. option_and_then of_json (option_and_then (λ p. json.if_last p.0 p.1) o)) (value-json_tokens j 127 [] shallow)
    ∙ is

-- the first digit
pub decimal-first : (digits : List ℕ) → 0 < length digits → 48 ≤ get_or digits 0 0 → get_or digits 0 0 < 58 → take 1 digits ≡ decimal (get_or digits 0 0 - 48)
decimal-first [] some low high = absurd (omega arith)
decimal-first (digit ∷ digits) some low high =
    let same : 48 + (digit - 48) ≡ digit = omega arith in
    sym (decimal_digit (digit - 48) (omega arith) ∙ ap (λ x. x ∷ []) same)

-- one digit more
pub decimal-more : (digits : List ℕ) (i n : ℕ) → i < length digits → 1 ≤ n → n < 10 ^ 18 → 48 ≤ get_or digits i 0 → get_or digits i 0 < 58
    → take i digits ≡ decimal n → take (i + 1) digits ≡ decimal (n * 10 + (get_or digits i 0 - 48))
decimal-more digits i n inside some fits low high written =
    let m = n * 10 + (get_or digits i 0 - 48) in
    let front : m / 10 ≡ n = omega arith in
    let last : 48 + m % 10 ≡ get_or digits i 0 = omega arith in
    take_more digits i 0 inside ∙ ap (λ l. l ++ get_or digits i 0 ∷ []) written
    ∙ sym (decimal_step m (omega arith) (omega arith) ∙ rw (front, last) refl)

pub only_zero : (digits : List ℕ) → length digits ≡ 1 → get_or digits 0 0 ≡ 48 → digits ≡ decimal 0
only_zero digits one zero_first =
    let first = decimal-first digits (omega arith) (omega arith) (omega arith) in
    let none : get_or digits 0 0 - 48 ≡ 0 = omega arith in
    sym (take_all 1 digits (omega arith)) ∙ first ∙ ap decimal none

-- what stands behind an opening
pub strip_prefix_text : (opening text behind : List ℕ) → StripsPrefix (FindsTextPrefix opening) text behind → text ≡ opening ++ behind
strip_prefix_text opening text behind h = h.1.1 ∙ ap (λ l. opening ++ l) (sym h.2)
