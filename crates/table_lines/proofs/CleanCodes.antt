-- The codes that a line lists need no escape.
use Rattle.std.proofs.Common.{◌≡◌, ℕ, ◌%◌, Bool, true, false, cond, not, ◌==◌, List, [], ◌∷◌, length, Result, Ok, Err, refl, subst, arith}
use Rattle.std.specs.Char.{is_ascii_digit}
use Rattle.std.specs.List.{AllByRecursion, list_all}
use Rattle.std.proofs.lemmas.Bool.{and_parts}
use Rattle.std.proofs.lemmas.Bool.Decides.{nat_tests}
use Rattle.serde_json.specs.Data.{Data, Items, no_items, item}
use Rattle.rail_codes.specs.OrderId.{is_order_character, is_order_id, order_id_of}
use Rattle.rail_codes.specs.WagonNumber.{are_twelve_digits, kept_characters, wagon_number_of, weighted_digit_sum}
use Rattle.rail_codes.specs.declared.code_fault.CodeFault.{CodeFault}
use Rattle.rail_codes.specs.declared.code_fault.CodeFault.TheVariants.{NotTwelveDigits, CheckDigit, BadOrderId}
use Rattle.line_fields.specs.Fields.{field_of, in_field, list_at, member}
use Rattle.line_fields.specs.Values.{◌>>=◌, code_from, each, list_of, list_of_each, order_id_from, text_of, wagon_number_from, with_code}
use Rattle.line_fields.specs.declared.field.Field.{Field}
use Rattle.line_fields.specs.declared.fault.FieldFault.{FieldFault}
use Rattle.line_fields.specs.declared.fault.LineFault.{LineFault}
use Rattle.table_lines.proofs.Clean.{AreClean, clean_by, is_clean}

-- ---- a code

digit_is_clean : (c : ℕ) → is_ascii_digit c ≡ true → is_clean c ≡ true
digit_is_clean c h = grind (arith, nat_tests)

order_character_is_clean : (c : ℕ) → is_order_character c ≡ true → is_clean c ≡ true
order_character_is_clean c h = grind (arith, nat_tests)

twelve_clean : (number : List ℕ) → are_twelve_digits number ≡ true → AreClean number
twelve_clean number h = clean_by is_ascii_digit digit_is_clean number (and_parts (length number == 12) (list_all is_ascii_digit number) h).1

wagon_by : (b c : Bool) (characters number : List ℕ) → (b ≡ true → AreClean characters)
    → cond (not b) (Err NotTwelveDigits) (cond c (Ok characters) (Err CheckDigit)) ≡ Ok number → AreClean number
wagon_by true true characters number h e = let same : characters ≡ number = cc in subst AreClean same (h refl)
wagon_by true false characters number h e = absurd cc
wagon_by false c characters number h e = absurd cc

wagon_clean : (text number : List ℕ) → wagon_number_of text ≡ Ok number → AreClean number
wagon_clean text number h =
    let kept = kept_characters text in wagon_by (are_twelve_digits kept) (weighted_digit_sum kept % 10 == 0) kept number (twelve_clean kept) h

id_clean : (text : List ℕ) → is_order_id text ≡ true → AreClean text
id_clean text h = clean_by is_order_character order_character_is_clean text (and_parts _ (list_all is_order_character text) h).1

order_by : (b : Bool) (text id : List ℕ) → (b ≡ true → AreClean text) → cond b (Ok text) (Err BadOrderId) ≡ Ok id → AreClean id
order_by true text id h e = let same : text ≡ id = cc in subst AreClean same (h refl)
order_by false text id h e = absurd cc

order_clean : (text id : List ℕ) → order_id_of text ≡ Ok id → AreClean id
order_clean text id h = order_by (is_order_id text) text id (id_clean text) h

-- ---- lists of codes that were read

with_code_is : (r : Result (List ℕ) CodeFault) (code : List ℕ) → with_code r ≡ Ok code → r ≡ Ok code
with_code_is (Ok x) code h = cc
with_code_is (Err e) code h = absurd cc

code_by : (r : Result (List ℕ) FieldFault) (read : List ℕ → Result (List ℕ) CodeFault) (code : List ℕ) → ((text : List ℕ) → read text ≡ Ok code → AreClean code)
    → (r >>= λ text. with_code (read text)) ≡ Ok code → AreClean code
code_by (Ok text) read code f h = f text (with_code_is (read text) code h)
code_by (Err e) read code f h = absurd cc

code_clean : (read : List ℕ → Result (List ℕ) CodeFault) → ((text code : List ℕ) → read text ≡ Ok code → AreClean code)
    → (d : Data) (code : List ℕ) → code_from read d ≡ Ok code → AreClean code
unfolding code_from
code_clean read f d code h = code_by (text_of d) read code (λ text. f text code) h

abbrev ReadsClean : (Data → Result (List ℕ) FieldFault) → Type 0
ReadsClean read = (d : Data) (code : List ℕ) → read d ≡ Ok code → AreClean code

more_clean : (one : Result (List ℕ) FieldFault) (more : Result (List (List ℕ)) FieldFault) (codes : List (List ℕ))
    → ((code : List ℕ) → one ≡ Ok code → AreClean code) → ((others : List (List ℕ)) → more ≡ Ok others → AllByRecursion AreClean others)
    → (one >>= λ x. more >>= λ xs. Ok (x ∷ xs)) ≡ Ok codes → AllByRecursion AreClean codes
more_clean (Ok x) (Ok xs) codes f g h = let same : x ∷ xs ≡ codes = cc in subst (AllByRecursion AreClean) same (f x refl, g xs refl)
more_clean (Ok x) (Err e) codes f g h = absurd cc
more_clean (Err e) more codes f g h = absurd cc

each_clean : (read : Data → Result (List ℕ) FieldFault) → ReadsClean read → (ds : Items) (codes : List (List ℕ)) → each read ds ≡ Ok codes → AllByRecursion AreClean codes
unfolding each
each_clean read f no_items codes h = let same : [] ≡ codes = cc in subst (AllByRecursion AreClean) same tt
each_clean read f (item d ds) codes h = more_clean (read d) (each read ds) codes (f d) (each_clean read f ds) h

items_clean : (read : Data → Result (List ℕ) FieldFault) → ReadsClean read → (r : Result Items FieldFault) (codes : List (List ℕ)) → (r >>= each read) ≡ Ok codes → AllByRecursion AreClean codes
items_clean read f (Ok ds) codes h = each_clean read f ds codes h
items_clean read f (Err e) codes h = absurd cc

in_field_is : (f : Field) (r : Result (List (List ℕ)) FieldFault) (codes : List (List ℕ)) → in_field f r ≡ Ok codes → r ≡ Ok codes
in_field_is f (Ok x) codes h = cc
in_field_is f (Err e) codes h = absurd cc

member_clean : (read : Data → Result (List ℕ) FieldFault) → ReadsClean read → (f : Field) (r : Result Data LineFault) (codes : List (List ℕ))
    → (r >>= λ value. in_field f (list_of_each read value)) ≡ Ok codes → AllByRecursion AreClean codes
unfolding list_of_each
member_clean read clean f (Ok value) codes h = items_clean read clean (list_of value) codes (in_field_is f (list_of value >>= each read) codes h)
member_clean read clean f (Err e) codes h = absurd cc

-- a list of codes in a field
list_clean : (read : Data → Result (List ℕ) FieldFault) → ReadsClean read → (f : Field) (d : Data) (codes : List (List ℕ)) → list_at read f d ≡ Ok codes → AllByRecursion AreClean codes
unfolding field_of
list_clean read clean f d codes h = member_clean read clean f (member f d) codes h

pub wagons_clean : (f : Field) (d : Data) (wagons : List (List ℕ)) → list_at wagon_number_from f d ≡ Ok wagons → AllByRecursion AreClean wagons
wagons_clean f d wagons h = list_clean wagon_number_from (code_clean wagon_number_of wagon_clean) f d wagons h

pub orders_clean : (f : Field) (d : Data) (orders : List (List ℕ)) → list_at order_id_from f d ≡ Ok orders → AllByRecursion AreClean orders
orders_clean f d orders h = list_clean order_id_from (code_clean order_id_of order_clean) f d orders h
