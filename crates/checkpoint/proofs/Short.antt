-- The lines of a checkpoint are short: how many bytes a text of JSON has at most, and each line's parts.
use Rattle.std.proofs.Common.{◌≡◌, ℕ, zero, suc, ◌+◌, ◌*◌, ◌<◌, ◌≤◌, Bool, true, false, cond, not, ◌&&◌, List, [], ◌∷◌, ◌++◌, Option, Some, None, Ok, Err, IfSome, All, map, length, decimal, codes, inl, inr, refl, sym, ap, subst, take, drop, arith, length-append}
use Rattle.std.specs.Prelude.{nat_le, ◌==◌}
use Rattle.std.specs.List.{list_all}
use Rattle.std.specs.Char.{is_ascii_alphabetic, is_ascii_digit, is_ascii_uppercase}
use Rattle.std.proofs.lemmas.Bool.{and_parts, cases_lt}
use Rattle.std.proofs.lemmas.Bool.Decides.{nat_tests}
use Rattle.std.proofs.lemmas.Fmt.{length-decimal-le}
use Rattle.std.proofs.lemmas.List.Elements.{All-head, All-tail}
use Rattle.json.specs.Print.{escape_byte, escape, quoted}
use Rattle.json.proofs.Printed.Strings.{escape_byte_plain}
use Rattle.serde_json.specs.Data.{Data, null, boolean, number, string, array, object, Items, no_items, item, Members, no_members, member}
use Rattle.serde_json.specs.View.{items_of}
use Rattle.serde_json.specs.Written.{number_text, comma_if, compact_text, items_text, members_text}
use Rattle.rail_codes.specs.declared.code_fault.CodeFault.{CodeFault}
use Rattle.rail_codes.specs.ClassCode.{class_code_of, is_class_code}
use Rattle.rail_codes.specs.Moment.{clock_text}
use Rattle.rail_codes.specs.OrderId.{is_order_character, is_order_id, order_id_of}
use Rattle.rail_codes.specs.Place.{is_place, place_read}
use Rattle.rail_codes.specs.WagonNumber.{are_twelve_digits, kept_characters, wagon_number_of}
use Rattle.move_messages.specs.OrderLimits.{IsOrder}
use Rattle.move_messages.specs.MaxLoad.{max_load}
use Rattle.line_engine.specs.Lines.{max_line_bytes}
use Rattle.line_fields.specs.Commands.{max_revision}
use Rattle.wagons_and_orders.specs.declared.load.Load.TheVariants.{Loaded, Unladen}
use Rattle.wagons_and_orders.specs.declared.status.Status.{Status}
use Rattle.wagons_and_orders.specs.declared.status.Status.TheVariants.{Empty, Loading, Ready, Journey, Yard, Arrived, Unloading}
use Rattle.wagons_and_orders.specs.declared.wagon_row.WagonRow.{WagonRow}
use Rattle.wagons_and_orders.specs.OrderRow.{IsOrderRow, OrderRowValue}
use Rattle.wagons_and_orders.specs.StatusTable.{place_of}
use Rattle.wagons_and_orders.specs.StatusWords.{ready_moment, status_word}
use Rattle.checkpoint.specs.Limits.{max_lines}
use Rattle.checkpoint.specs.LineWriting.{end_data, head_data, order_data, text_if_there, wagon_data}
use Rattle.checkpoint.specs.inner.Readable.{AreOrderCodes, AreWagonCodes, IsPromiseRead, IsReadableIfThere, IsReadableText}

-- ---- a byte of a text takes at most six

-- a test that all numbers below one pass
abbrev pub all_below : (ℕ → Bool) → ℕ → Bool
all_below p zero = true
all_below p (suc n) = p n && all_below p n

pub holds_below : (p : ℕ → Bool) (n x : ℕ) → all_below p n ≡ true → x < n → p x ≡ true
holds_below p zero x all lt = absurd (omega arith)
holds_below p (suc n) x all lt =
    let both = and_parts (p n) (all_below p n) all in
    elim (cases_lt x n) [ inl below ↦ holds_below p n x both.1 below | inr above ↦ let same : n ≡ x = omega arith in subst (λ y. p y ≡ true) same both.0 ]

abbrev is_short : ℕ → Bool
is_short x = nat_le (length (escape_byte x)) 6

escaped : all_below is_short 93 ≡ true
unfolding escape_byte
escaped = refl

short_by_test : (n m : ℕ) → nat_le n m ≡ true → n ≤ m
short_by_test n m h = grind (arith, nat_tests)

byte_short : (x : ℕ) → length (escape_byte x) ≤ 6
byte_short x = elim (cases_lt x 93) [
  | inl below ↦ short_by_test (length (escape_byte x)) 6 (holds_below is_short 93 x escaped below)
  | inr above ↦ let plain : length (escape_byte x) ≡ 1 = ap length (escape_byte_plain x (λ e. omega arith) (λ e. omega arith) (omega arith)) in omega arith
]

escape_short : (s : List ℕ) → length (escape s) ≤ 6 * length s
escape_short [] = omega arith
escape_short (x ∷ s) =
    let whole : length (escape (x ∷ s)) ≡ length (escape_byte x) + length (escape s) = length-append (escape_byte x) (escape s) in
    let first = byte_short x in
    let rest = escape_short s in
    omega (arith, whole, first, rest)

quoted_short : (s : List ℕ) → length (quoted s) ≤ 2 + 6 * length s
quoted_short s =
    let whole : length (quoted s) ≡ 1 + length (escape s ++ 34 ∷ []) = omega arith in
    let last : length (escape s ++ 34 ∷ []) ≡ length (escape s) + 1 = length-append (escape s) (34 ∷ []) in
    let text = escape_short s in
    omega (arith, whole, last, text)

-- ---- how many bytes a value takes at most

abbrev mutual
  pub most_bytes : Data → ℕ
  most_bytes null = 4
  most_bytes (boolean b) = 5
  most_bytes (number n) = length (number_text n)
  most_bytes (string s) = 2 + 6 * length s
  most_bytes (array ds) = 1 + items_bytes ds
  most_bytes (object ms) = 1 + members_bytes ms

  pub items_bytes : Items → ℕ
  items_bytes no_items = 1
  items_bytes (item d ds) = 1 + most_bytes d + items_bytes ds

  pub members_bytes : Members → ℕ
  members_bytes no_members = 1
  members_bytes (member k d ms) = 4 + 6 * length k + most_bytes d + members_bytes ms

comma_short : (later : Bool) → length (comma_if later) ≤ 1
comma_short true = omega arith
comma_short false = omega arith

item_short : (comma value more : List ℕ) (a b : ℕ) → length comma ≤ 1 → length value ≤ a → length more ≤ b → length (comma ++ (value ++ more)) ≤ 1 + a + b
item_short comma value more a b h g f = omega (arith, length-append comma (value ++ more), length-append value more, h, g, f)

member_short : (comma key value more : List ℕ) (k a b : ℕ) → length comma ≤ 1 → length key ≤ 2 + k → length value ≤ a → length more ≤ b → length (comma ++ (key ++ 58 ∷ (value ++ more))) ≤ 4 + k + a + b
member_short comma key value more k a b h e g f =
    omega (arith, length-append comma (key ++ 58 ∷ (value ++ more)), length-append key (58 ∷ (value ++ more)), length-append value more, h, e, g, f)

one_before : (x : ℕ) (xs : List ℕ) (n : ℕ) → length xs ≤ n → length (x ∷ xs) ≤ 1 + n
one_before x xs n h = omega (arith, h)

itself : (n : ℕ) → n ≤ n
itself n = omega arith

mutual
  pub text_short : (d : Data) → length (compact_text d) ≤ most_bytes d
  text_short null = omega arith
  text_short (boolean true) = omega arith
  text_short (boolean false) = omega arith
  text_short (number n) = itself (length (number_text n))
  text_short (string s) = quoted_short s
  text_short (array ds) = one_before 91 (items_text false ds) (items_bytes ds) (items_short false ds)
  text_short (object ms) = one_before 123 (members_text false ms) (members_bytes ms) (members_short false ms)

  items_short : (later : Bool) (ds : Items) → length (items_text later ds) ≤ items_bytes ds
  items_short later no_items = omega arith
  items_short later (item d ds) = item_short (comma_if later) (compact_text d) (items_text true ds) (most_bytes d) (items_bytes ds) (comma_short later) (text_short d) (items_short true ds)

  members_short : (later : Bool) (ms : Members) → length (members_text later ms) ≤ members_bytes ms
  members_short later no_members = omega arith
  members_short later (member k d ms) =
      member_short (comma_if later) (quoted k) (compact_text d) (members_text true ms) (6 * length k) (most_bytes d) (members_bytes ms) (comma_short later) (quoted_short k) (text_short d) (members_short true ms)

-- ---- codes, moments, words and numbers

read_as : (b : Bool) (text : List ℕ) (fault : CodeFault) → cond b (Ok text) (Err fault) ≡ Ok text → b ≡ true
read_as true text fault h = refl
read_as false text fault h = cc h

class_short : (text : List ℕ) → class_code_of text ≡ Ok text → length text ≤ 12
class_short text h =
    let all = read_as (is_class_code text) text _ h in
    let both = and_parts (nat_le 1 (length text) && nat_le (length text) 12) (list_all is_ascii_alphabetic text) all in
    short_by_test (length text) 12 (and_parts (nat_le 1 (length text)) (nat_le (length text) 12) both.0).1

id_short : (text : List ℕ) → order_id_of text ≡ Ok text → length text ≤ 16
id_short text h =
    let all = read_as (is_order_id text) text _ h in
    let both = and_parts (nat_le 1 (length text) && nat_le (length text) 16) (list_all is_order_character text) all in
    short_by_test (length text) 16 (and_parts (nat_le 1 (length text)) (nat_le (length text) 16) both.0).1

equal_by_test : (n m : ℕ) → (n == m) ≡ true → n ≤ m
equal_by_test n m h = grind (arith, nat_tests)

place_short : (text : List ℕ) → place_read text ≡ Ok text → length text ≤ 7
place_short text h =
    let all = read_as (is_place text) text _ h in
    let both = and_parts (length text == 7 && list_all is_ascii_uppercase (take 2 text)) (list_all is_ascii_digit (drop 2 text)) all in
    equal_by_test (length text) 7 (and_parts (length text == 7) _ both.0).0

twelve : (b c : Bool) (characters text : List ℕ) (f g : CodeFault) → cond (not b) (Err f) (cond c (Ok characters) (Err g)) ≡ Ok text → (b ≡ true) × (characters ≡ text)
twelve true true characters text f g h = (refl, cc h)
twelve true false characters text f g h = cc h
twelve false c characters text f g h = cc h

number_short : (text : List ℕ) → wagon_number_of text ≡ Ok text → length text ≤ 12
number_short text h =
    let (digits, same) = twelve (are_twelve_digits (kept_characters text)) _ (kept_characters text) text _ _ h in
    let both = and_parts (length (kept_characters text) == 12) (list_all is_ascii_digit (kept_characters text)) digits in
    subst (λ (t : List ℕ). length t ≤ 12) same (equal_by_test (length (kept_characters text)) 12 both.0)

moment_short : (seconds : ℕ) (text : List ℕ) → IsReadableText seconds text → length text ≤ 20
unfolding clock_text
moment_short seconds text h = let (shown, at, is) = h.0 in subst (λ (n : ℕ). n ≤ 20) (ap length (sym is)) (omega arith)

moment_if_there : (moment : Option ℕ) (text : Option (List ℕ)) → IsReadableIfThere moment text → IfSome text (λ t. length t ≤ 20)
moment_if_there None None h = tt
moment_if_there None (Some text) h = absurd h
moment_if_there (Some seconds) None h = tt
moment_if_there (Some seconds) (Some text) h = moment_short seconds text h

promise_short : (promise : Option (List ℕ)) → IsPromiseRead promise → IfSome promise (λ t. length t ≤ 16)
promise_short None h = tt
promise_short (Some id) h = id_short id h

word_short : (status : Status) → length (status_word status) ≤ 14
word_short (Empty place ready) = omega arith
word_short (Loading place) = omega arith
word_short (Ready place) = omega arith
word_short (Journey Loaded place) = omega arith
word_short (Journey Unladen place) = omega arith
word_short (Yard Loaded place) = omega arith
word_short (Yard Unladen place) = omega arith
word_short (Arrived Loaded place) = omega arith
word_short (Arrived Unladen place) = omega arith
word_short (Unloading place) = omega arith

-- a number of at most 1,000,000,000
number_bytes : (n : ℕ) → n ≤ 1_000_000_000 → length (decimal n) ≤ 10
number_bytes n small = length-decimal-le 10 n (omega arith) (omega (arith, small)) (omega (arith, small))

texts_short : (texts : List (List ℕ)) → All (λ t. length t ≤ 12) texts → items_bytes (items_of (map string texts)) ≤ 1 + 75 * length texts
texts_short [] h = omega arith
texts_short (t ∷ texts) h =
    let first : length t ≤ 12 = All-head (λ (t : List ℕ). length t ≤ 12) t texts h in
    let rest = texts_short texts (All-tail (λ (t : List ℕ). length t ≤ 12) t texts h) in
    omega (arith, first, rest)

if_there_short : (name : List ℕ) (text : Option (List ℕ)) (ms : Members) (most : ℕ) → IfSome text (λ t. length t ≤ most) → members_bytes (text_if_there name text ms) ≤ 6 + 6 * length name + 6 * most + members_bytes ms
if_there_short name None ms most h = omega arith
if_there_short name (Some text) ms most h = omega (arith, h)

-- ---- the lines

pub head_short : (network : ℕ) (newest : Option ℕ) (text : Option (List ℕ)) → network ≤ max_revision → IsReadableIfThere newest text → most_bytes (head_data network text) ≤ max_line_bytes
head_short network newest text small readable =
    let moment = if_there_short (codes "newest") text no_members 20 (moment_if_there newest text readable) in
    let format = number_bytes 1 (omega arith) in
    let number = number_bytes network (omega (arith, small)) in
    omega (arith, moment, format, number)

pub wagon_short : (row : WagonRow) (ready : Option (List ℕ)) (last : List ℕ) → row.load_limit ≤ max_load → AreWagonCodes row → IsReadableIfThere (ready_moment row.status) ready → IsReadableText row.last last
    → most_bytes (wagon_data row ready last) ≤ max_line_bytes
wagon_short row ready last small read ready_read last_read =
    let promised = text_if_there (codes "promise") row.promise no_members in
    let behind = member (codes "last") (string last) (member (codes "held") (boolean row.held) promised) in
    let promise = if_there_short (codes "promise") row.promise no_members 16 (promise_short row.promise read.promise) in
    let moment = if_there_short (codes "ready") ready behind 20 (moment_if_there (ready_moment row.status) ready ready_read) in
    let number = number_short row.number read.number in
    let class = class_short row.class read.class in
    let place = place_short (place_of row.status) read.place in
    let word = word_short row.status in
    let load = number_bytes row.load_limit (omega (arith, small)) in
    let latest = moment_short row.last last last_read in
    omega (arith, promise, moment, number, class, place, word, load, latest)

pub order_short : (row : OrderRowValue) (latest : List ℕ) → IsOrder row.text → IsOrderRow row → AreOrderCodes row → IsReadableText row.text.latest latest → most_bytes (order_data row latest) ≤ max_line_bytes
order_short row latest limits valid read readable =
    let id = id_short row.text.id read.id in
    let place = place_short row.text.place read.place in
    let classes = texts_short row.text.classes (λ k d below. class_short _ (read.classes k d below)) in
    let few_classes = read.class_count.1 in
    let promised = texts_short row.promised (λ k d below. number_short _ (read.promised k d below)) in
    let filled = texts_short row.filled (λ k d below. number_short _ (read.filled k d below)) in
    let few = valid.no_more in
    let most = limits.3 in
    let load = number_bytes row.text.load (omega (arith, limits.0)) in
    let penalty = number_bytes row.text.penalty (omega (arith, limits.1)) in
    let wagons = number_bytes row.text.wagons (omega (arith, limits.3)) in
    let moment = moment_short row.text.latest latest readable in
    omega (arith, id, place, classes, few_classes, promised, filled, few, most, load, penalty, wagons, moment)

pub end_short : (lines : ℕ) → lines ≤ max_lines → most_bytes (end_data lines) ≤ max_line_bytes
end_short lines small = let count = number_bytes lines (omega (arith, small)) in omega (arith, count)
