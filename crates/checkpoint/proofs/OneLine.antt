-- A text of JSON is one line: a line feed in a text is escaped.
use Rattle.std.proofs.Common.{◌≡◌, ℕ, ◌^◌, ◌<◌, Bool, true, false, not, ◌==◌, List, [], ◌∷◌, ◌++◌, Option, Some, None, map, length, decimal, codes, inl, inr, ◌≤◌, refl, ap, ◌∙◌, subst, arith}
use Rattle.std.specs.Prelude.{⊤}
use Rattle.std.specs.Char.{digit_value}
use Rattle.std.specs.Str.Parse.{AllDigits}
use Rattle.std.proofs.lemmas.Bool.{cases_lt, ne_eqb}
use Rattle.std.proofs.lemmas.Fmt.{decimal_is_IsNumeral}
use Rattle.json.specs.Print.{escape_byte, escape, quoted}
use Rattle.json.proofs.Printed.Strings.{escape_byte_plain}
use Rattle.serde_json.specs.Data.{Data, null, boolean, number, string, array, object, Items, no_items, item, Members, no_members, member}
use Rattle.serde_json.specs.View.{items_of}
use Rattle.serde_json.specs.Written.{number_text, comma_if, compact_text, items_text, members_text}
use Rattle.line_engine.specs.Lines.{has_feed, is_blank, max_line_bytes}
use Rattle.line_engine.proofs.Feeds.{has_feed-append}
use Rattle.line_fields.specs.Commands.{max_revision}
use Rattle.move_messages.specs.OrderLimits.{IsOrder}
use Rattle.move_messages.specs.MaxLoad.{max_load}
use Rattle.wagons_and_orders.specs.declared.wagon_row.WagonRow.{WagonRow}
use Rattle.wagons_and_orders.specs.OrderRow.{OrderRowValue}
use Rattle.checkpoint.specs.Limits.{line_format, max_lines}
use Rattle.checkpoint.specs.LineWriting.{end_data, head_data, order_data, text_if_there, wagon_data, IsOneLine}
use Rattle.checkpoint.proofs.Short.{all_below, holds_below, most_bytes, text_short}

-- ---- texts and numbers

abbrev is_free : ℕ → Bool
is_free x = not (has_feed (escape_byte x))

free_is : (b : Bool) → not b ≡ true → b ≡ false
free_is true h = cc
free_is false h = refl

-- the control characters, a quote and a backslash have escapes
escaped : all_below is_free 93 ≡ true
unfolding escape_byte
escaped = refl

plain_byte : (x : ℕ) → 93 ≤ x → escape_byte x ≡ x ∷ []
plain_byte x above = escape_byte_plain x (λ e. omega arith) (λ e. omega arith) (omega arith)

byte_free : (x : ℕ) → has_feed (escape_byte x) ≡ false
byte_free x = elim (cases_lt x 93) [
  | inl below ↦ free_is (has_feed (escape_byte x)) (holds_below is_free 93 x escaped below)
  | inr above ↦ ap has_feed (plain_byte x above) ∙ rw (ne_eqb x 10 (λ e. omega arith)) refl
]

escape_free : (s : List ℕ) → has_feed (escape s) ≡ false
escape_free [] = refl
escape_free (x ∷ s) = has_feed-append (escape_byte x) (escape s) (byte_free x) (escape_free s)

quoted_free : (s : List ℕ) → has_feed (quoted s) ≡ false
quoted_free s = has_feed-append (escape s) (34 ∷ []) (escape_free s) refl

digits_free : (digits : List ℕ) → AllDigits 10 digits → has_feed digits ≡ false
digits_free [] all = refl
digits_free (d ∷ digits) all =
    let other : (d == 10) ≡ false = ne_eqb d 10 (λ e. let wrong = subst (λ x. digit_value x < 10) e all.0 in omega (arith, wrong)) in
    rw (other, digits_free digits all.1) refl

pub decimal_free : (n : ℕ) → n < 2 ^ 64 → has_feed (decimal n) ≡ false
decimal_free n small = digits_free (decimal n) (decimal_is_IsNumeral n small).0.1

-- ---- values whose numbers have no line feed

abbrev mutual
  pub HasFreeNumbers : Data → Type 0
  HasFreeNumbers null = ⊤
  HasFreeNumbers (boolean b) = ⊤
  HasFreeNumbers (number n) = has_feed (number_text n) ≡ false
  HasFreeNumbers (string s) = ⊤
  HasFreeNumbers (array ds) = ItemsHaveFreeNumbers ds
  HasFreeNumbers (object ms) = MembersHaveFreeNumbers ms

  pub ItemsHaveFreeNumbers : Items → Type 0
  ItemsHaveFreeNumbers no_items = ⊤
  ItemsHaveFreeNumbers (item d ds) = HasFreeNumbers d × ItemsHaveFreeNumbers ds

  pub MembersHaveFreeNumbers : Members → Type 0
  MembersHaveFreeNumbers no_members = ⊤
  MembersHaveFreeNumbers (member k d ms) = HasFreeNumbers d × MembersHaveFreeNumbers ms

comma_free : (later : Bool) → has_feed (comma_if later) ≡ false
comma_free true = refl
comma_free false = refl

mutual
  text_free : (d : Data) → HasFreeNumbers d → has_feed (compact_text d) ≡ false
  text_free null h = refl
  text_free (boolean true) h = refl
  text_free (boolean false) h = refl
  text_free (number n) h = h
  text_free (string s) h = quoted_free s
  text_free (array ds) h = items_free false ds h
  text_free (object ms) h = members_free false ms h

  items_free : (later : Bool) (ds : Items) → ItemsHaveFreeNumbers ds → has_feed (items_text later ds) ≡ false
  items_free later no_items h = refl
  items_free later (item d ds) h =
      has_feed-append (comma_if later) (compact_text d ++ items_text true ds) (comma_free later)
      (has_feed-append (compact_text d) (items_text true ds) (text_free d h.0) (items_free true ds h.1))

  members_free : (later : Bool) (ms : Members) → MembersHaveFreeNumbers ms → has_feed (members_text later ms) ≡ false
  members_free later no_members h = refl
  members_free later (member k d ms) h =
      let value = has_feed-append (compact_text d) (members_text true ms) (text_free d h.0) (members_free true ms h.1) in
      has_feed-append (comma_if later) (quoted k ++ 58 ∷ (compact_text d ++ members_text true ms)) (comma_free later)
      (has_feed-append (quoted k) (58 ∷ (compact_text d ++ members_text true ms)) (quoted_free k) value)

-- a text that isn't blank, and isn't long
one-line : (text : List ℕ) (d : Data) → text ≡ compact_text d → is_blank (compact_text d) ≡ false → HasFreeNumbers d → most_bytes d ≤ max_line_bytes → IsOneLine text
one-line text d is some free short =
    let bytes : length text ≡ length (compact_text d) = ap length is in
    (ap has_feed is ∙ text_free d free, ap is_blank is ∙ some, omega (arith, bytes, text_short d, short))

-- ---- the parts of a line

if_there_free : (name : List ℕ) (text : Option (List ℕ)) (ms : Members) → MembersHaveFreeNumbers ms → MembersHaveFreeNumbers (text_if_there name text ms)
if_there_free name None ms free = free
if_there_free name (Some text) ms free = (tt, free)

texts_free : (texts : List (List ℕ)) → ItemsHaveFreeNumbers (items_of (map string texts))
texts_free [] = tt
texts_free (t ∷ texts) = (tt, texts_free texts)

pub head_one : (network : ℕ) (newest : Option (List ℕ)) (text : List ℕ) → network ≤ max_revision → most_bytes (head_data network newest) ≤ max_line_bytes → text ≡ compact_text (head_data network newest) → IsOneLine text
head_one network newest text small short is =
    one-line text (head_data network newest) is refl (tt, (decimal_free line_format (omega arith), (decimal_free network (omega (arith, small)), if_there_free (codes "newest") newest no_members tt))) short

pub wagon_one : (row : WagonRow) (ready : Option (List ℕ)) (last text : List ℕ) → row.load_limit ≤ max_load → most_bytes (wagon_data row ready last) ≤ max_line_bytes → text ≡ compact_text (wagon_data row ready last)
    → IsOneLine text
wagon_one row ready last text small short is =
    let promise = if_there_free (codes "promise") row.promise no_members tt in
    let back = if_there_free (codes "ready") ready (member (codes "last") (string last) (member (codes "held") (boolean row.held) (text_if_there (codes "promise") row.promise no_members))) (tt, (tt, promise)) in
    one-line text (wagon_data row ready last) is refl (tt, (tt, (tt, (decimal_free row.load_limit (omega (arith, small)), (tt, (tt, back)))))) short

pub order_one : (row : OrderRowValue) (latest text : List ℕ) → IsOrder row.text → most_bytes (order_data row latest) ≤ max_line_bytes → text ≡ compact_text (order_data row latest) → IsOneLine text
order_one row latest text limits short is =
    let load = decimal_free row.text.load (omega (arith, limits.0)) in
    let penalty = decimal_free row.text.penalty (omega (arith, limits.1)) in
    let wagons = decimal_free row.text.wagons (omega (arith, limits.3)) in
    one-line text (order_data row latest) is refl (tt, (tt, (tt, (texts_free row.text.classes, (load, (tt, (penalty, (wagons, (texts_free row.promised, (texts_free row.filled, tt)))))))))) short

pub end_one : (lines : ℕ) (text : List ℕ) → lines ≤ max_lines → most_bytes (end_data lines) ≤ max_line_bytes → text ≡ compact_text (end_data lines) → IsOneLine text
end_one lines text small short is = one-line text (end_data lines) is refl (tt, (decimal_free lines (omega (arith, small)), tt)) short
