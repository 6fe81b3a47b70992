-- Values off the tokens of a line, one after the other.
use Rattle.std.proofs.Common.{◌≡◌, ℕ, suc, ◌-◌, ◌<◌, ◌≤◌, List, [], ◌∷◌, ◌++◌, length, map, Option, Some, None, Result, Ok, refl, ap, ◌∙◌, subst, append_assoc, append-nil, arith}
use Rattle.std.specs.Global.{Vec}
use Rattle.json.specs.Token.{Token}
use Rattle.json.specs.Json.{parse_map, after_end_array, items, value}
use Rattle.json.proofs.Grammar.{value_is, value-begin_array}
use Rattle.serde_json.specs.Data.{Data, null, unsigned, number, string, array, Items, no_items, item}
use Rattle.serde_json.specs.Read.{number_of, of_json, of_items, converted}
use Rattle.table_lines.proofs.Turns.{converted-array, item_read, items_over, none_before}
use Rattle.line_fields.specs.declared.fault.FieldFault.{FieldFault}
use Rattle.line_fields.specs.Values.{text_of, code_from, number_within, wagon_number_from, order_id_from, list_of, each, list_of_each, wagon_and_order}
use Rattle.rail_codes.specs.declared.code_fault.CodeFault.{CodeFault}
use Rattle.cost_table.specs.TableLimits.{max_cost}
use Rattle.std.specs.Prelude.{◌^◌, ◌==◌, ⊤, SomeIff, IfSome, nat_le, nat_lt, slice_index, true, false}
use Rattle.fast_float.specs.Text.{IsInteger, scan, digits_of}
use Rattle.std.proofs.lemmas.Bool.Decides.{nat_tests}
use Rattle.table_lines.specs.TableLine.{cell_of, row_of}
use Rattle.table_lines.specs.inner.Tokens.{Spells, AreRead, IsListOf, SpellsItems}

-- ---- one token

text_spelled : (s : List ℕ) (rest : List Token) (depth : ℕ) → converted of_json (value depth (Token.string s ∷ rest)) ≡ Some (string s, rest)
text_spelled s rest depth = ap (converted of_json) (value_is depth (Token.string s ∷ rest))

number_spelled : (s : List ℕ) (rest : List Token) (n depth : ℕ) → number_of s ≡ Some (unsigned n) → converted of_json (value depth (Token.number s ∷ rest)) ≡ Some (number (unsigned n), rest)
number_spelled s rest n depth e = ap (converted of_json) (value_is depth (Token.number s ∷ rest)) ∙ rw e refl

null_spelled : (rest : List Token) (depth : ℕ) → converted of_json (value depth (Token.null ∷ rest)) ≡ Some (null, rest)
null_spelled rest depth = ap (converted of_json) (value_is depth (Token.null ∷ rest))

pub code_spelled : {A : Type 0} (read : List ℕ → Result A CodeFault) (ts rest : List Token) (s : List ℕ) (code : A) → ts ≡ Token.string s ∷ rest → read s ≡ Ok code
    → Spells 0 (λ d. code_from read d ≡ Ok code) ts rest
unfolding code_from text_of
code_spelled read ts rest s code e r = (string s, rw r refl, λ depth le. rw e (text_spelled s rest depth))

within_is : (low high n : ℕ) → low ≤ n → n ≤ high → number_within low high (number (unsigned n)) ≡ Ok n
unfolding number_within
within_is low high n above below =
    let least : nat_le low n ≡ true = grind (arith, nat_tests, above) in
    let most : nat_le n high ≡ true = grind (arith, nat_tests, below) in
    rw (least, most) refl

-- a number's token, and what it writes
abbrev pub IsNumberToken : List Token → List Token → ℕ → Type 0
IsNumberToken ts rest n = (s : List ℕ) × (ts ≡ Token.number s ∷ rest) × (number_of s ≡ Some (unsigned n))

pub number_is_spelled : (ts rest : List Token) (low high n : ℕ) → IsNumberToken ts rest n → low ≤ n → n ≤ high → Spells 0 (λ d. number_within low high d ≡ Ok n) ts rest
number_is_spelled ts rest low high n t above below = (number (unsigned n), within_is low high n above below, λ depth le. rw t.1 (number_spelled t.0 rest n depth t.2))

pub some_number_is_spelled : (ts rest : List Token) (n : ℕ) → IsNumberToken ts rest n → Spells 0 (λ _. ⊤) ts rest
some_number_is_spelled ts rest n t = (number (unsigned n), tt, λ depth le. rw t.1 (number_spelled t.0 rest n depth t.2))

pub cell_is_spelled : (ts rest : List Token) (s : List ℕ) (n : ℕ) → ts ≡ Token.number s ∷ rest → number_of s ≡ Some (unsigned n) → n ≤ max_cost → Spells 0 (λ d. cell_of d ≡ Ok (Some n)) ts rest
unfolding cell_of
cell_is_spelled ts rest s n e r fits = (number (unsigned n), rw (within_is 0 max_cost n (omega arith) fits) refl, λ depth le. rw e (number_spelled s rest n depth r))

pub no_cell_spelled : (ts rest : List Token) → ts ≡ Token.null ∷ rest → Spells 0 (λ d. cell_of d ≡ Ok None) ts rest
unfolding cell_of
no_cell_spelled ts rest e = (null, refl, λ depth le. rw e (null_spelled rest depth))

-- ---- two texts

-- what begins with a value doesn't begin with a closing bracket
no_end : (depth : ℕ) (ts rest : List Token) (d : Data) → converted of_json (value depth ts) ≡ Some (d, rest) → after_end_array ts ≡ None
no_end depth [] rest d e = refl
no_end depth (Token.begin_object ∷ ts) rest d e = refl
no_end depth (Token.end_object ∷ ts) rest d e = refl
no_end depth (Token.begin_array ∷ ts) rest d e = refl
no_end depth (Token.end_array ∷ ts) rest d e =
    let nothing : converted of_json (value depth (Token.end_array ∷ ts)) ≡ None = ap (converted of_json) (value_is depth (Token.end_array ∷ ts)) in
    absurd (cc)
no_end depth (Token.key s ∷ ts) rest d e = refl
no_end depth (Token.string s ∷ ts) rest d e = refl
no_end depth (Token.number s ∷ ts) rest d e = refl
no_end depth (Token.boolean b ∷ ts) rest d e = refl
no_end depth (Token.null ∷ ts) rest d e = refl
no_end depth (Token.bad ∷ ts) rest d e = refl

both_are : (d e : Data) (wagon order : List ℕ) → wagon_number_from d ≡ Ok wagon → order_id_from e ≡ Ok order → wagon_and_order (array (item d (item e no_items))) ≡ Ok (wagon, order)
unfolding wagon_and_order list_of
both_are d e wagon order w o = rw (w, o) refl

pub pair_spelled : (ts a b c rest : List Token) (wagon order : List ℕ) → ts ≡ Token.begin_array ∷ a → Spells 0 (λ d. wagon_number_from d ≡ Ok wagon) a b → length b < length a
    → Spells 0 (λ d. order_id_from d ≡ Ok order) b c → length c < length b → after_end_array c ≡ Some rest → Spells 1 (λ d. wagon_and_order d ≡ Ok (wagon, order)) ts rest
pair_spelled ts a b c rest wagon order opens w fewer o fewer_still close = (
  array (item w.0 (item o.0 no_items)),
  both_are w.0 o.0 wagon order w.1 o.1,
  λ depth le.
      let n = length a in
      let p = value (depth - 1) in
      let first = item_read p n a b w.0 (omega arith) (no_end (depth - 1) a b w.0 (w.2 (depth - 1) (omega arith))) (w.2 (depth - 1) (omega arith)) in
      let second = item_read p (n - 1) b c o.0 (omega arith) (no_end (depth - 1) b c o.0 (o.2 (depth - 1) (omega arith))) (o.2 (depth - 1) (omega arith)) in
      let end = items_over p (n - 1 - 1) c rest (omega arith) close in
      let both = first ∙ ap (parse_map (item w.0)) (second ∙ ap (parse_map (item o.0)) end) in
      rw opens (ap (converted of_json) (value-begin_array depth a (omega arith)) ∙ converted-array (items p n a) ∙ ap (parse_map array) both),
)

-- ---- lists

read_each : {A : Type 0} (read : Data → Result A FieldFault) (ds : Items) (xs : List A) → AreRead (λ d x. read d ≡ Ok x) ds xs → each read ds ≡ Ok xs
unfolding each
read_each read no_items [] h = refl
read_each read no_items (x ∷ xs) h = absurd h
read_each read (item d ds) [] h = absurd h
read_each read (item d ds) (x ∷ xs) h = rw (h.0, read_each read ds xs h.1) refl

pub list_read : {A : Type 0} (read : Data → Result A FieldFault) (ds : Items) (xs : List A) → AreRead (λ d x. read d ≡ Ok x) ds xs → list_of_each read (array ds) ≡ Ok xs
unfolding list_of_each list_of
list_read read ds xs h = read_each read ds xs h

rows_read_each : (ds : Items) (rows : List (Vec (Option ℕ))) → AreRead (λ d row. row_of d ≡ Ok row.items) ds rows → each row_of ds ≡ Ok (map (λ row. row.items) rows)
unfolding each
rows_read_each no_items [] h = refl
rows_read_each no_items (x ∷ xs) h = absurd h
rows_read_each (item d ds) [] h = absurd h
rows_read_each (item d ds) (x ∷ xs) h = rw (h.0, rows_read_each ds xs h.1) refl

pub rows_read : (ds : Items) (rows : List (Vec (Option ℕ))) → AreRead (λ d row. row_of d ≡ Ok row.items) ds rows → list_of_each row_of (array ds) ≡ Ok (map (λ row. row.items) rows)
unfolding list_of_each list_of
rows_read ds rows h = rows_read_each ds rows h

pub row_spelled : (ts rest : List Token) (cells : List (Option ℕ)) → Spells 1 (IsListOf (λ d cell. cell_of d ≡ Ok cell) cells) ts rest → Spells 1 (λ d. row_of d ≡ Ok cells) ts rest
row_spelled ts rest cells s = (s.0, rw s.1.1 (list_read cell_of s.1.0 cells s.1.2), s.2)

-- Of the values behind an opening bracket these are read, and `ts` is left.
pub record Continues {A : Type 0} (nests : ℕ) (reads : Data → A → Type 0) (found : List A) (from ts : List Token) : Type 0 where
  pub before : Items → Items
  pub turns : ℕ
  pub enough : length ts ≤ turns
  pub fewer : length ts ≤ length from
  pub so_far : (depth : ℕ) → nests ≤ depth → converted of_items (items (value depth) (length from) from) ≡ parse_map before (converted of_items (items (value depth) turns ts))
  pub are_read : (ds : Items) (xs : List A) → AreRead reads ds xs → AreRead reads (before ds) (found ++ xs)

pub begins : {A : Type 0} (nests : ℕ) (reads : Data → A → Type 0) (found : List A) (ts : List Token) → found ≡ [] → Continues nests reads found ts ts
begins nests reads found ts none = record {
  before = λ ds. ds;
  turns = length ts;
  enough = omega arith;
  fewer = omega arith;
  so_far = λ depth le. none_before _;
  are_read = λ ds xs h. rw none h;
}

in_turn : (f g : Items → Items) (o : Option (Items × List Token)) → parse_map f (parse_map g o) ≡ parse_map (λ ds. f (g ds)) o
in_turn f g None = refl
in_turn f g (Some p) = refl

pub goes_on : {A : Type 0} (nests : ℕ) (reads : Data → A → Type 0) (found more : List A) (from ts rest : List Token) (x : A) → Continues nests reads found from ts → after_end_array ts ≡ None
    → Spells nests (λ d. reads d x) ts rest → length rest < length ts → more ≡ found ++ x ∷ [] → Continues nests reads more from rest
goes_on nests reads found more from ts rest x c going s fewer is = record {
  before = λ ds. c.before (item s.0 ds);
  turns = c.turns - 1;
  enough = omega (arith, c.enough);
  fewer = omega (arith, c.fewer);
  so_far = λ depth le. c.so_far depth le ∙ ap (parse_map c.before) (item_read (value depth) c.turns ts rest s.0 (omega (arith, c.enough)) going (s.2 depth le)) ∙ in_turn c.before (item s.0) (converted of_items (items (value depth) (c.turns - 1) rest));
  are_read = λ ds xs h. rw (is, append_assoc found (x ∷ []) xs) (c.are_read (item s.0 ds) (x ∷ xs) (s.1, h));
}

pub is_over : {A : Type 0} (nests : ℕ) (reads : Data → A → Type 0) (found : List A) (from ts rest : List Token) → Continues nests reads found from ts → after_end_array ts ≡ Some rest → SpellsItems nests reads found from rest
is_over nests reads found from ts rest c over = (
  c.before no_items,
  subst (λ xs. AreRead reads (c.before no_items) xs) (append-nil found) (c.are_read no_items [] tt),
  λ depth le. c.so_far depth le ∙ ap (parse_map c.before) (items_over (value depth) c.turns ts rest c.enough over),
)

pub list_spelled : {A : Type 0} (nests : ℕ) (reads : Data → A → Type 0) (found : List A) (ts a rest : List Token) → ts ≡ Token.begin_array ∷ a → SpellsItems nests reads found a rest → Spells (suc nests) (IsListOf reads found) ts rest
list_spelled nests reads found ts a rest opens s = (
  array s.0,
  (s.0, refl, s.1),
  λ depth le. rw opens (ap (converted of_json) (value-begin_array depth a (omega arith)) ∙ converted-array (items (value (depth - 1)) (length a) a) ∙ ap (parse_map array) (s.2 (depth - 1) (omega arith))),
)

-- ---- numbers

integer_is : (s : List ℕ) → (slice_index s 0 == 45) ≡ false → IsInteger (scan s) → digits_of (scan s) < 2 ^ 64 → number_of s ≡ Some (unsigned (digits_of (scan s)))
unfolding number_of
integer_is s plain whole fits =
    let some : nat_lt 0 (length (scan s).whole) ≡ true = grind (arith, nat_tests, whole.0) in
    let none : (length (scan s).exponent == 0) ≡ true = grind (arith, nat_tests, whole.2) in
    let small : nat_lt (digits_of (scan s)) (2 ^ 64) ≡ true = grind (arith, nat_tests, fits) in
    rw (plain, some, whole.1, none, small) refl

pub whole_is : (s : List ℕ) (r : Option ℕ) → (slice_index s 0 == 45) ≡ false → SomeIff r (IsInteger (scan s) × (digits_of (scan s) < 2 ^ 64)) (digits_of (scan s)) → IfSome r (λ n. number_of s ≡ Some (unsigned n))
whole_is s None plain h = tt
whole_is s (Some n) plain h = rw h.1 (integer_is s plain h.0.0 h.0.1)

pub if_some : {A : Type 0} (r : Option A) (P Q : A → Type 0) → ((x : A) → P x → Q x) → IfSome r P → IfSome r Q
if_some None P Q f h = tt
if_some (Some x) P Q f h = f x h
