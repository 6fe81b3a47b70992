-- Objects of JSON without spaces, member by member.
use Rattle.std.proofs.Common.{◌≡◌, ℕ, ◌≤◌, Bool, true, false, List, [], ◌∷◌, ◌++◌, map, fold, refl, sym, ap, ◌∙◌, arith, append_assoc, append-nil}
use Rattle.std.specs.List.{AllByRecursion, flat_map, join_with_byte}
use Rattle.std.proofs.lemmas.List.Sums.{fold-append}
use Rattle.json.specs.Json.{Json, Items, Members, document, no_members, member, null, boolean, number, string, array, object, no_items, item}
use Rattle.json.specs.Print.{ends, print, print_from, quoted}
use Rattle.json.specs.Token.{Token}
use Rattle.json.specs.Tree.{HasNumbers, MembersHaveNumbers, depth, items_tokens, json_tokens, members_depth, members_tokens}
use Rattle.json.proofs.Printed.Tokens.{print_from-append}
use Rattle.json.proofs.Printed.Trees.{document-print}
use Rattle.text_tables.specs.JsonLines.{IsObjectLine, Member, members_of}
use Rattle.text_tables.proofs.Controls.{clean-append, clean-quoted, is_clean}

-- ---- values

-- a value that may be written in a line, and its text
pub record IsWritable (value : Json) : Type 0 where
  pub numbers : HasNumbers value
  pub shallow : depth value ≤ 100
  pub clean : is_clean (print (json_tokens value)) ≡ true

-- ---- the text of members

-- a member
abbrev pub member_print : Member → List ℕ
member_print m = quoted m.0 ++ 58 ∷ print (json_tokens m.1)

-- a member behind others
abbrev pub later_print : Member → List ℕ
later_print m = 44 ∷ member_print m

-- a value has ended behind its tokens
mutual
  value_ends : (c : Bool) (j : Json) → fold (λ (b : Bool) t. ends t) c (json_tokens j) ≡ true
  value_ends c null = refl
  value_ends c (boolean b) = refl
  value_ends c (number s) = refl
  value_ends c (string s) = refl
  value_ends c (array js) = items_end false js
  value_ends c (object ms) = members_end false ms

  items_end : (c : Bool) (js : Items) → fold (λ (b : Bool) t. ends t) c (items_tokens js) ≡ true
  items_end c no_items = refl
  items_end c (item j js) = fold-append (λ (b : Bool) t. ends t) c (json_tokens j) (items_tokens js) ∙ items_end _ js

  members_end : (c : Bool) (ms : Members) → fold (λ (b : Bool) t. ends t) c (members_tokens ms) ≡ true
  members_end c no_members = refl
  members_end c (member k j ms) = fold-append (λ (b : Bool) t. ends t) false (json_tokens j) (members_tokens ms) ∙ members_end _ ms

regroup : (name value rest : List ℕ) → (name ++ 58 ∷ []) ++ (value ++ rest) ≡ (name ++ 58 ∷ value) ++ rest
regroup name value rest = simp append_assoc

-- a member, and what stands behind it
one_member : (m : Member) (rest : List Token) → (quoted m.0 ++ 58 ∷ []) ++ print_from false (json_tokens m.1 ++ rest) ≡ member_print m ++ print_from true rest
one_member m rest =
    ap (λ l. (quoted m.0 ++ 58 ∷ []) ++ l) (print_from-append false (json_tokens m.1) rest ∙ ap (λ c. print (json_tokens m.1) ++ print_from c rest) (value_ends false m.1))
    ∙ regroup (quoted m.0) (print (json_tokens m.1)) (print_from true rest)

later_members : (ms : List Member) → print_from true (members_tokens (members_of ms)) ≡ flat_map later_print ms ++ 125 ∷ []
unfolding print_from
later_members [] = refl
later_members (m ∷ ms) =
    ap (λ l. 44 ∷ l) (one_member m (members_tokens (members_of ms)) ∙ ap (λ l. member_print m ++ l) (later_members ms))
    ∙ sym (append_assoc (later_print m) (flat_map later_print ms) (125 ∷ []))

-- members parted by commas
pub joined_members : (m : Member) (ms : List Member) → join_with_byte 44 (map member_print (m ∷ ms)) ≡ member_print m ++ flat_map later_print ms
joined_members m [] = sym (append-nil (member_print m))
joined_members m (next ∷ ms) = ap (λ l. member_print m ++ 44 ∷ l) (joined_members next ms)

pub object_text : (ms : List Member) → print (json_tokens (object (members_of ms))) ≡ 123 ∷ (join_with_byte 44 (map member_print ms) ++ 125 ∷ [])
unfolding print_from
object_text [] = refl
object_text (m ∷ ms) =
    ap (λ l. 123 ∷ l)
    (one_member m (members_tokens (members_of ms)) ∙ ap (λ l. member_print m ++ l) (later_members ms)
    ∙ sym (append_assoc (member_print m) (flat_map later_print ms) (125 ∷ [])) ∙ ap (λ l. l ++ 125 ∷ []) (sym (joined_members m ms)))

-- ---- members that may be written

abbrev pub AreWritable : List Member → Type 0
AreWritable ms = AllByRecursion (λ (m : Member). IsWritable m.1) ms

have_numbers : (ms : List Member) → AreWritable ms → MembersHaveNumbers (members_of ms)
have_numbers [] h = tt
have_numbers (m ∷ ms) h = (h.0.numbers, have_numbers ms h.1)

nest_little : (ms : List Member) → AreWritable ms → members_depth (members_of ms) ≤ 100
nest_little [] h = omega arith
nest_little (m ∷ ms) h = let first = h.0.shallow in let rest = nest_little ms h.1 in omega arith

clean_member : (m : Member) → IsWritable m.1 → is_clean (member_print m) ≡ true
clean_member m h = clean-append (quoted m.0) (58 ∷ print (json_tokens m.1)) (clean-quoted m.0) h.clean

clean_later : (ms : List Member) → AreWritable ms → is_clean (flat_map later_print ms) ≡ true
clean_later [] h = refl
clean_later (m ∷ ms) h = clean-append (later_print m) (flat_map later_print ms) (clean_member m h.0) (clean_later ms h.1)

clean_joined : (ms : List Member) → AreWritable ms → is_clean (join_with_byte 44 (map member_print ms)) ≡ true
clean_joined [] h = refl
clean_joined (m ∷ ms) h = ap is_clean (joined_members m ms) ∙ clean-append (member_print m) (flat_map later_print ms) (clean_member m h.0) (clean_later ms h.1)

-- a line of them
pub object_line : (ms : List Member) (line : List ℕ) → AreWritable ms → line ≡ 123 ∷ (join_with_byte 44 (map member_print ms) ++ 125 ∷ 10 ∷ []) → IsObjectLine ms line
object_line ms line h is =
    let joined = join_with_byte 44 (map member_print ms) in
    record {
      text = 123 ∷ (joined ++ 125 ∷ []);
      ended = is ∙ ap (λ l. 123 ∷ l) (sym (append_assoc joined (125 ∷ []) (10 ∷ [])));
      reads = ap document (sym (object_text ms)) ∙ document-print (object (members_of ms)) (have_numbers ms h) (let little = nest_little ms h in omega arith);
      single = clean-append joined (125 ∷ []) (clean_joined ms h) refl;
    }
