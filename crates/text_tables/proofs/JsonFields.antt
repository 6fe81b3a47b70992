-- Objects of JSON from their parts: values, members behind the first, and lines.
use Rattle.std.proofs.Common.{◌≡◌, ℕ, ◌<◌, ◌≤◌, ◌^◌, true, false, List, [], ◌∷◌, ◌++◌, map, decimal, refl, sym, ap, ◌∙◌, arith, append_assoc, append-nil}
use Rattle.std.specs.Prelude.{codes}
use Rattle.std.specs.List.{AllByRecursion, AllZip, concat, flat_map, join_with_byte}
use Rattle.std.proofs.lemmas.List.Concat.{flat_map-append}
use Rattle.std.proofs.lemmas.List.Folds.{concat-append}
use Rattle.json.specs.Json.{Items, Json, array, boolean, item, no_items, null, number, string}
use Rattle.json.specs.Print.{escape, print, print_from, quoted}
use Rattle.json.specs.Tree.{ItemsHaveNumbers, items_depth, items_tokens, json_tokens}
use Rattle.text_tables.specs.JsonLines.{AreObjects, IsAnObject, Member}
use Rattle.text_tables.proofs.Controls.{clean-append, clean-quoted, is_clean}
use Rattle.text_tables.proofs.JsonLines.{AreWritable, IsWritable, joined_members, later_print, member_print, object_line}
use Rattle.text_tables.proofs.WholeNumbers.{IsNumber-decimal, clean-decimal}

-- ---- values

-- the text of a value
pub record IsValue (text : List ℕ) : Type 0 where
  pub value : Json
  pub writable : IsWritable value
  pub whole : text ≡ print (json_tokens value)

pub null_value : IsValue (codes "null")
unfolding print_from
null_value = record { value = null; writable = record { numbers = tt; shallow = omega arith; clean = refl }; whole = refl }

pub true_value : IsValue (codes "true")
unfolding print_from
true_value = record { value = boolean true; writable = record { numbers = tt; shallow = omega arith; clean = refl }; whole = refl }

pub false_value : IsValue (codes "false")
unfolding print_from
false_value = record { value = boolean false; writable = record { numbers = tt; shallow = omega arith; clean = refl }; whole = refl }

pub text_value : (text : List ℕ) → IsValue (quoted text)
unfolding print_from
text_value text = record {
  value = string text;
  writable = record { numbers = tt; shallow = omega arith; clean = ap is_clean (append-nil (quoted text)) ∙ clean-quoted text };
  whole = sym (append-nil (quoted text));
}

pub number_value : (n : ℕ) → n < 10 ^ 64 → IsValue (decimal n)
unfolding print_from
number_value n small = record {
  value = number (decimal n);
  writable = record { numbers = IsNumber-decimal n small; shallow = omega arith; clean = ap is_clean (append-nil (decimal n)) ∙ clean-decimal n small };
  whole = sym (append-nil (decimal n));
}

-- ---- lists of texts

strings : List (List ℕ) → Items
strings [] = no_items
strings (text ∷ texts) = item (string text) (strings texts)

strings_numbers : (texts : List (List ℕ)) → ItemsHaveNumbers (strings texts)
unfolding strings
strings_numbers [] = tt
strings_numbers (text ∷ texts) = (tt, strings_numbers texts)

strings_shallow : (texts : List (List ℕ)) → items_depth (strings texts) ≤ 0
unfolding strings
strings_shallow [] = omega arith
strings_shallow (text ∷ texts) = let rest = strings_shallow texts in omega arith

later_strings : (texts : List (List ℕ)) → print_from true (items_tokens (strings texts)) ≡ flat_map (λ text. 44 ∷ quoted text) texts ++ 93 ∷ []
unfolding print_from strings
later_strings [] = refl
later_strings (text ∷ texts) =
    ap (λ l. 44 ∷ (quoted text ++ l)) (later_strings texts) ∙ sym (append_assoc (44 ∷ quoted text) (flat_map (λ one. 44 ∷ quoted one) texts) (93 ∷ []))

joined_strings : (text : List ℕ) (texts : List (List ℕ)) → join_with_byte 44 (map quoted (text ∷ texts)) ≡ quoted text ++ flat_map (λ one. 44 ∷ quoted one) texts
joined_strings text [] = sym (append-nil (quoted text))
joined_strings text (next ∷ texts) = ap (λ l. quoted text ++ 44 ∷ l) (joined_strings next texts)

list_printed : (texts : List (List ℕ)) → print (json_tokens (array (strings texts))) ≡ 91 ∷ (join_with_byte 44 (map quoted texts) ++ 93 ∷ [])
unfolding print_from strings
list_printed [] = refl
list_printed (text ∷ texts) =
    let later = flat_map (λ one. 44 ∷ quoted one) texts in
    ap (λ l. 91 ∷ (quoted text ++ l)) (later_strings texts)
    ∙ ap (λ l. 91 ∷ l) (sym (append_assoc (quoted text) later (93 ∷ [])) ∙ ap (λ l. l ++ 93 ∷ []) (sym (joined_strings text texts)))

clean_later : (texts : List (List ℕ)) → is_clean (flat_map (λ one. 44 ∷ quoted one) texts) ≡ true
clean_later [] = refl
clean_later (text ∷ texts) = clean-append (44 ∷ quoted text) (flat_map (λ one. 44 ∷ quoted one) texts) (clean-quoted text) (clean_later texts)

clean_joined : (texts : List (List ℕ)) → is_clean (join_with_byte 44 (map quoted texts)) ≡ true
clean_joined [] = refl
clean_joined (text ∷ texts) = ap is_clean (joined_strings text texts) ∙ clean-append (quoted text) (flat_map (λ one. 44 ∷ quoted one) texts) (clean-quoted text) (clean_later texts)

pub list_value : (texts : List (List ℕ)) → IsValue (91 ∷ (join_with_byte 44 (map quoted texts) ++ 93 ∷ []))
list_value texts = record {
  value = array (strings texts);
  writable = record {
    numbers = strings_numbers texts;
    shallow = let flat = strings_shallow texts in omega arith;
    clean = ap is_clean (list_printed texts) ∙ clean-append (join_with_byte 44 (map quoted texts)) (93 ∷ []) (clean_joined texts) refl;
  };
  whole = sym (list_printed texts);
}

-- ---- members behind the first

pub record AreFields (text : List ℕ) : Type 0 where
  pub members : List Member
  pub writable : AreWritable members
  pub whole : text ≡ flat_map later_print members

pub no_fields : AreFields []
no_fields = record { members = []; writable = tt; whole = refl }

writable_both : (ms others : List Member) → AreWritable ms → AreWritable others → AreWritable (ms ++ others)
writable_both [] others h k = k
writable_both (m ∷ ms) others h k = (h.0, writable_both ms others h.1 k)

pub both_fields : (one other : List ℕ) → AreFields one → AreFields other → AreFields (one ++ other)
both_fields one other first second = record {
  members = first.members ++ second.members;
  writable = writable_both first.members second.members first.writable second.writable;
  whole = ap (λ l. l ++ other) first.whole ∙ ap (λ l. flat_map later_print first.members ++ l) second.whole ∙ sym (flat_map-append later_print first.members second.members);
}

regrouped : (name value : List ℕ) → (34 ∷ (name ++ 34 ∷ 58 ∷ [])) ++ value ≡ (34 ∷ (name ++ 34 ∷ [])) ++ 58 ∷ value
regrouped name value = simp append_assoc refl

-- a member whose name has nothing to escape
named : (name value : List ℕ) → escape name ≡ name → (is : IsValue value) → (34 ∷ (name ++ 34 ∷ 58 ∷ [])) ++ value ≡ member_print (name, is.value)
named name value plain is =
    regrouped name value ∙ ap (λ l. (34 ∷ (l ++ 34 ∷ [])) ++ 58 ∷ value) (sym plain) ∙ ap (λ l. quoted name ++ 58 ∷ l) is.whole

pub one_field : (name value : List ℕ) → escape name ≡ name → IsValue value → AreFields ((44 ∷ 34 ∷ (name ++ 34 ∷ 58 ∷ [])) ++ value)
one_field name value plain is = record {
  members = (name, is.value) ∷ [];
  writable = (is.writable, tt);
  whole = ap (λ l. 44 ∷ l) (named name value plain is) ∙ sym (append-nil (44 ∷ member_print (name, is.value)));
}

-- ---- an object that isn't closed yet

pub record IsOpen (text : List ℕ) : Type 0 where
  pub first : Member
  pub later : List Member
  pub writable : AreWritable (first ∷ later)
  pub whole : text ≡ 123 ∷ (member_print first ++ flat_map later_print later)

pub opened : (name value : List ℕ) → escape name ≡ name → IsValue value → IsOpen ((123 ∷ 34 ∷ (name ++ 34 ∷ 58 ∷ [])) ++ value)
opened name value plain is = record {
  first = (name, is.value);
  later = [];
  writable = (is.writable, tt);
  whole = ap (λ l. 123 ∷ l) (named name value plain is ∙ sym (append-nil (member_print (name, is.value))));
}

pub with_fields : (one other : List ℕ) → IsOpen one → AreFields other → IsOpen (one ++ other)
with_fields one other is more =
    let print = member_print is.first in
    record {
      first = is.first;
      later = is.later ++ more.members;
      writable = (is.writable.0, writable_both is.later more.members is.writable.1 more.writable);
      whole = ap (λ l. l ++ other) is.whole ∙ ap (λ l. (123 ∷ (print ++ flat_map later_print is.later)) ++ l) more.whole
          ∙ ap (λ l. 123 ∷ l) (append_assoc print (flat_map later_print is.later) (flat_map later_print more.members) ∙ ap (λ l. print ++ l) (sym (flat_map-append later_print is.later more.members)));
    }

pub closed : (text : List ℕ) → IsOpen text → IsAnObject (text ++ 125 ∷ 10 ∷ [])
closed text is =
    let ms = is.first ∷ is.later in
    (ms, object_line ms (text ++ 125 ∷ 10 ∷ []) is.writable (ap (λ l. l ++ 125 ∷ 10 ∷ []) (is.whole ∙ ap (λ l. 123 ∷ l) (sym (joined_members is.first is.later)))))

-- ---- texts of lines

pub one_line : (line : List ℕ) → IsAnObject line → AreObjects line
one_line line is = record { lines = line ∷ []; each = (is, tt); whole = sym (append-nil line) }

pub no_lines : AreObjects []
no_lines = record { lines = []; each = tt; whole = refl }

lines_both : (lines others : List (List ℕ)) → AllByRecursion IsAnObject lines → AllByRecursion IsAnObject others → AllByRecursion IsAnObject (lines ++ others)
lines_both [] others h k = k
lines_both (line ∷ lines) others h k = (h.0, lines_both lines others h.1 k)

pub both_texts : (one other : List ℕ) → AreObjects one → AreObjects other → AreObjects (one ++ other)
both_texts one other first second = record {
  lines = first.lines ++ second.lines;
  each = lines_both first.lines second.lines first.each second.each;
  whole = ap (λ l. l ++ other) first.whole ∙ ap (λ l. concat first.lines ++ l) second.whole ∙ sym (concat-append first.lines second.lines);
}

each_line : {A : Type 0} (IsLine : A → List ℕ → Type 0) (things : List A) (lines : List (List ℕ)) → ((x : A) (line : List ℕ) → IsLine x line → IsAnObject line) → AllZip IsLine things lines → AllByRecursion IsAnObject lines
each_line IsLine [] [] each h = tt
each_line IsLine [] (line ∷ lines) each h = absurd h
each_line IsLine (x ∷ things) [] each h = absurd h
each_line IsLine (x ∷ things) (line ∷ lines) each h = (each x line h.0, each_line IsLine things lines each h.1)

pub lines_of : {A : Type 0} (IsLine : A → List ℕ → Type 0) (things : List A) (lines : List (List ℕ)) (text : List ℕ) → ((x : A) (line : List ℕ) → IsLine x line → IsAnObject line) → AllZip IsLine things lines → text ≡ concat lines → AreObjects text
lines_of IsLine things lines text each h is = record { lines = lines; each = each_line IsLine things lines each h; whole = is }
