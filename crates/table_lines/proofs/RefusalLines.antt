-- The line of a refusal: what its JSON is, and that it reads as that.
use Rattle.std.proofs.Common.{◌≡◌, ℕ, ◌^◌, ◌<◌, ◌≤◌, false, List, [], ◌∷◌, ◌++◌, Some, Ok, codes, decimal, refl, sym, ap, ◌∙◌, append_assoc, arith}
use Rattle.std.specs.Str.{IsAscii}
use Rattle.std.proofs.lemmas.Str.{IsAscii-append, IsUtf8-from_ascii}
use Rattle.json.specs.Print.{escape_byte}
use Rattle.json.specs.Tree as tree
use Rattle.json.proofs.Printed.Decimals.{IsNumber-decimal}
use Rattle.serde_json.specs.Data.{Data, string, object, no_members, member}
use Rattle.serde_json.specs.Read.{of_json, read}
use Rattle.serde_json.specs.Written.{compact_text, outline}
use Rattle.serde_json.proofs.Numbers.{number_of-decimal}
use Rattle.serde_json.proofs.Texts.{print-outline}
use Rattle.line_engine.specs.Lines.{has_feed, line_feed}
use Rattle.line_fields.specs.Line.{object_of}
use Rattle.line_fields.specs.Written.{number_data}
use Rattle.line_fields.proofs.Lines.{object_of-ok}
use Rattle.line_fields.proofs.PlainTexts.{escape-plain, read-print}
use Rattle.table_lines.specs.JsonLines.{IsLineOf, refusal_data}
use Rattle.table_lines.specs.JsonReplies.{json_refused_text}
use Rattle.table_lines.specs.TableDetails.{table_line_details}
use Rattle.table_lines.specs.TableRefusals.{table_refusal_number}
use Rattle.table_lines.specs.declared.table_refusal.TableRefusal.{TableRefusal}
use Rattle.table_lines.proofs.Clean.{AreClean, ascii_by, ascii-clean, clean-append, decimal_clean, plain-clean}
use Rattle.table_lines.proofs.OneLine.{text_free}
use Rattle.table_lines.proofs.Said.{SaysClean}

-- ---- two members: a number, and words that need no escape

abbrev told : (n : ℕ) → (words : List ℕ) → Data
told n words = object (member (codes "line") (number_data n) (member (codes "refused") (string words) no_members))

-- letter by letter
abbrev letters : (n : ℕ) → (words : List ℕ) → List ℕ
letters n words = codes "{\"line\":" ++ (decimal n ++ (codes ",\"refused\":\"" ++ (words ++ codes "\"}")))

letters_compact : (n : ℕ) (words : List ℕ) → AreClean words → letters n words ≡ compact_text (told n words)
unfolding escape_byte
letters_compact n words clean =
    ap (λ (said : List ℕ). codes "{\"line\":" ++ (decimal n ++ (codes ",\"refused\":\"" ++ said)))
    (sym (ap (λ (said : List ℕ). (said ++ 34 ∷ []) ++ 125 ∷ []) (escape-plain words (plain-clean words clean)) ∙ append_assoc words (34 ∷ []) (125 ∷ [])))

letters_ascii : (n : ℕ) (words : List ℕ) → AreClean words → IsAscii (letters n words)
letters_ascii n words clean =
    IsAscii-append (codes "{\"line\":") (decimal n ++ (codes ",\"refused\":\"" ++ (words ++ codes "\"}"))) (ascii_by (codes "{\"line\":") refl)
    (IsAscii-append (decimal n) (codes ",\"refused\":\"" ++ (words ++ codes "\"}")) (ascii-clean (decimal n) (decimal_clean n))
    (IsAscii-append (codes ",\"refused\":\"") (words ++ codes "\"}") (ascii_by (codes ",\"refused\":\"") refl)
    (IsAscii-append words (codes "\"}") (ascii-clean words clean) (ascii_by (codes "\"}") refl))))

spelled : (n : ℕ) (words : List ℕ) → n < 2 ^ 64 → of_json (outline (told n words)) ≡ Some (told n words)
spelled n words small = rw (number_of-decimal n small) refl

numbered : (n : ℕ) (words : List ℕ) → n < 2 ^ 64 → tree.HasNumbers (outline (told n words))
numbered n words small = (IsNumber-decimal n small, (tt, tt))

shallow : (n : ℕ) (words : List ℕ) → tree.depth (outline (told n words)) ≤ 127
shallow n words = omega arith

letters_read : (n : ℕ) (words : List ℕ) → n < 2 ^ 64 → AreClean words → object_of (letters n words) ≡ Ok (told n words)
letters_read n words small clean =
    let d = told n words in
    let bytes = ap read (letters_compact n words clean ∙ sym (print-outline d)) ∙ read-print (outline d) d (numbered n words small) (shallow n words) (spelled n words small) in
    object_of-ok (letters n words) d (IsUtf8-from_ascii (letters n words) (letters_ascii n words clean)) bytes refl

letters_free : (n : ℕ) (words : List ℕ) → AreClean words → has_feed (letters n words) ≡ false
letters_free n words clean = ap has_feed (letters_compact n words clean) ∙ text_free (told n words)

regrouped : (a b c d e f g : List ℕ) → (((((a ++ b) ++ c) ++ d) ++ e) ++ (f ++ g)) ≡ (a ++ (b ++ (c ++ ((d ++ e) ++ f)))) ++ g
regrouped a b c d e f g = simp append_assoc refl

-- ---- a refusal

pub refusal_line : (n : ℕ) (refusal : TableRefusal) → n < 2 ^ 64 → SaysClean refusal → IsLineOf (refusal_data n refusal) (json_refused_text n refusal)
refusal_line n refusal small says =
    let number = decimal (table_refusal_number refusal) in
    let details = table_line_details refusal in
    let clean = clean-append number details (decimal_clean (table_refusal_number refusal)) says in
    record {
      line = letters n (number ++ details);
      whole = regrouped (codes "{\"line\":") (decimal n) (codes ",\"refused\":\"") number details (codes "\"}") (line_feed ∷ []);
      reads = letters_read n (number ++ details) small clean;
      one = letters_free n (number ++ details) clean;
    }
