-- Texts that are joined one after the other, and the text of a string alone.
use Rattle.std.proofs.Common.{◌≡◌, ◌∙◌, ℕ, zero, suc, ◌+◌, ◌<◌, List, ◌∷◌, [], ◌++◌, map, take, get_or, length, ap, refl, sym, append-nil, append_assoc, arith}
use Rattle.std.specs.List.{join_with_byte, range_with_len}
use Rattle.std.proofs.lemmas.Bool.{ne_eqb}
use Rattle.std.proofs.lemmas.List.{length-take-le, take_more}
use Rattle.std.proofs.lemmas.List.FromFn.{length-map-range_with_len, map-range_with_len_more}
use Rattle.json.specs.Print.{print, print_from}
use Rattle.json.specs.Token.{string}
use Rattle.text_tables.specs.JsonRows.{json_text}
use Rattle.text_tables.specs.inner.Joined.{next_part}

-- a text is what a writer of JSON makes of it alone
pub text_alone : (text : List ℕ) → print (string text ∷ []) ≡ json_text text
unfolding print_from
text_alone text = append-nil (json_text text)

join_more : (byte : ℕ) (text : List ℕ) (texts : List (List ℕ)) (last : List ℕ) → join_with_byte byte ((text ∷ texts) ++ last ∷ []) ≡ join_with_byte byte (text ∷ texts) ++ byte ∷ last
join_more byte text [] last = refl
join_more byte text (next ∷ texts) last = ap (λ t. text ++ byte ∷ t) (join_more byte next texts last) ∙ sym (append_assoc text (byte ∷ join_with_byte byte (next ∷ texts)) (byte ∷ last))

-- a text that is not the first stands behind the byte
later_part : (byte k : ℕ) (text : List ℕ) → (k ≡ 0 → ⊥) → next_part byte k text ≡ byte ∷ text
later_part byte k text later = rw (ne_eqb k 0 later) refl

-- one text more behind those that are joined
pub joined_next : (byte k : ℕ) (texts : List (List ℕ)) (last : List ℕ) → length texts ≡ k → join_with_byte byte (texts ++ last ∷ []) ≡ join_with_byte byte texts ++ next_part byte k last
joined_next byte zero [] last e = refl
joined_next byte (suc k) [] last e = absurd (omega arith)
joined_next byte zero (text ∷ texts) last e = absurd (omega arith)
joined_next byte (suc k) (text ∷ texts) last e =
    let later : suc k ≡ 0 → ⊥ = λ h. omega (arith, h) in
    join_more byte text texts last ∙ ap (λ t. join_with_byte byte (text ∷ texts) ++ t) (sym (later_part byte (suc k) last later))

-- one text more of a list
pub texts-more : (byte : ℕ) (texts : List (List ℕ)) (k : ℕ) (d before all text : List ℕ) → k < length texts → text ≡ get_or texts k d → before ≡ join_with_byte byte (take k texts) → all ≡ before ++ next_part byte k text
    → all ≡ join_with_byte byte (take (k + 1) texts)
texts-more byte texts k d before all text lt at so_far added =
    added ∙ ap (λ t. t ++ next_part byte k text) so_far ∙ sym (joined_next byte k (take k texts) text (length-take-le k texts (omega arith)))
    ∙ ap (join_with_byte byte) (ap (λ t. take k texts ++ t ∷ []) at ∙ sym (take_more texts k d lt))

-- the text of one column more
pub columns-more : (byte : ℕ) (text : ℕ → List ℕ) (k : ℕ) (first before all : List ℕ) → before ≡ first ++ join_with_byte byte (map text (range_with_len 0 k)) → all ≡ before ++ next_part byte k (text k)
    → all ≡ first ++ join_with_byte byte (map text (range_with_len 0 (k + 1)))
columns-more byte text k first before all so_far added =
    let texts = map text (range_with_len 0 k) in
    added ∙ ap (λ t. t ++ next_part byte k (text k)) so_far ∙ append_assoc first (join_with_byte byte texts) (next_part byte k (text k))
    ∙ ap (λ t. first ++ t) (sym (joined_next byte k texts (text k) (length-map-range_with_len text 0 k)))
    ∙ ap (λ ts. first ++ join_with_byte byte ts) (sym (map-range_with_len_more text 0 k k (omega arith)))
