-- The reply to a plan line.
use Rattle.std.proofs.Common.{◌≡◌, ℕ, List, [], ◌∷◌, ◌++◌, refl, ap, ◌∙◌, append_assoc}

joined : (old head text line : List ℕ) → (((old ++ head) ++ text) ++ line) ++ 10 ∷ [] ≡ old ++ (head ++ text ++ line ++ 10 ∷ [])
joined old head text line = simp append_assoc refl

-- a head, a text and a line, added one after the other, and the line's feed
pub added_parts : (old head text line with_head with_text with_line whole : List ℕ) → with_head ≡ old ++ head → with_text ≡ with_head ++ text → with_line ≡ with_text ++ line → whole ≡ with_line ++ 10 ∷ []
    → whole ≡ old ++ (head ++ text ++ line ++ 10 ∷ [])
added_parts old head text line with_head with_text with_line whole h1 h2 h3 h4 =
    h4 ∙ ap (λ (xs : List ℕ). xs ++ 10 ∷ []) (h3 ∙ ap (λ (xs : List ℕ). xs ++ line) (h2 ∙ ap (λ (xs : List ℕ). xs ++ text) h1)) ∙ joined old head text line
