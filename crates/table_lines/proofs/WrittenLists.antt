-- The tokens of lists, as they are written one after the other.
use Rattle.std.proofs.Common.{◌≡◌, ℕ, ◌≤◌, List, [], ◌∷◌, ◌++◌, length, take, refl, sym, ap, ◌∙◌, append_assoc}
use Rattle.std.specs.List.{flat_map}
use Rattle.std.proofs.lemmas.List.{take_all}
use Rattle.json.specs.Token.{Token, begin_array, end_array, key}
use Rattle.serde_json.specs.Data.{Data}
use Rattle.line_fields.specs.Written.{list_data}
use Rattle.line_fields.specs.WrittenTokens.{data_tokens, member_tokens}
use Rattle.line_fields.proofs.WrittenTokens.{list-tokens}

regrouped : (old items : List Token) (b e : Token) → ((old ++ b ∷ []) ++ items) ++ e ∷ [] ≡ old ++ b ∷ (items ++ e ∷ [])
regrouped old items b e = simp append_assoc refl

-- a list, once a loop has gone over all its items
pub items_written : {A : Type 0} (write : A → Data) (xs : List A) (i : ℕ) (old begun items last : List Token) → length xs ≤ i
    → begun ≡ old ++ begin_array ∷ [] → items ≡ begun ++ flat_map (λ x. data_tokens (write x)) (take i xs) → last ≡ items ++ end_array ∷ [] → last ≡ old ++ data_tokens (list_data write xs)
items_written {A} write xs i old begun items last past first second third =
    let f : A → List Token = λ x. data_tokens (write x) in
    third ∙ ap (λ ts. ts ++ end_array ∷ []) (second ∙ ap (λ ts. ts ++ flat_map f (take i xs)) first)
    ∙ regrouped old (flat_map f (take i xs)) begin_array end_array
    ∙ ap (λ ys. old ++ begin_array ∷ (flat_map f ys ++ end_array ∷ [])) (take_all i xs past)
    ∙ ap (λ ts. old ++ ts) (sym (list-tokens write xs))

-- a value behind its name
pub member_written : (name : List ℕ) (d : Data) (old keyed last : List Token) → keyed ≡ old ++ key name ∷ [] → last ≡ keyed ++ data_tokens d → last ≡ old ++ member_tokens name d
member_written name d old keyed last first second = second ∙ ap (λ ts. ts ++ data_tokens d) first ∙ append_assoc old (key name ∷ []) (data_tokens d)
