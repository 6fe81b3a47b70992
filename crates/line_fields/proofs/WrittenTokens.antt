-- The tokens of JSON values, as they are written one after the other, and as they are read.
use Rattle.std.proofs.Common.{◌≡◌, ◌+◌, ◌<◌, ◌≤◌, ℕ, List, [], ◌∷◌, ◌++◌, length, get_or, map, take, Some, refl, sym, ap, ◌∙◌, append_assoc, append-nil}
use Rattle.std.specs.Prelude.{option_and_then}
use Rattle.std.specs.List.{flat_map}
use Rattle.std.proofs.lemmas.List.{flat_map_more, take_all, take_more}
use Rattle.std.proofs.lemmas.List.Folds.{flat_map-map}
use Rattle.json.specs.Json as json
use Rattle.json.specs.Lex.{tokens}
use Rattle.json.specs.Token.{Token, begin_array, end_array, key}
use Rattle.json.specs.Tree as tree
use Rattle.json.proofs.Printed.Trees.{value-json_tokens}
use Rattle.serde_json.specs.Data.{Data}
use Rattle.serde_json.specs.Read.{of_json, read, max_depth}
use Rattle.serde_json.specs.View.{items_of}
use Rattle.serde_json.specs.Written.{items_outline}
use Rattle.line_fields.specs.Written.{list_data}
use Rattle.line_fields.specs.WrittenTokens.{data_tokens, member_tokens}

-- ---- they are read

-- a text of the tokens of a value is read as it
pub read-tokens : (j : json.Json) (d : Data) (text : List ℕ) → tokens text ≡ tree.json_tokens j → tree.depth j ≤ max_depth → of_json j ≡ Some d → read text ≡ Some d
read-tokens j d text same shallow is =
    ap (λ ts. option_and_then of_json (option_and_then (λ p. json.if_last p.0 p.1) (json.value max_depth ts))) (same ∙ sym (append-nil (tree.json_tokens j)))
    ∙ ap (λ o. option_and_then of_json (option_and_then (λ p. json.if_last p.0 p.1) o)) (value-json_tokens j max_depth [] shallow) ∙ is

-- ---- a list, item by item

items_tokens-each : (ds : List Data) → tree.items_tokens (items_outline (items_of ds)) ≡ flat_map data_tokens ds ++ end_array ∷ []
items_tokens-each [] = refl
items_tokens-each (d ∷ ds) =
    ap (λ ts. data_tokens d ++ ts) (items_tokens-each ds) ∙ sym (append_assoc (data_tokens d) (flat_map data_tokens ds) (end_array ∷ []))

-- the tokens of a list, where f gives those of each item
abbrev ListTokens : {A : Type 0} → (A → List Token) → List A → List Token
ListTokens f xs = begin_array ∷ (flat_map f xs ++ end_array ∷ [])

pub list-tokens : {A : Type 0} (write : A → Data) (xs : List A) → data_tokens (list_data write xs) ≡ ListTokens (λ x. data_tokens (write x)) xs
list-tokens write xs = ap (λ ts. begin_array ∷ ts) (items_tokens-each (map write xs) ∙ ap (λ ts. ts ++ end_array ∷ []) (flat_map-map data_tokens write xs))

pub named_list-tokens : {A B : Type 0} (write : B → Data) (name : A → B) (xs : List A) → data_tokens (list_data write (map name xs)) ≡ ListTokens (λ x. data_tokens (write (name x))) xs
named_list-tokens write name xs =
    list-tokens write (map name xs) ∙ ap (λ ts. begin_array ∷ (ts ++ end_array ∷ [])) (flat_map-map (λ y. data_tokens (write y)) name xs)

-- one item more
pub items-more : {A : Type 0} (f : A → List Token) (xs : List A) (i : ℕ) (d : A) (begun items : List Token) → i < length xs
    → items ≡ begun ++ flat_map f (take i xs) → items ++ f (get_or xs i d) ≡ begun ++ flat_map f (take (i + 1) xs)
items-more f xs i d begun items lt so_far =
    ap (λ ts. ts ++ f (get_or xs i d)) so_far ∙ flat_map_more f begun (take i xs) (get_or xs i d) ∙ ap (λ ys. begun ++ flat_map f ys) (sym (take_more xs i d lt))

list_regrouped : (old items : List Token) (k b e : Token) → (((old ++ k ∷ []) ++ b ∷ []) ++ items) ++ e ∷ [] ≡ old ++ k ∷ b ∷ (items ++ e ∷ [])
list_regrouped old items k b e = simp append_assoc refl

-- a list under a name, once a loop has gone over all its items
pub list-written : {A : Type 0} (f : A → List Token) (xs : List A) (d : Data) (i : ℕ) (name : List ℕ) (old keyed begun items last : List Token)
    → data_tokens d ≡ ListTokens f xs → length xs ≤ i
    → keyed ≡ old ++ key name ∷ [] → begun ≡ keyed ++ begin_array ∷ [] → items ≡ begun ++ flat_map f (take i xs) → last ≡ items ++ end_array ∷ []
    → last ≡ old ++ member_tokens name d
list-written f xs d i name old keyed begun items last whole past first second third fourth =
    fourth ∙ ap (λ ts. ts ++ end_array ∷ []) (third ∙ ap (λ ts. ts ++ flat_map f (take i xs)) (second ∙ ap (λ ts. ts ++ begin_array ∷ []) first))
    ∙ list_regrouped old (flat_map f (take i xs)) (key name) begin_array end_array
    ∙ ap (λ ys. old ++ key name ∷ begin_array ∷ (flat_map f ys ++ end_array ∷ [])) (take_all i xs past) ∙ ap (λ ts. old ++ key name ∷ ts) (sym whole)
