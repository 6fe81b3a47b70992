-- The threads that were started, and the readers that they were given.
use Rattle.std.proofs.Common.{◌≡◌, List, [], ◌∷◌, ◌++◌, All, arith, length, map, refl, sym, ap, ◌∙◌, append_assoc}
use Rattle.std.proofs.lemmas.List.{length-map}
use Rattle.std.proofs.lemmas.List.Elements.{All-head, All-same}

pub head_of_all : {X : Type 0} (P : X → Type 0) (x : X) (xs ys : List X) → ys ≡ x ∷ xs → All P ys → P x
head_of_all P x xs ys is all = All-head P x xs (All-same P (x ∷ xs) ys (sym is) all)

map_push : {H X : Type 0} (view : H → X) (hs : List H) (h : H) → map view (hs ++ h ∷ []) ≡ map view hs ++ view h ∷ []
map_push view [] h = refl
map_push {X = X} view (first ∷ hs) h = ap (λ (xs : List X). view first ∷ xs) (map_push view hs h)

-- one reader more was given to a thread
pub handed_on : {H X : Type 0} (view : H → X) (hs grown : List H) (h : H) (x : X) (rest left all : List X) → grown ≡ hs ++ h ∷ [] → view h ≡ x → rest ≡ x ∷ left → map view hs ++ rest ≡ all → map view grown ++ left ≡ all
handed_on {H = H} {X = X} view hs grown h x rest left all is same first so =
    ap (λ (l : List H). map view l ++ left) is ∙ ap (λ (l : List X). l ++ left) (map_push view hs h) ∙ append_assoc (map view hs) (view h ∷ []) left
    ∙ ap (λ (y : X). map view hs ++ (y ∷ left)) same ∙ ap (λ (l : List X). map view hs ++ l) (sym first) ∙ so

pub none_left : {X : Type 0} (xs : List X) → length xs ≡ 0 → xs ≡ []
none_left [] none = refl
none_left (x ∷ xs) none = absurd (omega (arith, none))

pub same_length : {H X : Type 0} (view : H → X) (hs : List H) (xs : List X) → map view hs ≡ xs → length hs ≡ length xs
same_length view hs xs same = sym (length-map hs view) ∙ ap length same
