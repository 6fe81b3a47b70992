-- Texts and lists to which a loop adds a part for each element.
use Rattle.std.proofs.Common.{◌≡◌, ◌+◌, ◌<◌, ℕ, zero, suc, List, [], ◌∷◌, ◌++◌, length, get_or, take, Option, Some, None, refl, sym, ap, ap₂, ◌∙◌, append_assoc, append-nil, add-one, arith}
use Rattle.std.specs.Prelude.{slice_get}
use Rattle.std.specs.List.{flat_map, fold, range_with_len}
use Rattle.std.proofs.lemmas.List.{take_more}
use Rattle.std.proofs.lemmas.List.Sums.{fold_more}
use Rattle.std.proofs.lemmas.List.Concat.{flat_map-append}
use Rattle.office_map.specs.inner.Noted.{with_place_at}

-- one number more
range_more : (a n : ℕ) → range_with_len a (suc n) ≡ range_with_len a n ++ (a + n) ∷ []
range_more a zero = ap (λ m. m ∷ []) (omega arith)
range_more a (suc n) =
    let same : (a + 1) + n ≡ a + suc n = omega arith in
    ap (λ more. a ∷ more) (range_more (a + 1) n ∙ ap (λ m. range_with_len (a + 1) n ++ m ∷ []) same)

-- the parts of a list with one element more
flat_map-one : {A : Type 0} (f : A → List ℕ) (xs : List A) (x : A) → flat_map f (xs ++ x ∷ []) ≡ flat_map f xs ++ f x
flat_map-one f xs x = flat_map-append f xs (x ∷ []) ∙ ap (λ more. flat_map f xs ++ more) (append-nil (f x))

flat_map-range_more : (f : ℕ → List ℕ) (n : ℕ) → flat_map f (range_with_len 0 (n + 1)) ≡ flat_map f (range_with_len 0 n) ++ f n
flat_map-range_more f n =
    let one : range_with_len 0 (n + 1) ≡ range_with_len 0 n ++ n ∷ [] = ap (range_with_len 0) (add-one n) ∙ range_more 0 n ∙ ap (λ m. range_with_len 0 n ++ m ∷ []) (omega arith) in
    ap (flat_map f) one ∙ flat_map-one f (range_with_len 0 n) n

-- a text with the parts so far, and one part more
more_pushed : (first text more parts part whole : List ℕ) → text ≡ first ++ parts → more ≡ text ++ part → whole ≡ parts ++ part → more ≡ first ++ whole
more_pushed first text more parts part whole so_far is next = is ∙ ap (λ t. t ++ part) so_far ∙ append_assoc first parts part ∙ ap (λ t. first ++ t) (sym next)

pub range_pushed : (f : ℕ → List ℕ) (first text more : List ℕ) (i : ℕ) → text ≡ first ++ flat_map f (range_with_len 0 i) → more ≡ text ++ f i → more ≡ first ++ flat_map f (range_with_len 0 (i + 1))
range_pushed f first text more i so_far is = more_pushed first text more (flat_map f (range_with_len 0 i)) (f i) _ so_far is (flat_map-range_more f i)

pub item_pushed : {A : Type 0} (f : A → List ℕ) (xs : List A) (first text more : List ℕ) (i : ℕ) (x d : A) → i < length xs → x ≡ get_or xs i d → text ≡ first ++ flat_map f (take i xs) → more ≡ text ++ f x → more ≡ first ++ flat_map f (take (i + 1) xs)
item_pushed f xs first text more i x d lt same so_far is =
    more_pushed first text more (flat_map f (take i xs)) (f x) _ so_far is (ap (flat_map f) (take_more xs i d lt ∙ ap (λ y. take i xs ++ y ∷ []) (sym same)) ∙ flat_map-one f (take i xs) x)

pub yielded_pushed : {A : Type 0} (f : A → List ℕ) (xs : List A) (x : A) (first text more : List ℕ) → text ≡ first ++ flat_map f xs → more ≡ text ++ f x → more ≡ first ++ flat_map f (xs ++ x ∷ [])
yielded_pushed f xs x first text more so_far is = more_pushed first text more (flat_map f xs) (f x) _ so_far is (flat_map-one f xs x)

-- what a fold makes of one element more
pub fold_noted : {A B : Type 0} (f : B → A → B) (xs : List A) (first so_far more : B) (i : ℕ) (x d : A) → i < length xs → x ≡ get_or xs i d → so_far ≡ fold f first (take i xs) → more ≡ f so_far x → more ≡ fold f first (take (i + 1) xs)
fold_noted f xs first so_far more i x d lt same before is = is ∙ ap₂ f before same ∙ sym (fold_more f first xs i d lt)

-- a place noted behind a longer list
behind : (x : List ℕ) (xs : List (List ℕ)) (o : Option (List ℕ)) → x ∷ with_place_at xs o ≡ with_place_at (x ∷ xs) o
behind x xs None = refl
behind x xs (Some place) = refl

-- one place more of a list
slice_taken : (xs : List (List ℕ)) (k : ℕ) → take (suc k) xs ≡ with_place_at (take k xs) (slice_get xs k)
slice_taken [] zero = refl
slice_taken [] (suc k) = refl
slice_taken (x ∷ xs) zero = refl
slice_taken (x ∷ xs) (suc k) = ap (λ ys. x ∷ ys) (slice_taken xs k) ∙ behind x (take k xs) (slice_get xs k)

pub place_noted : (xs places more : List (List ℕ)) (k : ℕ) → places ≡ take k xs → more ≡ with_place_at places (slice_get xs k) → more ≡ take (k + 1) xs
place_noted xs places more k so_far is = is ∙ ap (λ ys. with_place_at ys (slice_get xs k)) so_far ∙ sym (slice_taken xs k) ∙ ap (λ n. take n xs) (sym (add-one k))
