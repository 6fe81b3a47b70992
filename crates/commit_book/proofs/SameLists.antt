-- Two lists that are compared element by element are one.
use Rattle.std.proofs.Common.{◌≡◌, ◌∙◌, ◌+◌, ◌<◌, ℕ, true, List, [], ◌∷◌, ◌++◌, length, get_or, take, refl, sym, ap, add-one}
use Rattle.std.specs.Cmp.Lexicographic.{pointwise}
use Rattle.std.proofs.Math.Seq.{take-suc}
use Rattle.wagons_and_orders.specs.declared.free_wagon.FreeWagon.{FreeWagon}
use Rattle.commit_book.specs.Commits.{is_same_wagon}
use Rattle.commit_book.proofs.CommitLaws.{both_true, same_wagon}

same_cons : {A : Type 0} (x y : A) (xs ys : List A) → x ≡ y → xs ≡ ys → (x ∷ xs) ≡ (y ∷ ys)
same_cons {A} x y xs ys h hs = ap (λ (a : A). a ∷ xs) h ∙ ap (λ (rest : List A). y ∷ rest) hs

pub same_wagons : (xs ys : List FreeWagon) → pointwise is_same_wagon xs ys ≡ true → xs ≡ ys
same_wagons [] [] h = refl
same_wagons [] (y ∷ ys) h = absurd cc
same_wagons (x ∷ xs) [] h = absurd cc
same_wagons (x ∷ xs) (y ∷ ys) h =
    let f = both_true (is_same_wagon x y) (pointwise is_same_wagon xs ys) h in
    same_cons x y xs ys (same_wagon x y f.0) (same_wagons xs ys f.1)

-- the fronts of two lists, by one more element
pub same_fronts : {A : Type 0} (xs ys : List A) (k : ℕ) (x y : A) → k < length xs → k < length ys → x ≡ get_or xs k x → y ≡ get_or ys k y → x ≡ y → take k xs ≡ take k ys → take (k + 1) xs ≡ take (k + 1) ys
same_fronts {A} xs ys k x y in_xs in_ys is_x is_y same before =
    let next_x : take (k + 1) xs ≡ take k xs ++ x ∷ [] = ap (λ (n : ℕ). take n xs) (add-one k) ∙ take-suc xs k x in_xs ∙ ap (λ (a : A). take k xs ++ a ∷ []) (sym is_x) in
    let next_y : take (k + 1) ys ≡ take k ys ++ y ∷ [] = ap (λ (n : ℕ). take n ys) (add-one k) ∙ take-suc ys k y in_ys ∙ ap (λ (a : A). take k ys ++ a ∷ []) (sym is_y) in
    next_x ∙ ap (λ (front : List A). front ++ x ∷ []) before ∙ ap (λ (a : A). take k ys ++ a ∷ []) same ∙ sym next_y
