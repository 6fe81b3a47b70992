-- Codes that are compared as texts, and lists of them.
use Rattle.std.proofs.Common.{◌≡◌, ◌∙◌, ℕ, Bool, true, false, cond, not, ◌||◌, ◌&&◌, List, [], ◌∷◌, ◌++◌, refl, ap, sym, nat_eq, arith}
use Rattle.std.specs.List.{filter, list_any, Contains}
use Rattle.std.specs.Cmp.Lexicographic.{pointwise, bytes_decides, nat_list_eq_equiv}
use Rattle.std.proofs.lemmas.List.Folds.{list_any-append}
use Rattle.std.proofs.lemmas.Map.Views.{list_any-from_Contains, Contains-from_any}
use Rattle.wagons_and_orders.specs.Numbers.{is_below, is_number, with_number, without_number}
use Rattle.operating_db.specs.Promises.{is_among}

abbrev pub same : List ℕ → List ℕ → Bool
same x y = pointwise nat_eq x y

pub same_is : (x y : List ℕ) → same x y ≡ true → x ≡ y
same_is x y h = (bytes_decides x y).0 h

pub same_self : (x : List ℕ) → same x x ≡ true
same_self x = (bytes_decides x x).1 refl

both_ways : (a b : Bool) → (a ≡ true → b ≡ true) → (b ≡ true → a ≡ true) → a ≡ b
both_ways true b h g = sym (h refl)
both_ways false true h g = g refl
both_ways false false h g = refl

pub same_sym : (x y : List ℕ) → same x y ≡ same y x
same_sym x y = both_ways (same x y) (same y x) (λ h. (bytes_decides y x).1 (sym (same_is x y h))) (λ h. (bytes_decides x y).1 (sym (same_is y x h)))

-- what is the same as x compares as x does
pub same_left : (x y z : List ℕ) → same x y ≡ true → same x z ≡ same y z
same_left x y z h = ap (λ n. same n z) (same_is x y h)

pub same_right : (x y z : List ℕ) → same x y ≡ true → same z x ≡ same z y
same_right x y z h = ap (λ n. same z n) (same_is x y h)

swap_or : (a b c : Bool) → (a || (b || c)) ≡ (b || (a || c))
swap_or true true c = refl
swap_or true false c = refl
swap_or false b c = refl

any-between : (p : List ℕ → Bool) (front : List (List ℕ)) (y : List ℕ) (back : List (List ℕ)) → list_any p (front ++ y ∷ back) ≡ (p y || list_any p (front ++ back))
any-between p [] y back = refl
any-between p (x ∷ front) y back = ap (λ b. p x || b) (any-between p front y back) ∙ swap_or (p x) (p y) (list_any p (front ++ back))

-- an element is among those that pass a test or among those that don't, by what each passes: `b`
parted_step : (b any first second whole : Bool) → (first || second) ≡ whole → (cond b (any || first) first || cond (not b) (any || second) second) ≡ (any || whole)
parted_step true true first second whole h = refl
parted_step true false first second whole h = h
parted_step false any first second whole h = swap_or first any second ∙ ap (λ c. any || c) h

any-cond : (p : List ℕ → Bool) (b : Bool) (y : List ℕ) (ys : List (List ℕ)) → list_any p (cond b (y ∷ ys) ys) ≡ cond b (p y || list_any p ys) (list_any p ys)
any-cond p true y ys = refl
any-cond p false y ys = refl

any-both : (q p : List ℕ → Bool) (xs : List (List ℕ)) → (list_any q (filter p xs) || list_any q (filter (λ x. not (p x)) xs)) ≡ list_any q xs
any-both q p [] = refl
any-both q p (x ∷ xs) =
    rw (any-cond q (p x) x (filter p xs), any-cond q (not (p x)) x (filter (λ y. not (p y)) xs))
    (parted_step (p x) (q x) (list_any q (filter p xs)) (list_any q (filter (λ y. not (p y)) xs)) (list_any q xs) (any-both q p xs))

pub any-parted : (q p : List ℕ → Bool) (xs : List (List ℕ)) → list_any q (filter p xs ++ filter (λ x. not (p x)) xs) ≡ list_any q xs
any-parted q p xs = list_any-append q (filter p xs) (filter (λ x. not (p x)) xs) ∙ any-both q p xs

pub among-with : (w x : List ℕ) (ws : List (List ℕ)) → is_among x (with_number w ws) ≡ (same x w || is_among x ws)
unfolding with_number
among-with w x ws =
    any-between (same x) (filter (is_below w) ws) w (filter (λ other. not (is_below w other)) ws)
    ∙ ap (λ b. same x w || b) (any-parted (same x) (is_below w) ws)

-- `off`: y is w; `here`: it is x; `there`: w is x
without_step : (off here there any left : Bool) → (off ≡ true → here ≡ there) → (here ≡ true → off ≡ there) → left ≡ (any && not there) → cond (not off) (here || left) left ≡ ((here || any) && not there)
without_step true here true any left h g e = grind (arith, e)
without_step true here false any left h g e = let f = h refl in grind (arith, e, f)
without_step false true there any left h g e = let f = g refl in grind (arith, e, f)
without_step false false there any left h g e = e

pub among-without : (w x : List ℕ) (ws : List (List ℕ)) → is_among x (without_number w ws) ≡ (is_among x ws && not (same w x))
unfolding without_number
among-without w x [] = refl
among-without w x (y ∷ ys) =
    let off : is_number w y ≡ true → same x y ≡ same w x = λ e. same_sym x y ∙ same_left y w x e in
    let here : same x y ≡ true → is_number w y ≡ same w x = λ e. sym (same_left x y w e) ∙ same_sym x w in
    any-cond (same x) (not (is_number w y)) y (filter (λ other. not (is_number w other)) ys)
    ∙ without_step (is_number w y) (same x y) (same w x) (is_among x ys) _ off here (among-without w x ys)

pub contains_among : (x : List ℕ) (xs : List (List ℕ)) → Contains xs x → is_among x xs ≡ true
contains_among x xs h = list_any-from_Contains nat_list_eq_equiv x xs h

pub among_contains : (x : List ℕ) (xs : List (List ℕ)) → is_among x xs ≡ true → Contains xs x
among_contains x xs h = Contains-from_any same_is x xs h

pub without-nil : (w : List ℕ) → without_number w [] ≡ []
unfolding without_number
without-nil w = refl
