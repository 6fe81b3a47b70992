use Rattle.std.proofs.Common.{◌≡◌, ◌+◌, ◌<◌, ℕ, Bool, true, false, Some, cond, List, [], ◌∷◌, length, get_or, take, drop, map, refl, sym, ap, ◌∙◌, arith}
use Rattle.std.specs.Prelude.{nat_eq, position, ◌||◌}
use Rattle.std.specs.Cmp.Lexicographic.{pointwise}
use Rattle.std.specs.List.{list_any, position_or_len}
use Rattle.std.proofs.lemmas.List.{length-map, get_or-map, take-map}
use Rattle.std.proofs.lemmas.List.Recursion.{is_position_or_len}
use Rattle.wagons_and_orders.specs.declared.free_wagon.FreeWagon.{FreeWagon}
use Rattle.wagons_and_orders.specs.Wanted.{WantedOrder}
use Rattle.cost_table.specs.Names.{is_name, both, pair_of}
use Rattle.cost_table.specs.DistinctNames.{is_name_among, repeated_after}
use Rattle.cost_table.specs.Problem.{ProblemValue, names_of_problem}
use Rattle.cost_table.proofs.NameLemmas.{repeated_here, repeated_later}

pub list_any-map : {X Y : Type 0} (p : Y → Bool) (f : X → Y) (xs : List X) → list_any p (map f xs) ≡ list_any (λ x. p (f x)) xs
list_any-map p f [] = refl
list_any-map p f (x ∷ xs) = ap (λ b. p (f x) || b) (list_any-map p f xs)

first-map : {X Y : Type 0} (p : Y → Bool) (f : X → Y) (xs : List X) → position_or_len p (map f xs) ≡ position_or_len (λ x. p (f x)) xs
first-map p f = is_position_or_len (λ xs. position_or_len p (map f xs)) (λ x. p (f x)) refl (λ x xs. first_step p (f x) (map f xs)) where
  first_step : {Y : Type 0} (p : Y → Bool) (y : Y) (ys : List Y) → position_or_len p (y ∷ ys) ≡ cond (p y) 0 (1 + position_or_len p ys)
  first_step p y ys = cases (p y) refl where
    cases : (b : Bool) → p y ≡ b → position_or_len p (y ∷ ys) ≡ cond (p y) 0 (1 + position_or_len p ys)
    cases true h = rw h refl
    cases false h = rw h refl

pub position-map : {X Y : Type 0} (p : Y → Bool) (f : X → Y) (xs : List X) → position p (map f xs) ≡ position (λ x. p (f x)) xs
position-map p f xs = rw (first-map p f xs, length-map xs f) refl

named_at : {X : Type 0} (f : X → List ℕ) (xs : List X) (k : ℕ) (x : X) (name : List ℕ) → k < length xs → x ≡ get_or xs k x → name ≡ f x → name ≡ get_or (map f xs) k name
named_at f xs k x name l is named = named ∙ (ap f is ∙ sym (get_or-map f xs k x name l))

-- the name of what stands at k stands before it too
pub named_before : {X : Type 0} (f : X → List ℕ) (xs : List X) (k : ℕ) (x : X) (name : List ℕ) → k < length xs → x ≡ get_or xs k x → name ≡ f x → list_any (λ y. is_name name (f y)) (take k xs) ≡ true → repeated_after (take k (map f xs)) (drop k (map f xs)) ≡ Some name
named_before f xs k x name l is named h =
    repeated_here (λ name other. pointwise nat_eq name other) (map f xs) k name (omega (arith, length-map xs f)) (named_at f xs k x name l is named)
    (ap (λ names. is_name_among names name) (take-map f k xs) ∙ (list_any-map (is_name name) f (take k xs) ∙ h))

pub named_later : {X : Type 0} (f : X → List ℕ) (xs : List X) (k : ℕ) (x : X) (name : List ℕ) → k < length xs → x ≡ get_or xs k x → name ≡ f x → list_any (λ y. is_name name (f y)) (take k xs) ≡ false → repeated_after (take (k + 1) (map f xs)) (drop (k + 1) (map f xs)) ≡ repeated_after (take k (map f xs)) (drop k (map f xs))
named_later f xs k x name l is named h =
    repeated_later (λ name other. pointwise nat_eq name other) (map f xs) k name (omega (arith, length-map xs f)) (named_at f xs k x name l is named)
    (ap (λ names. is_name_among names name) (take-map f k xs) ∙ (list_any-map (is_name name) f (take k xs) ∙ h))

-- where a pair stands, by the lists themselves
pub pair_of-names : (problem : ProblemValue) (number id : List ℕ) → both (position (λ (w : FreeWagon). is_name number w.number) problem.wagons) (position (λ (o : WantedOrder). is_name id o.order.id) problem.orders) ≡ pair_of (names_of_problem problem) number id
pair_of-names problem number id =
    rw (position-map (is_name number) (λ (w : FreeWagon). w.number) problem.wagons, position-map (is_name id) (λ (o : WantedOrder). o.order.id) problem.orders) refl
