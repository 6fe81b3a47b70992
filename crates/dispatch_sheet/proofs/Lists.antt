-- The list of an order's wagons.
use Rattle.std.proofs.Common.{◌≡◌, ℕ, suc, List, [], ◌∷◌, ◌++◌, length, map, Bool, true, false, refl, sym, ap, ap₂, ◌∙◌, append_assoc, append-nil, arith}
use Rattle.std.specs.Prelude.{if◌then◌else◌, ◌==◌, not}
use Rattle.std.specs.List.{join_with_byte}
use Rattle.std.proofs.lemmas.Bool.Decides.{nat_tests}
use Rattle.dispatch_sheet.specs.Sheet.{list_word}
use Rattle.reply_texts.specs.Words.{next_word}
use Rattle.dispatch_sheet.specs.inner.Pushed.{listed}

-- whether a list has wagons
abbrev pub has_some : List (List ℕ) → Bool
has_some [] = false
has_some (wagon ∷ wagons) = true

-- whether some stand in the list after these
abbrev pub later : (earlier : Bool) → List (List ℕ) → Bool
later earlier [] = earlier
later earlier (wagon ∷ wagons) = true

-- the wagons of two lists, one after the other
pub listed-append : (earlier : Bool) (xs ys : List (List ℕ)) → listed earlier (xs ++ ys) ≡ listed earlier xs ++ listed (later earlier xs) ys
listed-append earlier [] ys = refl
listed-append earlier (x ∷ []) ys = ap (λ t. (if earlier then 44 else 32) ∷ t) (ap (λ t. t ++ listed true ys) (sym (append-nil x)))
listed-append earlier (x ∷ y ∷ xs) ys = ap (λ t. (if earlier then 44 else 32) ∷ t) (ap (λ t. x ++ t) (listed-append true (y ∷ xs) ys) ∙ sym (append_assoc x (listed true (y ∷ xs)) (listed true ys)))

-- one wagon more
pub listed-more : (earlier now : Bool) (xs : List (List ℕ)) (x first text : List ℕ) → text ≡ first ++ listed earlier xs → now ≡ later earlier xs → text ++ (if now then 44 else 32) ∷ x ≡ first ++ listed earlier (xs ++ x ∷ [])
listed-more earlier now xs x first text so_far is =
    ap₂ (λ (t : List ℕ) (b : Bool). t ++ (if b then 44 else 32) ∷ x) so_far is ∙ append_assoc first (listed earlier xs) ((if later earlier xs then 44 else 32) ∷ x)
    ∙ ap (λ t. first ++ t) (ap (λ z. listed earlier xs ++ (if later earlier xs then 44 else 32) ∷ z) (sym (append-nil x)) ∙ sym (listed-append earlier xs (x ∷ [])))

pub later-more : (earlier : Bool) (xs : List (List ℕ)) (x : List ℕ) → true ≡ later earlier (xs ++ x ∷ [])
later-more earlier [] x = refl
later-more earlier (y ∷ xs) x = refl

comma_joined : (x : List ℕ) (xs : List (List ℕ)) → x ++ listed true xs ≡ join_with_byte 44 (x ∷ xs)
comma_joined x [] = append-nil x
comma_joined x (y ∷ xs) = ap (λ t. x ++ 44 ∷ t) (comma_joined y xs)

listed-list_word : (xs : List (List ℕ)) → has_some xs ≡ true → listed false xs ≡ next_word (list_word xs)
listed-list_word [] some = absurd cc
listed-list_word (x ∷ xs) some = ap (λ t. 32 ∷ t) (comma_joined x xs)

-- two lists with wagons, behind a space
pub listed-whole : (xs ys : List (List ℕ)) → has_some (xs ++ ys) ≡ true → listed false xs ++ listed (later false xs) ys ≡ next_word (list_word (xs ++ ys))
listed-whole xs ys some = sym (listed-append false xs ys) ∙ listed-list_word (xs ++ ys) some

-- no mark
pub map-no_mark : (xs : List (List ℕ)) → map (λ number. number ++ []) xs ≡ xs
map-no_mark [] = refl
map-no_mark (x ∷ xs) = ap₂ (λ (y : List ℕ) (ys : List (List ℕ)). y ∷ ys) (append-nil x) (map-no_mark xs)

pub has_some-left : (xs ys : List (List ℕ)) → (length xs == 0) ≡ false → has_some (xs ++ ys) ≡ true
has_some-left [] ys some = absurd cc
has_some-left (x ∷ xs) ys some = refl

pub has_some-right : (f : List ℕ → List ℕ) (xs ys : List (List ℕ)) → (length ys == 0) ≡ false → has_some (xs ++ map f ys) ≡ true
has_some-right f [] [] some = absurd cc
has_some-right f [] (y ∷ ys) some = refl
has_some-right f (x ∷ xs) ys some = refl

some_long : (n : ℕ) → (suc n == 0) ≡ false
some_long n = grind (arith, nat_tests)

later-by_test : (xs : List (List ℕ)) (none : Bool) → none ≡ (length xs == 0) → not none ≡ later false xs
later-by_test [] none is = ap not is
later-by_test (x ∷ xs) none is = ap not (is ∙ some_long (length xs))

-- the promised wagons, and those that filled the order behind them
pub list-pushed : (first middle last : List ℕ) (promised filled : List (List ℕ)) (none : Bool) → has_some (promised ++ filled) ≡ true → none ≡ (length promised == 0)
    → middle ≡ first ++ listed false (map (λ number. number ++ []) promised) → last ≡ middle ++ listed (not none) filled → last ≡ first ++ next_word (list_word (promised ++ filled))
list-pushed first middle last promised filled none some is mid end =
    end ∙ ap₂ (λ (t : List ℕ) (b : Bool). t ++ listed b filled) mid (later-by_test promised none is)
    ∙ ap (λ xs. (first ++ listed false xs) ++ listed (later false promised) filled) (map-no_mark promised)
    ∙ append_assoc first (listed false promised) (listed (later false promised) filled) ∙ ap (λ t. first ++ t) (listed-whole promised filled some)
