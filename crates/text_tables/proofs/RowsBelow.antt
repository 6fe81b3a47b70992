-- Rows for things, made one after the other.
use Rattle.std.proofs.Common.{◌≡◌, ◌∙◌, ℕ, ◌+◌, ◌<◌, List, ◌∷◌, [], ◌++◌, length, get_or, take, ap, subst, sym}
use Rattle.std.proofs.lemmas.List.{take_more}
use Rattle.std.specs.List.{AllZip}
use Rattle.text_tables.specs.Row.{Row}
use Rattle.text_tables.specs.RowsBelow.{AreBelow}

-- one more of both lists
pub AllZip-more : {A B : Type 0} (P : A → B → Type 0) (xs : List A) (ys : List B) (x : A) (y : B) → AllZip P xs ys → P x y → AllZip P (xs ++ x ∷ []) (ys ++ y ∷ [])
AllZip-more P [] [] x y h p = (p, tt)
AllZip-more P [] (b ∷ ys) x y h p = absurd h
AllZip-more P (a ∷ xs) [] x y h p = absurd h
AllZip-more P (a ∷ xs) (b ∷ ys) x y h p = (h.0, AllZip-more P xs ys x y h.1 p)

-- the item at i, and those before it
pub AllZip-taken_more : {A B : Type 0} (P : A → B → Type 0) (xs : List A) (ys : List B) (i : ℕ) (d x : A) (y : B) → i < length xs → x ≡ get_or xs i d → AllZip P (take i xs) ys → P x y → AllZip P (take (i + 1) xs) (ys ++ y ∷ [])
AllZip-taken_more P xs ys i d x y lt is h p =
    subst (λ l. AllZip P l (ys ++ y ∷ [])) (ap (λ z. take i xs ++ z ∷ []) is ∙ sym (take_more xs i d lt)) (AllZip-more P (take i xs) ys x y h p)

-- the titles alone
pub AreBelow-none : {A : Type 0} (is_row : A → Row → Type 0) (titles : Row) (all : List Row) → all ≡ titles ∷ [] → AreBelow is_row titles [] all
AreBelow-none is_row titles all is = record { rows = []; each = tt; whole = is }

-- the row of one more thing
pub AreBelow-more : {A : Type 0} (is_row : A → Row → Type 0) (titles : Row) (things : List A) (before all : List Row) (i : ℕ) (d thing : A) (row : Row) → AreBelow is_row titles (take i things) before → i < length things
    → thing ≡ get_or things i d → is_row thing row → all ≡ before ++ row ∷ [] → AreBelow is_row titles (take (i + 1) things) all
AreBelow-more is_row titles things before all i d thing row h lt at is added = record {
  rows = h.rows ++ row ∷ [];
  each = AllZip-taken_more is_row things h.rows i d thing row lt at h.each is;
  whole = added ∙ ap (λ rows. rows ++ row ∷ []) h.whole;
}
