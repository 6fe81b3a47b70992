-- Lines that are added to a text one after the other, as a loop goes over their rows.
use Rattle.std.proofs.Common.{◌≡◌, ◌+◌, ◌<◌, ℕ, List, [], ◌∷◌, ◌++◌, length, get_or, map, take, refl, sym, ap, ◌∙◌, subst, append_assoc, append-nil}
use Rattle.std.specs.List.{AllZip, concat}
use Rattle.std.proofs.lemmas.List.Folds.{concat-append}
use Rattle.std.proofs.lemmas.List.{map-append, take_more}
use Rattle.reply_texts.specs.Lines.{Adds, AreLines}

AllZip-more : {A B : Type 0} (P : A → B → Type 0) (xs : List A) (ys : List B) (x : A) (y : B) → AllZip P xs ys → P x y → AllZip P (xs ++ x ∷ []) (ys ++ y ∷ [])
AllZip-more P [] [] x y h p = (p, tt)
AllZip-more P [] (b ∷ ys) x y h p = absurd h
AllZip-more P (a ∷ xs) [] x y h p = absurd h
AllZip-more P (a ∷ xs) (b ∷ ys) x y h p = (h.0, AllZip-more P xs ys x y h.1 p)

-- no row has no line
pub Adds-no_lines : {A : Type 0} (P : A → List ℕ → Type 0) (text : List ℕ) → Adds (AreLines P []) text text
Adds-no_lines P text = record { added = []; is = record { lines = []; each = tt; whole = refl }; whole = sym (append-nil text) }

-- one row more has one line more
pub Adds-line : {A : Type 0} (P : A → List ℕ → Type 0) (rows : List A) (row : A) (first middle last : List ℕ) → Adds (AreLines P rows) first middle → Adds (P row) middle last → Adds (AreLines P (rows ++ row ∷ [])) first last
Adds-line P rows row first middle last before line = record {
  added = before.added ++ line.added;
  is = record {
    lines = before.is.lines ++ line.added ∷ [];
    each = AllZip-more P rows before.is.lines row line.added before.is.each line.is;
    whole = ap (λ t. t ++ line.added) before.is.whole ∙ ap (λ t. concat before.is.lines ++ t) (sym (append-nil line.added)) ∙ sym (concat-append before.is.lines (line.added ∷ []));
  };
  whole = line.whole ∙ ap (λ t. t ++ line.added) before.whole ∙ append_assoc first before.added line.added;
}

-- the same rows, told otherwise
pub Adds-lines-along : {A : Type 0} (P : A → List ℕ → Type 0) (rows others : List A) (first last : List ℕ) → rows ≡ others → Adds (AreLines P rows) first last → Adds (AreLines P others) first last
Adds-lines-along P rows others first last same h = subst (λ xs. Adds (AreLines P xs) first last) same h

-- one element more
pub taken_more : {A : Type 0} (xs : List A) (i : ℕ) (x d : A) → i < length xs → x ≡ get_or xs i d → take (i + 1) xs ≡ take i xs ++ x ∷ []
taken_more xs i x d lt is = take_more xs i d lt ∙ ap (λ y. take i xs ++ y ∷ []) (sym is)

pub map-taken_more : {A B : Type 0} (f : A → B) (xs : List A) (i : ℕ) (x d : A) → i < length xs → x ≡ get_or xs i d → map f (take (i + 1) xs) ≡ map f (take i xs) ++ f x ∷ []
map-taken_more f xs i x d lt is = ap (map f) (taken_more xs i x d lt is) ∙ map-append f (take i xs) (x ∷ [])
