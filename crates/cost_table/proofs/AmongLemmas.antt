-- Rows whose cells stand in two blocks.
use Rattle.std.proofs.Common.{◌≡◌, ◌∙◌, ◌+◌, ◌-◌, ◌<◌, ◌≤◌, ℕ, List, [], ◌∷◌, ◌++◌, length, get_or, take, drop, replicate, zero, suc, refl, sym, ap, arith, append-nil}
use Rattle.std.proofs.lemmas.List.{get_or_append_left, get_or_push, get_or-map, length-map, take_all, take_more, take-append-drop, take-append-le, map-append}
use Rattle.std.proofs.lemmas.List.Elements.{All-head, All-push, All-tail, All-weaker}
use Rattle.cost_table.specs.declared.table_rows.RowPlace.{RowPlace}
use Rattle.cost_table.specs.SharedRows.{ArePlaces, own_cells, row_among, rows_among, shared_cells}

-- one own row more: those before stay
own_kept : (own : List (List (ℕ × ℕ))) (row : List (ℕ × ℕ)) (place : RowPlace) → place.own ≤ length own → own_cells (own ++ row ∷ []) place ≡ own_cells own place
own_kept own row place l = get_or_append_left ([] ∷ own) (row ∷ []) [] place.own (omega (arith, l))

rows_kept : (shared own : List (List (ℕ × ℕ))) (row : List (ℕ × ℕ)) (places : List RowPlace) → ArePlaces own places → rows_among shared (own ++ row ∷ []) places ≡ rows_among shared own places
rows_kept shared own row [] all = refl
rows_kept shared own row (place ∷ places) all =
    let here = own_kept own row place (All-head (λ place. place.own ≤ length own) place places all) in
    let rest = rows_kept shared own row places (All-tail (λ place. place.own ≤ length own) place places all) in
    cc

-- and it stands last
own_last : (own : List (List (ℕ × ℕ))) (row : List (ℕ × ℕ)) (place : RowPlace) → place.own ≡ length own + 1 → own_cells (own ++ row ∷ []) place ≡ row
own_last own row place at = get_or_push ([] ∷ own) row [] place.own (omega (arith, at))

pub rows_taken : (shared own : List (List (ℕ × ℕ))) (places : List RowPlace) (place : RowPlace) → rows_among shared own (places ++ place ∷ []) ≡ rows_among shared own places ++ row_among shared own place ∷ []
rows_taken shared own places place = map-append (row_among shared own) places (place ∷ [])

pub rows_pushed : (shared own : List (List (ℕ × ℕ))) (row : List (ℕ × ℕ)) (places : List RowPlace) (place : RowPlace) → ArePlaces own places → place.own ≡ length own + 1 → rows_among shared (own ++ row ∷ []) (places ++ place ∷ []) ≡ rows_among shared own places ++ (shared_cells shared place ++ row) ∷ []
rows_pushed shared own row places place all at =
    rows_taken shared (own ++ row ∷ []) places place
    ∙ (ap (λ rows. rows ++ row_among shared (own ++ row ∷ []) place ∷ []) (rows_kept shared own row places all)
    ∙ ap (λ last. rows_among shared own places ++ (shared_cells shared place ++ last) ∷ []) (own_last own row place at))

pub places_pushed : (own own' : List (List (ℕ × ℕ))) (places : List RowPlace) (place : RowPlace) → ArePlaces own places → length own ≤ length own' → place.own ≤ length own' → ArePlaces own' (places ++ place ∷ [])
places_pushed own own' places place all more within =
    All-push (λ place. place.own ≤ length own') places place
    (All-weaker (λ place. place.own ≤ length own) (λ place. place.own ≤ length own') (λ place l. omega (arith, l, more)) places all)
    within

-- two parts without a cell
pub no_cells : (first rest : List (ℕ × ℕ)) → length first ≡ 0 → length rest ≡ 0 → first ++ rest ≡ []
no_cells [] [] none nothing = refl
no_cells [] (cell ∷ rest) none nothing = absurd (omega (arith, nothing))
no_cells (cell ∷ first) rest none nothing = absurd (omega (arith, none))

-- ---- own rows whose block is one to share

-- where an own row stands then
pub shared_at : (block : List (List (ℕ × ℕ))) (number : ℕ) → take (length (get_or ([] ∷ block) number [])) (get_or block (number - 1) []) ++ [] ≡ get_or ([] ∷ block) number []
shared_at block zero = refl
shared_at block (suc k) =
    let before : suc k - 1 ≡ k = omega arith in
    append-nil _ ∙ (ap (λ n. take (length (get_or block k [])) (get_or block n [])) before ∙ take_all (length (get_or block k [])) (get_or block k []) (omega arith))

take_none : (n : ℕ) (row : List (ℕ × ℕ)) → row ≡ [] → take n row ≡ []
take_none zero row none = refl
take_none (suc n) row none = rw none refl

-- one row more, none of whose cells is shared
pub own_more : (block : List (List (ℕ × ℕ))) (shared places : List RowPlace) (there place : RowPlace) → rows_among block [] shared ≡ rows_among [] block places → row_among block [] there ≡ own_cells block place → rows_among block [] (shared ++ there ∷ []) ≡ rows_among [] block (places ++ place ∷ [])
own_more block shared places there place h is =
    let own : row_among [] block place ≡ own_cells block place = ap (λ none. none ++ own_cells block place) (take_none place.count _ refl) in
    let more : rows_among block [] shared ++ row_among block [] there ∷ [] ≡ rows_among [] block places ++ row_among [] block place ∷ [] = cc in
    rows_taken block [] shared there ∙ (more ∙ sym (rows_taken [] block places place))

-- all rows of a block, one more
pub block_more : (block : List (List (ℕ × ℕ))) (places : List RowPlace) (there : RowPlace) (k : ℕ) → k < length block → rows_among block [] places ≡ take k block → row_among block [] there ≡ get_or ([] ∷ block) (k + 1) [] → rows_among block [] (places ++ there ∷ []) ≡ take (k + 1) block
block_more block places there k l h is =
    let one : k + 1 ≡ suc k = omega arith in
    let row : row_among block [] there ≡ get_or block k [] = is ∙ ap (λ n. get_or ([] ∷ block) n []) one in
    rows_taken block [] places there
    ∙ (ap (λ rows. rows ++ row_among block [] there ∷ []) h
    ∙ (ap (λ row. take k block ++ row ∷ []) row ∙ sym (take_more block k [] l)))

-- ---- a row that goes along

-- a list's first elements are those of more of its first
pub prefix_of : (n m : ℕ) (xs : List (ℕ × ℕ)) → n ≤ length (take m xs) → take n xs ≡ take n (take m xs)
prefix_of n m xs l = ap (take n) (sym (take-append-drop m xs)) ∙ take-append-le n (take m xs) (drop m xs) l

-- the row of a place
pub row_of_place : (shared own : List (List (ℕ × ℕ))) (places : List RowPlace) (i : ℕ) (place : RowPlace) → i < length (rows_among shared own places) → get_or (rows_among shared own places) i [] ≡ row_among shared own (get_or places i place)
row_of_place shared own places i place l = get_or-map (row_among shared own) places i place [] (omega (arith, l, length-map places (row_among shared own)))

-- ---- rows without a cell

pub rows_empty : (n : ℕ) (place : RowPlace) → place.count ≡ 0 → place.own ≡ 0 → rows_among [] [] (replicate n place) ≡ replicate n []
rows_empty zero place none own = refl
rows_empty (suc n) place none own =
    let first : row_among [] [] place ≡ [] = rw (none, own) refl in
    ap (λ rows. row_among [] [] place ∷ rows) (rows_empty n place none own) ∙ ap (λ row. row ∷ replicate n []) first
