use Rattle.std.proofs.Common.{◌≡◌, ◌-◌, ◌+◌, ◌<◌, ◌≤◌, ℕ, zero, suc, true, List, [], ◌∷◌, ◌++◌, length, get_or, refl, sym, arith, slice_range, ap, drop, length-append, length-drop, map, ◌∙◌}
use Rattle.std.specs.Prelude.{All, sum}
use Rattle.std.specs.List.{AllByRecursion}
use Rattle.std.proofs.lemmas.List.{take-append-le, drop-append-le, drop_at, length-take-le, take_all}
use Rattle.std.proofs.lemmas.List.Sums.{sum_by-cons}
use Rattle.std.proofs.lemmas.List.Elements.{recursion_from_All}
use Rattle.std.proofs.lemmas.Bool.Decides.{nat_tests}
use Rattle.cost_table.specs.RowBlocks.{rows_of, AreEnds, last_end, HoldRows}
use Rattle.cost_table.specs.SharedRows.{cell_count}
use Rattle.wagons_and_orders.specs.WantedLimits.{IsLack}
use Rattle.cost_table.specs.TableLimits.{max_table_lack, max_table_orders}
use Rattle.cost_table.specs.Rows.{Rows, is_too_large}

pub length-rows_of : (entries : List (ℕ × ℕ)) (start : ℕ) (ends : List ℕ) → length (rows_of entries start ends) ≡ length ends
length-rows_of entries start [] = refl
length-rows_of entries start (end ∷ ends) = ap suc (length-rows_of entries end ends)

-- where row i starts and ends
pub get_or-rows_of : (entries : List (ℕ × ℕ)) (start : ℕ) (ends : List ℕ) (i : ℕ) → i < length ends → get_or (rows_of entries start ends) i [] ≡ slice_range entries (get_or (start ∷ ends) i 0) (get_or ends i 0)
get_or-rows_of entries start [] i h = absurd (omega arith)
get_or-rows_of entries start (end ∷ ends) zero h = refl
get_or-rows_of entries start (end ∷ ends) (suc i) h = get_or-rows_of entries end ends i (omega arith)

pub ends_in_range : (limit start : ℕ) (ends : List ℕ) (i : ℕ) → AreEnds limit start ends → i < length ends → (get_or (start ∷ ends) i 0 ≤ get_or ends i 0) × (get_or ends i 0 ≤ limit)
ends_in_range limit start [] i a h = absurd (omega arith)
ends_in_range limit start (end ∷ ends) zero a h = (a.0, a.1)
ends_in_range limit start (end ∷ ends) (suc i) a h = ends_in_range limit end ends i a.2 (omega arith)

pub ruleset row_lookups = get_or-rows_of

-- a part within the first of two lists is a part of it
range-append : (xs ys : List (ℕ × ℕ)) (a b : ℕ) → a ≤ b → b ≤ length xs → slice_range (xs ++ ys) a b ≡ slice_range xs a b
range-append xs ys a b below within =
    let front : a ≤ length xs = omega arith in
    let left : drop a (xs ++ ys) ≡ drop a xs ++ ys = drop-append-le a xs ys front in
    let short : b - a ≤ length (drop a xs) = omega (arith, length-drop a xs) in
    rw left (take-append-le (b - a) (drop a xs) ys short)

range_all : (xs ys : List (ℕ × ℕ)) (a : ℕ) → a ≡ length xs → slice_range (xs ++ ys) a (length (xs ++ ys)) ≡ ys
range_all xs ys a h =
    let left : drop a (xs ++ ys) ≡ ys = drop_at xs ys a (sym h) in
    let long : length ys ≤ length (xs ++ ys) - a = omega (arith, length-append xs ys) in
    rw left (take_all (length (xs ++ ys) - a) ys long)

rows_push : (entries more : List (ℕ × ℕ)) (start : ℕ) (ends : List ℕ) → AreEnds (length entries) start ends → last_end start ends ≡ length entries → rows_of (entries ++ more) start (ends ++ length (entries ++ more) ∷ []) ≡ rows_of entries start ends ++ more ∷ []
rows_push entries more start [] ascend last = ap (λ row. row ∷ []) (range_all entries more start last)
rows_push entries more start (end ∷ ends) ascend last =
    rw (range-append entries more start end ascend.0 ascend.1) (ap (λ rows. slice_range entries start end ∷ rows) (rows_push entries more end ends ascend.2 last))

ends_push : (limit limit' start : ℕ) (ends : List ℕ) → AreEnds limit start ends → last_end start ends ≡ limit → limit ≤ limit' → AreEnds limit' start (ends ++ limit' ∷ [])
ends_push limit limit' start [] ascend last more = (omega arith, omega arith, tt)
ends_push limit limit' start (end ∷ ends) ascend last more = (ascend.0, omega (arith, ascend.1), ends_push limit limit' end ends ascend.2 last more)

last_push : (start : ℕ) (ends : List ℕ) (end : ℕ) → last_end start (ends ++ end ∷ []) ≡ end
last_push start [] end = refl
last_push start (e ∷ ends) end = last_push e ends end

-- one more row
pub HoldRows-push : (entries more : List (ℕ × ℕ)) (ends : List ℕ) (rows : List (List (ℕ × ℕ))) → HoldRows entries ends rows → HoldRows (entries ++ more) (ends ++ length (entries ++ more) ∷ []) (rows ++ more ∷ [])
HoldRows-push entries more ends rows h =
    let were : rows_of entries 0 ends ≡ rows = h.rows_are in
    let longer : length entries ≤ length (entries ++ more) = omega (arith, length-append entries more) in
    record {
      rows_are = rw (← were) (rows_push entries more 0 ends h.ends_ascend h.last);
      ends_ascend = ends_push (length entries) (length (entries ++ more)) 0 ends h.ends_ascend h.last longer;
      last = last_push 0 ends (length (entries ++ more));
    }

pub HoldRows-more : (entries entries' more : List (ℕ × ℕ)) (ends ends' : List ℕ) (rows rows' : List (List (ℕ × ℕ))) → entries' ≡ entries ++ more → ends' ≡ ends ++ length entries' ∷ [] → rows' ≡ rows ++ more ∷ [] → HoldRows entries ends rows → HoldRows entries' ends' rows'
HoldRows-more entries entries' more ends ends' rows rows' e d r h =
    rw (r, d, e) (HoldRows-push entries more ends rows h)

-- rows that are held are those that lie there
pub held : (entries : List (ℕ × ℕ)) (ends : List ℕ) (rows : List (List (ℕ × ℕ))) → HoldRows entries ends rows → HoldRows entries ends (rows_of entries 0 ends)
held entries ends rows h = record { rows_are = refl; ends_ascend = h.ends_ascend; last = h.last }

-- the cells of rows that lie one after another
count_from : (entries : List (ℕ × ℕ)) (start : ℕ) (ends : List ℕ) → AreEnds (length entries) start ends → start + cell_count (rows_of entries start ends) ≡ last_end start ends
count_from entries start [] ascend = omega arith
count_from entries start (end ∷ ends) ascend =
    let left : end - start ≤ length (drop start entries) = omega (arith, length-drop start entries, ascend.1) in
    let here : length (slice_range entries start end) ≡ end - start = length-take-le (end - start) (drop start entries) left in
    let later = count_from entries end ends ascend.2 in
    omega (arith, here, later, ascend.0, sum_by-cons (λ (x : ℕ). x) (length (slice_range entries start end)) (map length (rows_of entries end ends)))

pub cells_held : (entries : List (ℕ × ℕ)) (ends : List ℕ) (rows : List (List (ℕ × ℕ))) → HoldRows entries ends rows → cell_count rows ≡ length entries
cells_held entries ends rows h =
    let count : cell_count (rows_of entries 0 ends) ≡ length entries = omega (arith, count_from entries 0 ends h.ends_ascend, h.last) in
    ap cell_count (sym h.rows_are) ∙ count

-- each lacks one wagon or more
length-le-lacks : (lacks : List ℕ) → AllByRecursion IsLack lacks → length lacks ≤ sum lacks
length-le-lacks [] h = omega arith
length-le-lacks (lack ∷ lacks) h =
    let rest = length-le-lacks lacks h.1 in
    let one : 1 ≤ lack = h.0.0 in
    omega (arith, rest, one, sum_by-cons (λ (x : ℕ). x) lack lacks)

pub too_large_by_lacks : (rows : Rows) (penalties lacks : List ℕ) → All IsLack lacks → max_table_orders < length lacks → true ≡ is_too_large rows penalties lacks
too_large_by_lacks rows penalties lacks all many =
    let least = length-le-lacks lacks (recursion_from_All IsLack lacks all) in
    let over : max_table_lack < sum lacks = omega (arith, least) in
    grind (arith, nat_tests, over)
