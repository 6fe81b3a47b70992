-- Wagons and orders that are found by name, wagons without a walk.
use Rattle.std.proofs.Common.{◌≡◌, ◌∙◌, ℕ, ◌<◌, Bool, false, List, [], ◌∷◌, length, get_or, Result, Ok, Err, refl, ap, sym, subst, inl, inr, arith}
use Rattle.std.specs.Prelude.{Option, Some, None, position, slice_get}
use Rattle.std.specs.Cmp.Lexicographic.{bytes_decides, texts_ties}
use Rattle.std.specs.List.{AllByRecursion, cons_option, find, list_any}
use Rattle.std.specs.List.Sorted.{IsBinarySearchResult, IsNonDecreasingBy, IsSearchInRange, IsStrictlySortedBy}
use Rattle.std.specs.Ordering.{is_eq, ordering_index}
use Rattle.std.specs.Result.{result_ok}
use Rattle.std.specs.declared.cmp.Ordering.TheVariants.{Less}
use Rattle.std.proofs.lemmas.Bool.{cases_Bool, cases_lt}
use Rattle.std.proofs.lemmas.Cmp.{nat_list_cmp_total}
use Rattle.std.proofs.lemmas.List.{length-map, get_or-map}
use Rattle.std.proofs.lemmas.List.Folds.{list_any_none}
use Rattle.std.proofs.lemmas.Map.Keys.{Less-from_sorted}
use Rattle.std.proofs.lemmas.Option.{slice_get-get_or}
use Rattle.wagons_and_orders.specs.declared.free_wagon.FreeWagon.{FreeWagon}
use Rattle.wagons_and_orders.specs.declared.wagon_row.WagonRow.{WagonRow}
use Rattle.wagons_and_orders.specs.Free.{free_of}
use Rattle.wagons_and_orders.specs.Wanted.{WantedOrder}
use Rattle.fleet_rows.proofs.RosterLemmas.{other_from_greater, other_from_less, rises}
use Rattle.fleet_rows.proofs.Named.{is_same, no_place, same_name}
use Rattle.cost_table.specs.DistinctNames.{first_repeated}
use Rattle.cost_table.specs.Names.{both, is_name, pair_of}
use Rattle.cost_table.specs.Problem.{ProblemValue, names_of_problem, order_names, wagon_names}
use Rattle.cost_table.proofs.NameLemmas.{held_at}
use Rattle.cost_table.proofs.ProblemLemmas.{position-map}
use Rattle.fleet_rows.specs.Kept.{IsWagonRows, by_number, compare_numbers}
use Rattle.operating_db.specs.Office.{Office}
use Rattle.operating_db.specs.Problem.{free_wagons, problem_of}
use Rattle.operating_db.proofs.Problems.{free_keeps}
use Rattle.commit_book.specs.inner.Ascending.{Ascend, by_name}

-- ---- the free wagons of ascending rows ascend

above_step : (number : List ℕ) (row : WagonRow) (o : Option FreeWagon) (rest : List FreeWagon) → ((wagon : FreeWagon) → o ≡ Some wagon → wagon.number ≡ row.number) → compare_numbers number row.number ≡ Less
    → AllByRecursion (λ (w : FreeWagon). compare_numbers number w.number ≡ Less) rest → AllByRecursion (λ (w : FreeWagon). compare_numbers number w.number ≡ Less) (cons_option o rest)
above_step number row None rest is less later = later
above_step number row (Some wagon) rest is less later = (ap (compare_numbers number) (is wagon refl) ∙ less, later)

all_above : (number : List ℕ) (rows : List WagonRow) → AllByRecursion (λ (row : WagonRow). compare_numbers number row.number ≡ Less) rows → AllByRecursion (λ (w : FreeWagon). compare_numbers number w.number ≡ Less) (free_wagons rows)
all_above number [] all = tt
all_above number (row ∷ rows) all = above_step number row (free_of row) (free_wagons rows) (free_keeps row) all.0 (all_above number rows all.1)

ascend_step : (row : WagonRow) (o : Option FreeWagon) (rest : List FreeWagon) → ((wagon : FreeWagon) → o ≡ Some wagon → wagon.number ≡ row.number)
    → AllByRecursion (λ (w : FreeWagon). compare_numbers row.number w.number ≡ Less) rest → Ascend rest → Ascend (cons_option o rest)
unfolding IsStrictlySortedBy
ascend_step row None rest is above later = later
ascend_step row (Some wagon) rest is above later =
    (subst (λ (number : List ℕ). AllByRecursion (λ (w : FreeWagon). compare_numbers number w.number ≡ Less) rest) (sym (is wagon refl)) above, later)

pub free_ascend : (rows : List WagonRow) → IsStrictlySortedBy by_number rows → Ascend (free_wagons rows)
unfolding IsStrictlySortedBy
free_ascend [] h = tt
free_ascend (row ∷ rows) h = ascend_step row (free_of row) (free_wagons rows) (free_keeps row) (all_above row.number rows h.0) (free_ascend rows h.1)

-- ---- a search among ascending wagons

comparisons_rise : (wagons : List FreeWagon) (number : List ℕ) → Ascend wagons → IsNonDecreasingBy (λ wagon. ordering_index (compare_numbers wagon.number number)) wagons
comparisons_rise wagons number ascend i j d le within = elim (cases_lt i j) [
  | inl lt ↦ rises nat_list_cmp_total (get_or wagons i d).number (get_or wagons j d).number number _ (Less-from_sorted by_name wagons i j d ascend lt within) refl
  | inr ge ↦ let same : i ≡ j = omega arith in rw same (omega arith)
]

none_found : {X : Type 0} (p : X → Bool) (xs : List X) → list_any p xs ≡ false → find p xs ≡ None
none_found p [] h = refl
none_found p (x ∷ xs) h = elim (cases_Bool (p x)) [
  | inl passes ↦ cc (rw passes at h)
  | inr fails ↦ rw fails (none_found p xs (rw fails at h))
]

any-names : (number : List ℕ) (wagons : List FreeWagon) → list_any (λ (w : FreeWagon). is_same number w.number) wagons ≡ false → list_any (is_name number) (wagon_names wagons) ≡ false
any-names number [] h = refl
any-names number (wagon ∷ wagons) h =
    let turned : is_name number wagon.number ≡ is_same number wagon.number = same_name.symm wagon.number number in
    elim (cases_Bool (is_same number wagon.number)) [
      | inl same ↦ cc (rw same at h)
      | inr other ↦ rw (turned, other) (any-names number wagons (rw other at h))
    ]

pub searched : (wagons : List FreeWagon) (number : List ℕ) (r : Result ℕ ℕ) → Ascend wagons → first_repeated (wagon_names wagons) ≡ None → IsSearchInRange r (length wagons)
    → IsBinarySearchResult (λ wagon. compare_numbers wagon.number number) wagons r → result_ok r ≡ position (is_name number) (wagon_names wagons)
searched [] number (Ok at) ascend once within equal = absurd (omega arith)
searched (wagon ∷ wagons) number (Ok at) ascend once within equal =
    let all : List FreeWagon = wagon ∷ wagons in
    let named : (get_or all at wagon).number ≡ number = (bytes_decides (get_or all at wagon).number number).0 (texts_ties (get_or all at wagon).number number ∙ ap is_eq (equal wagon)) in
    let inside : at < length (wagon_names all) = omega (arith, within, length-map all (λ (w : FreeWagon). w.number)) in
    let there : slice_get (wagon_names all) at ≡ Some number =
    slice_get-get_or (wagon_names all) at number inside ∙ ap Some (get_or-map (λ (w : FreeWagon). w.number) all at wagon number within ∙ named) in
    sym (held_at (wagon_names all) number at once there)
searched wagons number (Err at) ascend once within parted =
    let (before, after) = parted (comparisons_rise wagons number ascend) in
    let none = list_any_none (λ (w : FreeWagon). is_same number w.number) wagons (λ k d below. elim (cases_lt k at) [
      | inl lt ↦ other_from_less (get_or wagons k d).number number (before k d (omega arith) lt)
      | inr ge ↦ other_from_greater (get_or wagons k d).number number (after k d ge below)
    ]) in
    sym (no_place (is_name number) (wagon_names wagons) (none_found (is_name number) (wagon_names wagons) (any-names number wagons none)))

-- ---- the wagon of a number

pub index_in : (wagons : List FreeWagon) (number : List ℕ) (o : Option ℕ) → o ≡ position (is_name number) (wagon_names wagons) → o ≡ position (λ (w : FreeWagon). is_name number w.number) wagons
index_in wagons number o h = h ∙ position-map (is_name number) (λ (w : FreeWagon). w.number) wagons

-- ---- a pair, by where its wagon and its order stand

pub pair_placed : (problem : ProblemValue) (wagons : List FreeWagon) (orders : List WantedOrder) (number id : List ℕ) (i : ℕ) (j : Option ℕ) → wagons ≡ problem.wagons → orders ≡ problem.orders
    → Some i ≡ position (is_name number) (wagon_names wagons) → j ≡ position (λ (o : WantedOrder). is_name id o.order.id) orders → both (Some i) j ≡ pair_of (names_of_problem problem) number id
pair_placed problem wagons orders number id i j are_wagons are_orders wagon order =
    let named : j ≡ position (is_name id) (order_names orders) = order ∙ sym (position-map (is_name id) (λ (o : WantedOrder). o.order.id) orders) in
    ap (λ (o : Option ℕ). both o j) (wagon ∙ ap (λ (ws : List FreeWagon). position (is_name number) (wagon_names ws)) are_wagons)
    ∙ ap (both (position (is_name number) (wagon_names problem.wagons))) (named ∙ ap (λ (os : List WantedOrder). position (is_name id) (order_names os)) are_orders)

-- ---- the wagons of an office's problem ascend

pub problem_ascends : (problem : ProblemValue) (office : Office) (at : ℕ) → problem ≡ problem_of office at → IsWagonRows office.wagons → Ascend problem.wagons
problem_ascends problem office at is rows = subst (λ (p : ProblemValue). Ascend p.wagons) (sym is) (free_ascend office.wagons rows.ascending)
