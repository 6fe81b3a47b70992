-- The positions that a fault of the checker names are positions of names.
use Rattle.std.proofs.Common.{◌≡◌, ℕ, zero, suc, ◌+◌, ◌<◌, Bool, true, false, cond, List, [], ◌∷◌, ◌++◌, length, refl, subst, arith}
use Rattle.std.specs.Prelude.{◌==◌, ◌&&◌, nat_lt, Option, Some, None, is_some, Ok, slice_index, sum, position}
use Rattle.std.specs.Option.{option_or}
use Rattle.cost_table.specs.Table.{Table, cost_at, wagon_count, order_count, penalty_at}
use Rattle.cost_table.specs.Plan.{cost_of}
use Rattle.cost_table.specs.Names.{NameLists, is_name, both}
use Rattle.std.proofs.lemmas.List.Quantifiers.{position-Some}
use Rattle.price_checker.specs.Faults.{first_fault, wrong_lengths, not_allowed, used_twice, is_spent, price_gap, gap_at, over_penalty, first_below, paid_by_orders}
use Rattle.faults.specs.declared.faults.CheckFault.{CheckFault}
use Rattle.faults.specs.declared.faults.CheckFault.TheVariants as check
use Rattle.price_checker.proofs.UsedPairs.{used_from, used_from-all}
use Rattle.price_checker.specs.NamedPairs.{NamedPair, positions_of}
use Rattle.price_checker.specs.NamesAt.{IsNamed}
use Rattle.price_checker.specs.inner.Naming.{AreNamed}
use Rattle.price_checker.proofs.Checked.{first_position}

-- each pair's wagon and order are named
abbrev pub AllNamed : NameLists → List (ℕ × ℕ) → Type 0
AllNamed names [] = Unit {0}
AllNamed names (p ∷ pairs) = IsNamed names p × AllNamed names pairs

-- every fault that a try finds has names
abbrev FaultsNamed : NameLists → Option CheckFault → Type 0
FaultsNamed names found = (fault : CheckFault) → found ≡ Some fault → AreNamed names fault

either : (names : NameLists) (a b : Option CheckFault) → FaultsNamed names a → FaultsNamed names b → FaultsNamed names (option_or a b)
either names None b f g other is = g other is
either names (Some x) b f g other is = f other is

one_fault : (names : NameLists) (b : Bool) (fault : CheckFault) → AreNamed names fault → FaultsNamed names (cond b (Some fault) None)
one_fault names true fault h other is = let same : fault ≡ other = cc in subst (AreNamed names) same h
one_fault names false fault h other is = absurd cc

none_or_fault : (names : NameLists) (b : Bool) (fault : CheckFault) → AreNamed names fault → FaultsNamed names (cond b None (Some fault))
none_or_fault names false fault h other is = let same : fault ≡ other = cc in subst (AreNamed names) same h
none_or_fault names true fault h other is = absurd cc

fault_or : (names : NameLists) (b : Bool) (fault : CheckFault) (rest : Option CheckFault) → AreNamed names fault → FaultsNamed names rest → FaultsNamed names (cond b (Some fault) rest)
fault_or names true fault rest h g other is = let same : fault ≡ other = cc in subst (AreNamed names) same h
fault_or names false fault rest h g other is = g other is

rest_or : (names : NameLists) (b : Bool) (fault : CheckFault) (rest : Option CheckFault) → AreNamed names fault → FaultsNamed names rest → FaultsNamed names (cond b rest (Some fault))
rest_or names false fault rest h g other is = let same : fault ≡ other = cc in subst (AreNamed names) same h
rest_or names true fault rest h g other is = g other is

not_allowed_named : (names : NameLists) (t : Table) (pairs : List (ℕ × ℕ)) → AllNamed names pairs → FaultsNamed names (not_allowed t pairs)
not_allowed_named names t [] all other is = absurd cc
not_allowed_named names t (p ∷ pairs) all other is = rest_or names (is_some (cost_at t p.0 p.1)) (check.NotAllowed p.0 p.1) (not_allowed t pairs) all.0 (not_allowed_named names t pairs all.1) other is

used_twice_named : (names : NameLists) (t : Table) (before pairs : List (ℕ × ℕ)) → AllNamed names pairs → FaultsNamed names (used_from t before pairs)
used_twice_named names t before [] all other is = absurd cc
used_twice_named names t before (p ∷ pairs) all other is = fault_or names (is_spent t before p) (check.UsedTwice p.0 p.1) (used_from t (before ++ p ∷ []) pairs) all.0 (used_twice_named names t (before ++ p ∷ []) pairs all.1) other is

first_below_named : (names : NameLists) (n : ℕ) (f : ℕ → Option CheckFault) → ((k : ℕ) → k < n → FaultsNamed names (f k)) → FaultsNamed names (first_below n f)
first_below_named names zero f h other is = absurd cc
first_below_named names (suc n) f h other is = either names (first_below n f) (f n) (first_below_named names n f (λ k l. h k (omega arith))) (h n (omega arith)) other is

gap_named : (names : NameLists) (i j : ℕ) (cost : Option ℕ) (u v : ℕ) → i < length names.wagons → j < length names.orders → FaultsNamed names (gap_at i j cost u v)
gap_named names i j None u v wagon order other is = absurd cc
gap_named names i j (Some c) u v wagon order other is = one_fault names (nat_lt (c + u) v) (check.PriceGap i j) (wagon, order) other is

-- the first fault of pairs that are named, in a table of as many wagons and orders
pub fault_named : (names : NameLists) (t : Table) (pairs : List (ℕ × ℕ)) (u v : List ℕ) → wagon_count t ≡ length names.wagons → order_count t ≡ length names.orders → AllNamed names pairs
    → FaultsNamed names (first_fault t pairs u v)
fault_named names t pairs u v wagons orders all =
    either names (wrong_lengths t u v) _ (none_or_fault names (length u == wagon_count t && (length v == order_count t)) check.WrongLengths tt)
    (either names (not_allowed t pairs) _ (not_allowed_named names t pairs all)
    (either names (used_twice t pairs) _ (subst (FaultsNamed names) (used_from-all t pairs) (used_twice_named names t [] pairs all))
    (either names (price_gap t u v) _
    (first_below_named names (wagon_count t) _ (λ i l. first_below_named names (order_count t) _ (λ j m. gap_named names i j (cost_at t i j) (slice_index u i) (slice_index v j) (omega arith) (omega arith))))
    (either names (over_penalty t v) _
    (first_below_named names (order_count t) _ (λ j m. one_fault names (nat_lt (penalty_at t j) (slice_index v j)) (check.OverPenalty j) (omega arith)))
    (none_or_fault names (cost_of t pairs + sum u == paid_by_orders t v) (check.SumsDiffer (cost_of t pairs + sum u) (paid_by_orders t v)) tt)))))

-- positions that were found are those of names
place_named : (names : NameLists) (pair : NamedPair) (p : ℕ × ℕ) → (i j : Option ℕ) → position (is_name pair.0) names.wagons ≡ i → position (is_name pair.1) names.orders ≡ j → both i j ≡ Some p → IsNamed names p
place_named names pair p None j wagon order h = absurd cc
place_named names pair p (Some i) None wagon order h = absurd cc
place_named names pair p (Some i) (Some j) wagon order h =
    let w = position-Some (is_name pair.0) names.wagons i [] wagon in
    let o = position-Some (is_name pair.1) names.orders j [] order in
    let same : (i, j) ≡ p = cc in
    subst (IsNamed names) same (w.0, o.0)

pub positions_named : (names : NameLists) (pairs : List NamedPair) (positions : List (ℕ × ℕ)) → positions_of names pairs ≡ Ok positions → AllNamed names positions
unfolding positions_of
positions_named names [] positions h = let same : [] ≡ positions = cc in subst (AllNamed names) same tt
positions_named names (pair ∷ pairs) positions h =
    let parts = first_position names pair pairs positions h in
    subst (AllNamed names) parts.same (place_named names pair parts.position (position (is_name pair.0) names.wagons) (position (is_name pair.1) names.orders) refl refl parts.found, positions_named names pairs parts.rest parts.others)
