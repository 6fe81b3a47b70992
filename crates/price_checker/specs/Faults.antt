-- The faults of pairs and prices, in the order in which they are looked for.
use Rattle.std.specs.Prelude.{◌+◌, ◌*◌, ◌==◌, nat_lt, nat_le, ℕ, zero, suc, ◌&&◌, ◌||◌, if◌then◌else◌, Bool, List, [], ◌∷◌, length, take, Option, Some, None, is_some, slice_get, slice_index, sum}
use Rattle.std.specs.Option.{option_or, option_and_then}
use Rattle.cost_table.specs.Table.{Table, cost_at, lack_at, penalty_at, wagon_count, order_count}
use Rattle.cost_table.specs.Plan.{uses, serves, cost_of, sum_below}
use Rattle.faults.specs.declared.faults.CheckFault.{CheckFault}
use Rattle.faults.specs.declared.faults.CheckFault.TheVariants.{WrongLengths, NotAllowed, UsedTwice, PriceGap, OverPenalty, SumsDiffer}

-- what f finds at the least number below n where it finds something
abbrev pub first_below : {A : Type 0} → ℕ → (ℕ → Option A) → Option A
first_below zero f = None
first_below (suc n) f = option_or (first_below n f) (f n)

-- a price for each wagon, and one for each order
abbrev pub wrong_lengths : Table → List ℕ → List ℕ → Option CheckFault
wrong_lengths t u v = if length u == wagon_count t && (length v == order_count t) then None else Some WrongLengths

-- the first pair that is out of range or has no cost
abbrev pub not_allowed : Table → List (ℕ × ℕ) → Option CheckFault
not_allowed t [] = None
not_allowed t (p ∷ pairs) = if is_some (cost_at t p.0 p.1) then not_allowed t pairs else Some (NotAllowed p.0 p.1)

-- whether a pair's wagon stands among earlier pairs, or its order as often as it lacks
abbrev pub is_spent : Table → List (ℕ × ℕ) → ℕ × ℕ → Bool
is_spent t before p = nat_lt 0 (uses p.0 before) || nat_le (lack_at t p.1) (serves p.1 before)

-- the fault of a pair whose wagon or order is spent by those before it
abbrev pub fault_if_spent : Table → List (ℕ × ℕ) → ℕ × ℕ → Option CheckFault
fault_if_spent t before p = if is_spent t before p then Some (UsedTwice p.0 p.1) else None

-- that of the pair at k
abbrev pub spent_at : Table → List (ℕ × ℕ) → ℕ → Option CheckFault
spent_at t pairs k = option_and_then (fault_if_spent t (take k pairs)) (slice_get pairs k)

-- the first pair that is spent by those before it
abbrev pub used_twice : Table → List (ℕ × ℕ) → Option CheckFault
used_twice t pairs = first_below (length pairs) (spent_at t pairs)

-- an order's price v that passes the cost of a pair and the wagon's price u
abbrev pub gap_at : ℕ → ℕ → Option ℕ → ℕ → ℕ → Option CheckFault
gap_at i j None u v = None
gap_at i j (Some c) u v = if nat_lt (c + u) v then Some (PriceGap i j) else None

-- the least order with a gap at wagon i
abbrev pub gap_of_wagon : Table → ℕ → ℕ → List ℕ → Option CheckFault
gap_of_wagon t i u v = first_below (order_count t) (λ j. gap_at i j (cost_at t i j) u (slice_index v j))

-- the least wagon with a gap, and there the least order
abbrev pub price_gap : Table → List ℕ → List ℕ → Option CheckFault
price_gap t u v = first_below (wagon_count t) (λ i. gap_of_wagon t i (slice_index u i) v)

abbrev pub penalty_gap : Table → List ℕ → ℕ → Option CheckFault
penalty_gap t v j = if nat_lt (penalty_at t j) (slice_index v j) then Some (OverPenalty j) else None

-- the least order whose price passes its penalty
abbrev pub over_penalty : Table → List ℕ → Option CheckFault
over_penalty t v = first_below (order_count t) (penalty_gap t v)

-- what all orders pay: the price of each wagon that they lack
abbrev pub paid_by_orders : Table → List ℕ → ℕ
paid_by_orders t v = sum_below (order_count t) (λ j. lack_at t j * slice_index v j)

abbrev pub sums_differ : Table → List (ℕ × ℕ) → List ℕ → List ℕ → Option CheckFault
sums_differ t pairs u v =
    if cost_of t pairs + sum u == paid_by_orders t v then None
    else Some (SumsDiffer (cost_of t pairs + sum u) (paid_by_orders t v))

-- the first fault of pairs and prices, if they have one
abbrev pub first_fault : Table → List (ℕ × ℕ) → List ℕ → List ℕ → Option CheckFault
first_fault t pairs u v =
    option_or (wrong_lengths t u v)
    (option_or (not_allowed t pairs)
    (option_or (used_twice t pairs)
    (option_or (price_gap t u v)
    (option_or (over_penalty t v)
    (sums_differ t pairs u v)))))
