-- The fields of lines as JSON.
use Rattle.std.proofs.Common.{◌≡◌, ℕ, zero, suc, ◌<◌, ◌^◌, Bool, true, false, ◌==◌, if◌then◌else◌, Option, Some, None, List, decimal, inl, inr, sym, subst, arith}
use Rattle.std.specs.Prelude.{IfSome, codes, option_map}
use Rattle.std.proofs.lemmas.Bool.{cases_lt}
use Rattle.json.specs.Print.{escape, quoted as json_quoted}
use Rattle.cost_table.specs.Table.{cost_at, wagon_count}
use Rattle.place_names.specs.Names.{name_of}
use Rattle.place_names.specs.declared.named_place.NamedPlace.{NamedPlace}
use Rattle.plan_bounds.specs.PricedPlan.{PricedPlan}
use Rattle.exact_costs.specs.declared.further.Further.{Further}
use Rattle.exact_costs.specs.declared.further.Further.TheVariants.{Exactly, Over, Never}
use Rattle.plan_bounds.specs.LeastSlack.{has_pair, least_new_slack, lesser, new_slack}
use Rattle.plan_bounds.specs.Slack.{in_64_bits, missed, slack}
use Rattle.rail_codes.specs.Moment.{last_second}
use Rattle.text_tables.proofs.JsonFields.{AreFields, IsValue, both_fields, false_value, list_value, no_fields, null_value, number_value, one_field, text_value, true_value}
use Rattle.plan_reasons.specs.declared.style.Style.TheVariants.{Json}
use Rattle.plan_reasons.specs.Fields.{field, nothing, quoted}
use Rattle.plan_reasons.specs.Pairs as pairs
use Rattle.plan_reasons.specs.Pairs.{IsArrivalValue, truth}
use Rattle.plan_reasons.specs.PlaceFields.{name_field, place_field}
use Rattle.plan_reasons.specs.PrintedNumbers.{IsFurtherPrinted, IsPrinted}
use Rattle.plan_reasons.specs.WhyText.{bound_value, exact_value, further_value}
use Rattle.plan_reasons.specs.WhyText as why

-- ---- values

pub printed_value : (n : ℕ) → IsPrinted n → IsValue (decimal n)
printed_value n small = number_value n (omega arith)

pub optional_value : (n : Option ℕ) → IfSome n IsPrinted → IsValue (why.number_value Json n)
optional_value None h = null_value
optional_value (Some n) h = printed_value n h

pub truth_value : (is_so : Bool) → IsValue (truth is_so)
truth_value true = true_value
truth_value false = false_value

pub names_value : (names : List (List ℕ)) → IsValue (pairs.list_value Json names)
names_value names = list_value names

pub arrival_value : (seconds : ℕ) (value : List ℕ) → IsArrivalValue Json seconds value → IsValue value
arrival_value seconds value arrives = elim (cases_lt last_second seconds) [
  | inl past ↦ subst IsValue (sym (arrives.past past)) null_value
  | inr within ↦ let shown = arrives.moment within in subst IsValue (sym shown.2) (text_value shown.0)
]

-- ---- a bound, which has 64 bits at most

small_slack : (cost : Option ℕ) (p : PricedPlan) (pair : ℕ × ℕ) → IfSome (option_map (λ (c : ℕ). in_64_bits (slack p pair)) cost) (λ km. km < 2 ^ 64)
small_slack None p pair = tt
small_slack (Some cost) p pair = omega arith

unless_there : (there : Bool) (km : Option ℕ) → IfSome km (λ n. n < 2 ^ 64) → IfSome (if there then None else km) (λ n. n < 2 ^ 64)
unless_there true km h = tt
unless_there false km h = h

small_lesser : (one other : Option ℕ) → IfSome one (λ n. n < 2 ^ 64) → IfSome other (λ n. n < 2 ^ 64) → IfSome (lesser one other) (λ n. n < 2 ^ 64)
small_lesser None other h k = k
small_lesser (Some one) None h k = h
small_lesser (Some one) (Some other) h k = omega arith

small_least : (p : PricedPlan) (j n : ℕ) → IfSome (least_new_slack p j n) (λ km. km < 2 ^ 64)
small_least p j zero = tt
small_least p j (suc n) =
    small_lesser (least_new_slack p j n) (new_slack p n j) (small_least p j n) (unless_there (has_pair p.pairs n j) _ (small_slack (cost_at p.table n j) p (n, j)))

bound_shown : (km : Option ℕ) → IfSome km (λ n. n < 2 ^ 64) → IsValue (bound_value Json km)
bound_shown None h = text_value (codes "none")
bound_shown (Some km) h = number_value km (omega arith)

pub exact_shown : (further : Option Further) → IfSome further IsFurtherPrinted → IsValue (exact_value Json further)
exact_shown None h = null_value
exact_shown (Some (Exactly km)) h = printed_value km h
exact_shown (Some (Over km)) h = text_value (codes "over")
exact_shown (Some Never) h = text_value (codes "none")

pub further_shown : (p : PricedPlan) (j : ℕ) → IsValue (further_value Json p j)
further_shown p j = go (missed p p.pairs j == 0)
  where
    go : (none : Bool) → IsValue (if none then nothing Json else bound_value Json (least_new_slack p j (wagon_count p.table)))
    go true = null_value
    go false = bound_shown (least_new_slack p j (wagon_count p.table)) (small_least p j (wagon_count p.table))

-- ---- fields

pub value_field : (name value : List ℕ) → escape name ≡ name → IsValue value → AreFields (field Json name value)
value_field name value plain is = one_field name value plain is

pub decimal_field : (name : List ℕ) (n : ℕ) → escape name ≡ name → IsPrinted n → AreFields (field Json name (decimal n))
decimal_field name n plain small = value_field name (decimal n) plain (printed_value n small)

pub text_field : (name text : List ℕ) → escape name ≡ name → AreFields (field Json name (quoted Json text))
text_field name text plain = value_field name (quoted Json text) plain (text_value text)

pub place_name_field : (names : Option (List NamedPlace)) (name place : List ℕ) → escape name ≡ name → AreFields (name_field Json names name place)
place_name_field None name place plain = no_fields
place_name_field (Some places) name place plain = value_field name (json_quoted (name_of places place)) plain (text_value (name_of places place))

pub place_fields : (names : Option (List NamedPlace)) (code name place : List ℕ) → escape code ≡ code → escape name ≡ name → AreFields (place_field Json names code name place)
place_fields names code name place plain_code plain_name =
    both_fields (field Json code (quoted Json place)) (name_field Json names name place) (text_field code place plain_code) (place_name_field names name place plain_name)
