-- Fields and lines of a pair from their parts.
use Rattle.std.proofs.Common.{◌≡◌, ◌+◌, ◌*◌, ◌<◌, ◌≤◌, ℕ, suc, Bool, Option, List, [], ◌∷◌, ◌++◌, length, get_or, map, take, length-take-le, refl, sym, ap, ◌∙◌, subst, append_assoc, arith}
use Rattle.std.specs.Prelude.{◌==◌, if◌then◌else◌, Err, codes, false, max, slice_get, Some}
use Rattle.std.specs.List.{join_with_byte}
use Rattle.std.proofs.lemmas.Bool.Decides.{nat_tests}
use Rattle.std.proofs.lemmas.List.{length-map}
use Rattle.reply_texts.proofs.Lines.{map-taken_more}
use Rattle.rail_codes.specs.declared.code_fault.CodeFault.{CodeFault}
use Rattle.rail_codes.specs.Moment.{first_second, last_second, moment_of_seconds, IsMoment, IsMomentText}
use Rattle.move_messages.specs.Order.{Order}
use Rattle.wagons_and_orders.specs.declared.free_wagon.FreeWagon.{FreeWagon}
use Rattle.wagons_and_orders.specs.Wanted.{WantedOrder}
use Rattle.line_network.specs.Network.{NetworkValue}
use Rattle.place_names.specs.declared.named_place.NamedPlace.{NamedPlace}
use Rattle.line_network.specs.Distance.{IsDistance}
use Rattle.problem_table.specs.Allowed.{Reaches}
use Rattle.cost_table.specs.Plan.{pair_cost}
use Rattle.cost_table.specs.Problem.{ProblemValue}
use Rattle.plan_bounds.specs.PricedPlan.{PricedPlan}
use Rattle.reply_texts.specs.Lines.{Adds}
use Rattle.plan_reasons.specs.declared.failed.Failed.{Failed}
use Rattle.plan_reasons.specs.declared.fit.Fit.{Fit}
use Rattle.plan_reasons.specs.declared.numbers.Numbers.{Numbers}
use Rattle.plan_reasons.specs.declared.style.Style.{Style}
use Rattle.plan_reasons.specs.Fields.{ending, field, nothing, quoted}
use Rattle.plan_reasons.specs.Numbers.{IsMoreOf}
use Rattle.plan_reasons.specs.declared.reasons.Test.{Test}
use Rattle.plan_reasons.specs.declared.reasons.Test.TheVariants.{Cheaper, InTime, Load}
use Rattle.plan_reasons.specs.PrintedNumbers.{IsPrinted}
use Rattle.plan_reasons.specs.Reasons.{FailsFirst, IsCheaper, IsInTime}
use Rattle.plan_reasons.specs.Pairs.{IsArrivalValue, IsCostlyLine, IsFailed, IsFailedLine, IsFitsLine, IsLateLine, IsTestLine, cost_fields, costly_line, fits_line, late_line, load_line, pair_fields}
use Rattle.plan_reasons.specs.inner.Added.{IsMomentField}
use Rattle.plan_reasons.specs.inner.AddedPairs.{IsArrivalField, comma}
use Rattle.plan_reasons.proofs.Fields.{three_parts}
use Rattle.plan_reasons.proofs.Passed.{same_km}

some_same : {A : Type 0} (x y : A) → Some x ≡ Some y → x ≡ y
some_same x y e = cc

-- ---- a list

some_long : (n : ℕ) → (suc n == 0) ≡ false
some_long n = grind (arith, nat_tests)

later_comma : (n : ℕ) → comma (suc n) ≡ 44 ∷ []
later_comma n = ap (λ (b : Bool). if b then [] else 44 ∷ []) (some_long n)

-- one item more
pub joined_more : (xs : List (List ℕ)) (x : List ℕ) → join_with_byte 44 (xs ++ x ∷ []) ≡ (join_with_byte 44 xs ++ comma (length xs)) ++ x
joined_more [] x = refl
joined_more (y ∷ []) x = sym (ap (λ (c : List ℕ). (y ++ c) ++ x) (later_comma 0) ∙ append_assoc y (44 ∷ []) x)
joined_more (y ∷ z ∷ xs) x =
    ap (λ (t : List ℕ). y ++ 44 ∷ t) (joined_more (z ∷ xs) x ∙ ap (λ (c : List ℕ). (join_with_byte 44 (z ∷ xs) ++ c) ++ x) (later_comma (length xs)))
    ∙ sym (ap (λ (c : List ℕ). ((y ++ 44 ∷ join_with_byte 44 (z ∷ xs)) ++ c) ++ x) (later_comma (suc (length xs))) ∙ parts y (join_with_byte 44 (z ∷ xs)) x)
  where
    parts : (y t x : List ℕ) → ((y ++ 44 ∷ t) ++ 44 ∷ []) ++ x ≡ y ++ 44 ∷ ((t ++ 44 ∷ []) ++ x)
    parts y t x = simp append_assoc refl

pub joined_next : (style : Style) (names : List (List ℕ)) (k : ℕ) (name initial old new : List ℕ) → k < length names → name ≡ get_or names k name → old ≡ initial ++ join_with_byte 44 (map (quoted style) (take k names))
    → new ≡ old ++ (comma k ++ quoted style name) → new ≡ initial ++ join_with_byte 44 (map (quoted style) (take (k + 1) names))
joined_next style names k name initial old new lt at so_far is =
    let done = map (quoted style) (take k names) in
    let count : length done ≡ k = length-map (take k names) (quoted style) ∙ length-take-le k names (omega (arith, lt)) in
    let more : map (quoted style) (take (k + 1) names) ≡ done ++ quoted style name ∷ [] = map-taken_more (quoted style) names k name name lt at in
    let joined : join_with_byte 44 (done ++ quoted style name ∷ []) ≡ (join_with_byte 44 done ++ comma k) ++ quoted style name =
    joined_more done (quoted style name) ∙ ap (λ (n : ℕ). (join_with_byte 44 done ++ comma n) ++ quoted style name) count in
    is ∙ ap (λ (t : List ℕ). t ++ (comma k ++ quoted style name)) so_far ∙ append_assoc initial (join_with_byte 44 done) (comma k ++ quoted style name)
    ∙ ap (λ (t : List ℕ). initial ++ t) (sym (append_assoc (join_with_byte 44 done) (comma k) (quoted style name)) ∙ sym joined ∙ ap (join_with_byte 44) (sym more))

-- ---- an arrival

past_last : (seconds : ℕ) (fault : CodeFault) → moment_of_seconds seconds ≡ Err fault → first_second ≤ seconds → last_second < seconds
past_last seconds fault refused from = grind (arith, nat_tests, refused, from)

pub arrival_shown : (style : Style) (seconds moment : ℕ) (old new : List ℕ) → moment ≡ seconds → IsMoment seconds → Adds (IsMomentField style (codes "arrival") moment) old new → Adds (IsArrivalField style seconds) old new
arrival_shown style seconds moment old new same valid adds =
    let is = adds.is in
    record {
      added = adds.added;
      is = record {
        value = quoted style is.text;
        arrives = record {
          moment = λ within. (is.text, subst (λ (m : ℕ). IsMomentText m is.text) same is.moment, refl);
          past = λ past. absurd (omega (arith, past, valid.1));
        };
        whole = is.whole;
      };
      whole = adds.whole;
    }

pub arrival_past : (style : Style) (seconds : ℕ) (fault : CodeFault) (value old new : List ℕ) → moment_of_seconds seconds ≡ Err fault → first_second ≤ seconds → value ≡ nothing style → new ≡ old ++ field style (codes "arrival") value → Adds (IsArrivalField style seconds) old new
arrival_past style seconds fault value old new refused from none is =
    let late = past_last seconds fault refused from in
    record {
      added = field style (codes "arrival") value;
      is = record { value = value; arrives = record { moment = λ within. absurd (omega (arith, within, late)); past = λ past. none }; whole = refl };
      whole = is;
    }

-- ---- lines

pub four_parts : (old x y z w a b c d : List ℕ) → a ≡ old ++ x → b ≡ a ++ y → c ≡ b ++ z → d ≡ c ++ w → d ≡ old ++ (x ++ y ++ z ++ w)
four_parts old x y z w a b c d first second third fourth =
    fourth ∙ ap (λ (t : List ℕ). t ++ w) (three_parts old x y z a b c first second third) ∙ append_assoc old (x ++ y ++ z) w

pub late_added : (style : Style) (net : NetworkValue) (at : ℕ) (wagon : FreeWagon) (order : Order) (way : ℕ × ℕ) (seconds by : ℕ) (old a b c d : List ℕ) → IsDistance net wagon.place order.place way → seconds ≡ max wagon.ready at + 60 * way.1
    → a ≡ old ++ pair_fields style (codes "late") wagon order → Adds (IsArrivalField style seconds) a b → by ≡ order.latest → Adds (IsMomentField style (codes "latest") by) b c → d ≡ c ++ ending style → Adds (IsLateLine style net at wagon order) old d
late_added style net at wagon order way seconds by old a b c d distance starts first second same third fourth =
    let came = second.is in
    let latest = third.is in
    record {
      added = late_line style wagon order came.value (quoted style latest.text);
      is = record {
        way = way;
        distance = distance;
        arrival = came.value;
        arrives = subst (λ (m : ℕ). IsArrivalValue style m came.value) starts came.arrives;
        latest = latest.text;
        printed = subst (λ (m : ℕ). IsMomentText m latest.text) same latest.moment;
        text = refl;
      };
      whole = four_parts old (pair_fields style (codes "late") wagon order) (field style (codes "arrival") came.value) (field style (codes "latest") (quoted style latest.text)) (ending style) a b c d
          first (second.whole ∙ ap (λ (t : List ℕ). a ++ t) came.whole) (third.whole ∙ ap (λ (t : List ℕ). b ++ t) latest.whole) fourth;
    }

-- the lines of two tests, by the test
pub late_line_of : (style : Style) (names : Option (List NamedPlace)) (net : NetworkValue) (at : ℕ) (wagon : FreeWagon) (order : Order) (test : Test) (old new : List ℕ) → InTime ≡ test → Adds (IsLateLine style net at wagon order) old new → Adds (IsTestLine style names net at wagon order test) old new
late_line_of style names net at wagon order test old new is adds = record { added = adds.added; is = subst (λ (t : Test). IsTestLine style names net at wagon order t adds.added) is adds.is; whole = adds.whole }

pub costly_line_of : (style : Style) (names : Option (List NamedPlace)) (net : NetworkValue) (at : ℕ) (wagon : FreeWagon) (order : Order) (test : Test) (old new : List ℕ) → Cheaper ≡ test → Adds (IsCostlyLine style net at wagon order) old new → Adds (IsTestLine style names net at wagon order test) old new
costly_line_of style names net at wagon order test old new is adds = record { added = adds.added; is = subst (λ (t : Test). IsTestLine style names net at wagon order t adds.added) is adds.is; whole = adds.whole }

pub load_line_of : (style : Style) (names : Option (List NamedPlace)) (net : NetworkValue) (at : ℕ) (wagon : FreeWagon) (order : Order) (test : Test) (old new : List ℕ) → Load ≡ test → IsPrinted wagon.load_limit → IsPrinted order.load → new ≡ old ++ load_line style wagon order → Adds (IsTestLine style names net at wagon order test) old new
load_line_of style names net at wagon order test old new is limit load whole =
    record { added = load_line style wagon order; is = subst (λ (t : Test). IsTestLine style names net at wagon order t (load_line style wagon order)) is (record { limit_printed = limit; load_printed = load; text = refl }); whole = whole }

pub costly_added : (style : Style) (net : NetworkValue) (at : ℕ) (wagon : FreeWagon) (order : Order) (way : ℕ × ℕ) (km : ℕ) (old new : List ℕ) → IsDistance net wagon.place order.place way → IsInTime net at wagon order → km ≡ way.0
    → IsPrinted km → IsPrinted order.penalty → new ≡ old ++ costly_line style wagon order km → Adds (IsCostlyLine style net at wagon order) old new
costly_added style net at wagon order way km old new distance in_time same few penalty is =
    let reaches = in_time.1 in
    let way_km = same_km net wagon.place order.place (in_time.0, reaches.minutes) way reaches.distance distance in
    record {
      added = costly_line style wagon order km;
      is = record { km = km; reaches = subst (λ (n : ℕ). Reaches net at wagon order n) (way_km ∙ sym same) reaches; km_printed = few; penalty_printed = penalty; text = refl };
      whole = is;
    }

module _ (style : Style) (numbers : Numbers) (net : NetworkValue) (problem : ProblemValue) (p : PricedPlan) (fit : Fit) (wagon : FreeWagon) (wanted : WantedOrder) where
  pub fits_added : (order : Order) (old a b c : List ℕ) → slice_get problem.wagons fit.pair.0 ≡ Some wagon → slice_get problem.orders fit.pair.1 ≡ Some wanted → order ≡ wanted.order → IsCheaper net problem.at wagon wanted.order
      → IsMoreOf numbers p fit.pair fit.more
      → IsPrinted (pair_cost p.table fit.pair) → IsPrinted fit.more → a ≡ old ++ pair_fields style (codes "fits") wagon order → b ≡ a ++ cost_fields style numbers p fit → c ≡ b ++ ending style → Adds (IsFitsLine style numbers net problem p fit) old c
  fits_added order old a b c free stands same passes more km few first second third = record {
    added = fits_line style numbers wagon wanted.order p fit;
    is = record { wagon = wagon; free = free; wanted = wanted; order = stands; passes = passes; is_more = more; km_printed = km; more_printed = few; text = refl };
    whole = three_parts old (pair_fields style (codes "fits") wagon wanted.order) (cost_fields style numbers p fit) (ending style) a b c (first ∙ ap (λ (o : Order). old ++ pair_fields style (codes "fits") wagon o) same) second third;
  }

module _ (net : NetworkValue) (problem : ProblemValue) (failed : Failed) (wagon : FreeWagon) (wanted : WantedOrder) (free : slice_get problem.wagons failed.pair.0 ≡ Some wagon) (stands : slice_get problem.orders failed.pair.1 ≡ Some wanted) where
  -- by the network, the moment and the order that were read
  pub failed_found : (tables : NetworkValue) (at : ℕ) (order : Order) → tables ≡ net → at ≡ problem.at → order ≡ wanted.order → FailsFirst tables at wagon order failed.test → IsFailed net problem failed
  failed_found tables at order led now same first =
      let there = subst (λ (n : NetworkValue). FailsFirst n at wagon order failed.test) led first in
      let here = subst (λ (a : ℕ). FailsFirst net a wagon order failed.test) now there in
      record { wagon = wagon; free = free; wanted = wanted; order = stands; first = subst (λ (o : Order). FailsFirst net problem.at wagon o failed.test) same here }

  pub failed_first : (tables : NetworkValue) (at : ℕ) (order : Order) → tables ≡ net → at ≡ problem.at → order ≡ wanted.order → IsFailed net problem failed → FailsFirst tables at wagon order failed.test
  failed_first tables at order led now same is =
      let own_wagon : is.wagon ≡ wagon = some_same is.wagon wagon (sym is.free ∙ free) in
      let own_order : is.wanted ≡ wanted = some_same is.wanted wanted (sym is.order ∙ stands) in
      let by_wagon = subst (λ (w : FreeWagon). FailsFirst net problem.at w is.wanted.order failed.test) own_wagon is.first in
      let by_order = subst (λ (o : WantedOrder). FailsFirst net problem.at wagon o.order failed.test) own_order by_wagon in
      let read = subst (λ (o : Order). FailsFirst net problem.at wagon o failed.test) (sym same) by_order in
      let here = subst (λ (a : ℕ). FailsFirst net a wagon order failed.test) (sym now) read in
      subst (λ (n : NetworkValue). FailsFirst n at wagon order failed.test) (sym led) here

  pub failed_added : (style : Style) (names : Option (List NamedPlace)) (tables : NetworkValue) (at : ℕ) (order : Order) (old new : List ℕ) → tables ≡ net → at ≡ problem.at → order ≡ wanted.order → FailsFirst tables at wagon order failed.test
      → Adds (IsTestLine style names tables at wagon order failed.test) old new → Adds (IsFailedLine style names net problem failed) old new
  failed_added style names tables at order old new led now same first line =
      let there = subst (λ (n : NetworkValue). FailsFirst n at wagon order failed.test) led first in
      let here = subst (λ (a : ℕ). FailsFirst net a wagon order failed.test) now there in
      let over = subst (λ (n : NetworkValue). IsTestLine style names n at wagon order failed.test line.added) led line.is in
      let text = subst (λ (a : ℕ). IsTestLine style names net a wagon order failed.test line.added) now over in
      record {
        added = line.added;
        is = record {
          is_failed = record { wagon = wagon; free = free; wanted = wanted; order = stands; first = subst (λ (o : Order). FailsFirst net problem.at wagon o failed.test) same here };
          text = subst (λ (o : Order). IsTestLine style names net problem.at wagon o failed.test line.added) same text;
        };
        whole = line.whole;
      }
