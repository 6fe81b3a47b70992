-- Wagons as the tests of class, load and way see them, and counts of them.
use Rattle.std.proofs.Common.{◌≡◌, ◌+◌, ◌<◌, ◌≤◌, ℕ, zero, suc, Bool, true, false, cond, Option, Some, None, List, [], ◌∷◌, ◌++◌, length, length-append, map, get_or, refl, sym, ap, ap₂, ◌∙◌, subst, arith}
use Rattle.std.specs.Prelude.{◌↔◌, ◌&&◌, IsTrue, IfSome, is_some, nat_le, option_map, slice_get, slice_index_or}
use Rattle.std.specs.Cmp.Derive.{both_true}
use Rattle.std.specs.List.{AllZip, count_by}
use Rattle.std.proofs.lemmas.Bool.Decides.{nat_tests}
use Rattle.std.proofs.lemmas.List.Sums.{sum_by-cons}
use Rattle.std.proofs.lemmas.Option.{get_or_from_slice_get, slice_get-get_or, slice_get-map, slice_get_within}
use Rattle.std.proofs.lemmas.List.{get_or_append_left, get_or_push}
use Rattle.std.proofs.lemmas.List.Quantifiers.{position-Some}
use Rattle.move_messages.specs.Order.{Order}
use Rattle.wagons_and_orders.specs.declared.free_wagon.FreeWagon.{FreeWagon}
use Rattle.wagons_and_orders.specs.Listed.{is_listed}
use Rattle.wagons_and_orders.specs.Suits.{Suits}
use Rattle.wagons_and_orders.specs.Wanted.{WantedOrder}
use Rattle.line_network.specs.Network.{NetworkValue, are_one_place, place_index}
use Rattle.line_network.specs.Distance.{IsDistance}
use Rattle.line_network.specs.DistanceAnswers.{IsAnswered}
use Rattle.cost_table.specs.Problem.{ProblemValue}
use Rattle.cost_table.specs.Table.{Table, cost_at, penalty_at}
use Rattle.problem_table.specs.Allowed.{IsTableOf}
use Rattle.problem_table.proofs.GoalLemmas.{is_there, listed}
use Rattle.plan_reasons.specs.declared.tested_wagons.TestedWagon.{TestedWagon}
use Rattle.plan_reasons.specs.Reasons.{HasWay, IsCheaper, IsCount, IsInTime, IsOfClass}
use Rattle.plan_reasons.specs.Laws.{cells_of_order}
use Rattle.plan_reasons.specs.PairLists.{is_below}
use Rattle.plan_reasons.specs.inner.Tallied.{AreSeen, AreTested, IsTested, KeepsClasses, cheaper_cells, has_load, is_of_class}
use Rattle.plan_reasons.proofs.Counted.{each_more}
use Rattle.plan_reasons.proofs.Passing.{fits_are_cheaper}

-- ---- counts by a test of something that stands beside each wagon

module _ {B : Type 0} (IsSo : FreeWagon → Type 0) (test : B → Bool) where
  each_mark : (wagons : List FreeWagon) (ys : List B) → AllZip (λ wagon y. IsTrue (test y) ↔ IsSo wagon) wagons ys → AllZip (λ wagon mark. IsTrue mark ↔ IsSo wagon) wagons (map test ys)
  each_mark [] [] each = tt
  each_mark [] (y ∷ ys) each = absurd each
  each_mark (w ∷ ws) [] each = absurd each
  each_mark (w ∷ ws) (y ∷ ys) each = (each.0, each_mark ws ys each.1)

  marks_count : (ys : List B) → count_by test ys ≡ count_by (λ mark. mark) (map test ys)
  marks_count [] = refl
  marks_count (y ∷ ys) =
      sum_by-cons (λ (y : B). cond (test y) 1 0) y ys ∙ ap₂ {C = ℕ} (λ (one more : ℕ). one + more) refl (marks_count ys) ∙ sym (sum_by-cons (λ (mark : Bool). cond mark 1 0) (test y) (map test ys))

  pub counted_by : (wagons : List FreeWagon) (ys : List B) → AllZip (λ wagon y. IsTrue (test y) ↔ IsSo wagon) wagons ys → IsCount IsSo wagons (count_by test ys)
  counted_by wagons ys each = record { marks = map test ys; each = each_mark wagons ys each; count = marks_count ys }

each_within : {A B : Type 0} (P Q : A → B → Type 0) → ((x : A) (y : B) → P x y → Q x y) → (xs : List A) (ys : List B) → AllZip P xs ys → AllZip Q xs ys
each_within P Q within [] [] h = tt
each_within P Q within [] (y ∷ ys) h = absurd h
each_within P Q within (x ∷ xs) [] h = absurd h
each_within P Q within (x ∷ xs) (y ∷ ys) h = (within x y h.0, each_within P Q within xs ys h.1)

-- ---- columns of the table

each_row : (IsSo : FreeWagon → Type 0) (test : List (Option ℕ) → Bool) (rows : List (List (Option ℕ))) (wagons : List FreeWagon) → length rows ≡ length wagons
    → ((i : ℕ) (wagon : FreeWagon) → slice_get wagons i ≡ Some wagon → IsTrue (test (slice_index_or rows i [])) ↔ IsSo wagon) → AllZip (λ wagon row. IsTrue (test row) ↔ IsSo wagon) wagons rows
each_row IsSo test [] [] e is = tt
each_row IsSo test [] (w ∷ ws) e is = absurd (omega arith)
each_row IsSo test (row ∷ rows) [] e is = absurd (omega arith)
each_row IsSo test (row ∷ rows) (w ∷ ws) e is = (is 0 w refl, each_row IsSo test rows ws (omega arith) (λ i wagon at. is (suc i) wagon at))

some_there : (o : Option ℕ) → IsTrue (is_some o) ↔ ((km : ℕ) × (o ≡ Some km))
some_there None = (λ h. absurd cc, λ h. let no : None ≡ Some h.0 = h.1 in cc)
some_there (Some km) = (λ h. (km, refl), λ h. refl)

module _ (net : NetworkValue) (problem : ProblemValue) (t : Table) (table : IsTableOf net problem t) (j : ℕ) (wanted : WantedOrder) (order : slice_get problem.orders j ≡ Some wanted) where
  pub in_time_counted : IsCount (λ wagon. IsInTime net problem.at wagon wanted.order) problem.wagons (cells_of_order t j)
  in_time_counted =
      counted_by (λ (wagon : FreeWagon). IsInTime net problem.at wagon wanted.order) (λ (costs : List (Option ℕ)). is_some (get_or costs j None)) problem.wagons t.costs (each_row _ _ t.costs problem.wagons table.wagons (λ i wagon at. (
        λ h. let cell = (some_there (cost_at t i j)).0 h in (cell.0, (table.cells i j cell.0 wagon wanted at order).0 cell.1),
        λ h. (some_there (cost_at t i j)).1 (h.0, (table.cells i j h.0 wagon wanted at order).1 h.1),
      )))

  pub cheaper_counted : IsCount (λ wagon. IsCheaper net problem.at wagon wanted.order) problem.wagons (cheaper_cells t j)
  cheaper_counted =
      counted_by (λ (wagon : FreeWagon). IsCheaper net problem.at wagon wanted.order) (λ (costs : List (Option ℕ)). is_below (get_or costs j None) (penalty_at t j)) problem.wagons t.costs (each_row _ _ t.costs problem.wagons table.wagons (λ i wagon at. fits_are_cheaper net problem t table i j wagon wanted at order))

-- ---- classes

-- what stands in a list stands there in a longer one
pub still_there : {A : Type 0} (xs ys : List A) (k : ℕ) (x : A) → slice_get xs k ≡ Some x → slice_get (xs ++ ys) k ≡ Some x
still_there xs ys k x at =
    let within = slice_get_within xs k x at in
    slice_get-get_or (xs ++ ys) k x (omega (arith, within, length-append xs ys)) ∙ ap Some (get_or_append_left xs ys x k within ∙ get_or_from_slice_get xs k x x at)

pub last_there : {A : Type 0} (xs : List A) (k : ℕ) (x : A) → k ≡ length xs → slice_get (xs ++ x ∷ []) k ≡ Some x
last_there xs k x last = slice_get-get_or (xs ++ x ∷ []) k x (omega (arith, last, length-append xs (x ∷ []))) ∙ ap Some (subst (λ (n : ℕ). get_or (xs ++ x ∷ []) n x ≡ x) (sym last) (get_or_push xs x x (length xs) refl))

-- one wagon more, behind which the classes only grow
pub one_tested : (net : NetworkValue) (wagons : List FreeWagon) (old new : List (List ℕ)) (tested : List TestedWagon) (wagon : FreeWagon) (one : TestedWagon) → AreTested net wagons old tested → KeepsClasses old new → IsTested net new wagon one
    → AreTested net (wagons ++ wagon ∷ []) new (tested ++ one ∷ [])
one_tested net wagons old new tested wagon one are kept is =
    each_more (IsTested net new) wagons tested wagon one (each_within (IsTested net old) (IsTested net new) (λ w t h. record { class = kept t.class w.class h.class; load = h.load; place = h.place }) wagons tested are) is

-- ---- places

pub place_within : (places : List (List ℕ)) (place : List ℕ) (found : Option ℕ) → found ≡ place_index places place → IfSome found (λ k. k < length places)
place_within places place None is = tt
place_within places place (Some k) is = (position-Some (are_one_place place) places k [] (sym is)).0

answered_way : (net : NetworkValue) (a b : List ℕ) (way : ℕ × ℕ) (answer : Option (ℕ × ℕ)) → IsDistance net a b way → IsAnswered net a b answer → is_some answer ≡ true
answered_way net a b way None distance answered = absurd (answered distance.walk distance.leads)
answered_way net a b way (Some other) distance answered = refl

-- what stands beside an item
pub beside : {A B : Type 0} (R : A → B → Type 0) (xs : List A) (ys : List B) (i : ℕ) (e : B) → AllZip R xs ys → i < length ys → (x : A) × (slice_get xs i ≡ Some x) × R x (get_or ys i e)
beside R [] [] i e h lt = absurd (omega arith)
beside R [] (y ∷ ys) i e h lt = absurd h
beside R (x ∷ xs) [] i e h lt = absurd h
beside R (x ∷ xs) (y ∷ ys) zero e h lt = (x, refl, h.0)
beside R (x ∷ xs) (y ∷ ys) (suc i) e h lt = beside R xs ys i e h.1 (omega arith)

-- ---- class and load

both_left : (a b : Bool) → (a && b) ≡ true → a ≡ true
both_left true b h = refl
both_left false b h = cc

both_right : (a b : Bool) → (a && b) ≡ true → b ≡ true
both_right true b h = h
both_right false b h = cc

load_within : (load seen limit : ℕ) → seen ≡ limit → nat_le load seen ≡ true → load ≤ limit
load_within load seen limit same h = grind (arith, nat_tests, same, h)

within_load : (load seen limit : ℕ) → seen ≡ limit → load ≤ limit → nat_le load seen ≡ true
within_load load seen limit same h = grind (arith, nat_tests, same, h)

module _ (net : NetworkValue) (classes : List (List ℕ)) (order : Order) (marks : List Bool) (are : marks ≡ map (is_listed order.classes) classes) (wagon : FreeWagon) (tested : TestedWagon) (is : IsTested net classes wagon tested) where
  class_mark : is_of_class marks tested ≡ is_listed order.classes wagon.class
  class_mark =
      ap (λ (bs : List Bool). get_or bs tested.class false) are ∙ get_or_from_slice_get (map (is_listed order.classes) classes) tested.class (is_listed order.classes wagon.class) false (slice_get-map (is_listed order.classes) classes tested.class ∙ ap (option_map (is_listed order.classes)) is.class)

  pub class_seen : IsTrue (is_of_class marks tested) ↔ IsOfClass wagon order
  class_seen = (
    λ yes. is_there order.classes wagon.class (sym class_mark ∙ yes),
    λ has. class_mark ∙ listed order.classes wagon.class has,
  )

  pub load_seen : IsTrue (has_load marks order.load tested) ↔ Suits wagon order
  load_seen = (
    λ yes. record { class = class_seen.0 (both_left (is_of_class marks tested) (nat_le order.load tested.load_limit) yes); load = load_within order.load tested.load_limit wagon.load_limit is.load (both_right (is_of_class marks tested) (nat_le order.load tested.load_limit) yes) },
    λ suits. both_true (class_seen.1 suits.class) (within_load order.load tested.load_limit wagon.load_limit is.load suits.load),
  )

  has_way : (answer : Option (ℕ × ℕ)) → IsAnswered net wagon.place order.place answer → Suits wagon order → is_some answer ≡ true → HasWay net wagon order
  has_way None answered suits h = absurd cc
  has_way (Some way) answered suits h = record { suits = suits; way = way; distance = answered }

  -- a mark that says of a wagon that carries the load whether a way is answered, and of another no
  pub way_seen : (mark loaded : Bool) (answer : Option (ℕ × ℕ)) → loaded ≡ has_load marks order.load tested → loaded ≡ true → IsAnswered net wagon.place order.place answer → mark ≡ is_some answer → IsTrue mark ↔ HasWay net wagon order
  way_seen mark loaded answer loads carries answered says = (
    λ marked. has_way answer answered (load_seen.0 (sym loads ∙ carries)) (sym says ∙ marked),
    λ has. says ∙ answered_way net wagon.place order.place has.way answer has.distance answered,
  )

  pub none_seen : (mark loaded : Bool) → loaded ≡ has_load marks order.load tested → loaded ≡ false → mark ≡ false → IsTrue mark ↔ HasWay net wagon order
  none_seen mark loaded loads unable says = (
    λ marked. let never : false ≡ true = sym says ∙ marked in absurd (cc never),
    λ has. let never : false ≡ true = sym unable ∙ loads ∙ load_seen.1 has.suits in absurd (cc never),
  )

-- ---- counts by class and load

module _ (net : NetworkValue) (wagons : List FreeWagon) (order : Order) (marks : List Bool) (tested : List TestedWagon) (are : AreSeen net wagons order marks tested) where
  pub class_counted : IsCount (λ wagon. IsOfClass wagon order) wagons (count_by (is_of_class marks) tested)
  class_counted =
      counted_by (λ (wagon : FreeWagon). IsOfClass wagon order) (is_of_class marks) wagons tested (each_within (IsTested net are.classes) (λ wagon t. IsTrue (is_of_class marks t) ↔ IsOfClass wagon order) (λ wagon t is. class_seen net are.classes order marks are.marks wagon t is) wagons tested are.seen)

  pub load_counted : (load : ℕ) → load ≡ order.load → IsCount (λ wagon. Suits wagon order) wagons (count_by (has_load marks load) tested)
  load_counted load same =
      subst (λ (n : ℕ). IsCount (λ wagon. Suits wagon order) wagons (count_by (has_load marks n) tested)) (sym same) (counted_by (λ (wagon : FreeWagon). Suits wagon order) (has_load marks order.load) wagons tested (each_within (IsTested net are.classes) (λ wagon t. IsTrue (has_load marks order.load t) ↔ Suits wagon order) (λ wagon t is. load_seen net are.classes order marks are.marks wagon t is) wagons tested are.seen))

-- the marks and the wagons as they are handed in
pub seen_of : (net : NetworkValue) (wagons : List FreeWagon) (order : Order) (classes handed_classes : List (List ℕ)) (tested handed : List TestedWagon) (marks handed_marks : List Bool) → handed_classes ≡ classes → handed ≡ tested → handed_marks ≡ marks → marks ≡ map (is_listed order.classes) handed_classes → AreTested net wagons classes tested
    → AreSeen net wagons order handed_marks handed
seen_of net wagons order classes handed_classes tested handed marks handed_marks p q r is are = record { classes = classes; seen = subst (AreTested net wagons classes) (sym q) are; marks = r ∙ is ∙ ap (map (is_listed order.classes)) p }
