-- What the goal of an order for a class says of a wagon of that class.
use Rattle.std.proofs.Common.{◌≡◌, ◌∙◌, ◌+◌, ◌*◌, ◌<◌, ◌≤◌, ℕ, zero, suc, Bool, true, false, Option, Some, None, List, [], ◌∷◌, ◌++◌, length, get_or, take, refl, sym, ap, subst, inl, inr, arith, append-nil, append_assoc, length-take-le}
use Rattle.std.specs.Prelude.{◌↔◌, ◌||◌, if◌then◌else◌, max, position, nat_eq}
use Rattle.std.specs.List.{Contains, slice_index_or}
use Rattle.std.specs.Option.{option_map, option_to_list}
use Rattle.std.specs.Cmp.Lexicographic.{pointwise, bytes_decides}
use Rattle.std.proofs.lemmas.Bool.{cases_Bool}
use Rattle.std.proofs.lemmas.List.Quantifiers.{position-Some}
use Rattle.move_messages.specs.Order.{Order}
use Rattle.wagons_and_orders.specs.declared.free_wagon.FreeWagon.{FreeWagon}
use Rattle.wagons_and_orders.specs.Listed.{is_listed}
use Rattle.wagons_and_orders.specs.Wanted.{WantedOrder}
use Rattle.line_network.specs.Network.{NetworkValue, place_index, are_one_place}
use Rattle.line_network.specs.Distance.{IsDistance}
use Rattle.problem_table.specs.declared.goals.Goal.{Goal}
use Rattle.problem_table.specs.inner.Goals.{goal_at, goal_of, goals_from}
use Rattle.std.proofs.lemmas.List.{get_or_push, take_more}
use Rattle.cost_table.specs.Names.{is_name}
use Rattle.problem_table.specs.declared.goals.ClassGoals.{ClassGoals}
use Rattle.problem_table.specs.Allowed.{Reaches}

or_left : (a b : Bool) → a ≡ true → (a || b) ≡ true
or_left true b h = refl
or_left false b h = cc

or_right : (a b : Bool) → b ≡ true → (a || b) ≡ true
or_right true b h = refl
or_right false b h = h

listed_at : (classes : List (List ℕ)) (class : List ℕ) (k : ℕ) → k < length classes → slice_index_or classes k class ≡ class → is_listed classes class ≡ true
listed_at [] class k l e = absurd (omega arith)
listed_at (c ∷ cs) class zero l e = or_left (pointwise nat_eq c class) (is_listed cs class) ((bytes_decides c class).1 e)
listed_at (c ∷ cs) class (suc k) l e = or_right (pointwise nat_eq c class) (is_listed cs class) (listed_at cs class k (omega arith) e)

-- a class that is there is found
pub listed : (classes : List (List ℕ)) (class : List ℕ) → Contains classes class → is_listed classes class ≡ true
listed classes class h = listed_at classes class h.0 h.1 h.2

-- a class that is found is there
pub is_there : (classes : List (List ℕ)) (class : List ℕ) → is_listed classes class ≡ true → Contains classes class
is_there [] class h = cc h
is_there (c ∷ cs) class h = elim (cases_Bool (pointwise nat_eq c class)) [
  | inl here ↦ (0, omega arith, (bytes_decides c class).0 here)
  | inr not_here ↦ let rest = is_there cs class (rw not_here at h) in let below : rest.0 < length cs = rest.1 in (suc rest.0, omega arith, rest.2)
]

-- what a goal says of its order
record Says (listed : Bool) (place : Option ℕ) (j : ℕ) (order : Order) (goal : Goal) : Type 0 where
  is_listed : listed ≡ true
  order_is : goal.order ≡ j
  place_is : place ≡ Some goal.place
  load_is : goal.load ≡ order.load
  latest_is : goal.latest ≡ order.latest

abbrev goal_if : Bool → Option ℕ → ℕ → Order → Option Goal
goal_if true place j order = option_map (goal_at j order) place
goal_if false place j order = None

goal_is : (b : Bool) (place : Option ℕ) (j : ℕ) (order : Order) (goal : Goal) → Some goal ≡ goal_if b place j order → Says b place j order goal
goal_is true (Some k) j order goal h =
    let same : goal ≡ goal_at j order k = some_same goal (goal_at j order k) h in
    record { is_listed = refl; order_is = ap (λ (g : Goal). g.order) same; place_is = ap (λ (g : Goal). Some g.place) (sym same); load_is = ap (λ (g : Goal). g.load) same; latest_is = ap (λ (g : Goal). g.latest) same }
  where
    some_same : (x y : Goal) → Some x ≡ Some y → x ≡ y
    some_same x y e = cc
goal_is true None j order goal h = cc
goal_is false place j order goal h = cc

no_goal : (b : Bool) (place : Option ℕ) (j : ℕ) (order : Order) (k : ℕ) → None ≡ goal_if b place j order → b ≡ true → place ≡ Some k → ⊥
no_goal true (Some x) j order k h t e = cc
no_goal true None j order k h t e = cc
no_goal false place j order k h t e = cc

goal_of-if : (net : NetworkValue) (class : List ℕ) (j : ℕ) (wanted : WantedOrder) → goal_of net class j wanted ≡ goal_if (is_listed wanted.order.classes class) (place_index net.places wanted.order.place) j wanted.order
goal_of-if net class j wanted = by (is_listed wanted.order.classes class) where
  by : (b : Bool) → (if b then option_map (goal_at j wanted.order) (place_index net.places wanted.order.place) else None) ≡ goal_if b (place_index net.places wanted.order.place) j wanted.order
  by true = refl
  by false = refl

says : (net : NetworkValue) (class : List ℕ) (j : ℕ) (wanted : WantedOrder) (goal : Goal) → Some goal ≡ goal_of net class j wanted → Says (is_listed wanted.order.classes class) (place_index net.places wanted.order.place) j wanted.order goal
says net class j wanted goal h = goal_is _ _ j wanted.order goal (h ∙ goal_of-if net class j wanted)

module _ (net : NetworkValue) (at : ℕ) (wagon : FreeWagon) (j : ℕ) (wanted : WantedOrder) where
  -- an order without a goal is reached by no wagon of the class
  pub unreached : (o : Option ℕ) → None ≡ goal_of net wagon.class j wanted → o ≡ None → (km : ℕ) → (o ≡ Some km) ↔ Reaches net at wagon wanted.order km
  unreached o h none km =
      (λ some. cc, λ (r : Reaches net at wagon wanted.order km). absurd (no_goal _ _ j wanted.order r.distance.leads.last (h ∙ goal_of-if net wagon.class j wanted) (listed wanted.order.classes wagon.class r.suits.class) r.distance.leads.ends))

  -- the place of a goal is one of the network
  pub goal_within : (goal : Goal) → Some goal ≡ goal_of net wagon.class j wanted → goal.place < length net.places
  goal_within goal h = (position-Some (are_one_place wanted.order.place) net.places goal.place [] (says net wagon.class j wanted goal h).place_is).0

  -- the place of a goal is that of its order
  pub goal_place : (goal : Goal) → Some goal ≡ goal_of net wagon.class j wanted → place_index net.places wanted.order.place ≡ Some goal.place
  goal_place goal h = (says net wagon.class j wanted goal h).place_is

  -- a goal that the wagon reaches in time, and whose load is within its limit
  pub reached_goal : (goal : Goal) (d : ℕ × ℕ) → Some goal ≡ goal_of net wagon.class j wanted → goal.load ≤ wagon.load_limit → IsDistance net wagon.place wanted.order.place d → max wagon.ready at + 60 * d.1 ≤ goal.latest → (km : ℕ) → (Some d.0 ≡ Some km) ↔ Reaches net at wagon wanted.order km
  reached_goal goal d h load distance in_time km = (to, from) where
    to : Some d.0 ≡ Some km → Reaches net at wagon wanted.order km
    to e =
        let same : d.0 ≡ km = some_same d.0 km e in
        record {
          suits = record { class = is_there wanted.order.classes wagon.class (says net wagon.class j wanted goal h).is_listed; load = omega (arith, load, (says net wagon.class j wanted goal h).load_is) };
          minutes = d.1;
          distance = subst (λ (k : ℕ). IsDistance net wagon.place wanted.order.place (k, d.1)) same distance;
          in_time = omega (arith, in_time, (says net wagon.class j wanted goal h).latest_is);
        }
      where
        some_same : (x y : ℕ) → Some x ≡ Some y → x ≡ y
        some_same x y e = cc

    from : Reaches net at wagon wanted.order km → Some d.0 ≡ Some km
    from r =
        let here = distance.least r.distance.walk r.distance.leads in
        let there = r.distance.least distance.walk distance.leads in
        ap Some (omega (arith, here.0, there.0, distance.km, r.distance.km))

module _ (net : NetworkValue) (class : List ℕ) where
  goals_from-push : (orders : List WantedOrder) (j : ℕ) (wanted : WantedOrder) → goals_from net class j (orders ++ wanted ∷ []) ≡ goals_from net class j orders ++ option_to_list (goal_of net class (j + length orders) wanted)
  goals_from-push [] j wanted = append-nil _ ∙ ap (λ (k : ℕ). option_to_list (goal_of net class k wanted)) (omega arith)
  goals_from-push (w ∷ ws) j wanted =
      ap (λ gs. option_to_list (goal_of net class j w) ++ gs) (goals_from-push ws (j + 1) wanted ∙ ap (λ (k : ℕ). goals_from net class (j + 1) ws ++ option_to_list (goal_of net class k wanted)) (omega arith))
      ∙ sym (append_assoc (option_to_list (goal_of net class j w)) (goals_from net class (j + 1) ws) _)

  -- the goals go on with that of the next order, if it has one
  pub goals_next : (first : ℕ) (orders : List WantedOrder) (j : ℕ) (wanted : WantedOrder) (o : Option Goal) (goals new : List Goal) → j < length orders → wanted ≡ get_or orders j wanted → o ≡ goal_of net class (first + j) wanted → goals ≡ goals_from net class first (take j orders) → new ≡ goals ++ option_to_list o → new ≡ goals_from net class first (take (j + 1) orders)
  goals_next first orders j wanted o goals new within at is h added =
      let short : length (take j orders) ≡ j = length-take-le j orders (omega arith) in
      let more : take (j + 1) orders ≡ take j orders ++ wanted ∷ [] = take_more orders j wanted within ∙ ap (λ y. take j orders ++ y ∷ []) (sym at) in
      added ∙ (ap (λ gs. gs ++ option_to_list o) h ∙ ap (λ (p : Option Goal). goals_from net class first (take j orders) ++ option_to_list p) is)
      ∙ (ap (λ (k : ℕ). goals_from net class first (take j orders) ++ option_to_list (goal_of net class k wanted)) (omega (arith, short))
      ∙ (sym (goals_from-push (take j orders) first wanted) ∙ ap (goals_from net class first) (sym more)))

-- the next goal: its order behind the orders without a goal, and the orders behind it
pub record NextGoal (net : NetworkValue) (class : List ℕ) (j : ℕ) (later : List WantedOrder) (goal : Goal) (rest : List Goal) : Type 0 where
  pub gap : List WantedOrder
  pub wanted : WantedOrder
  pub behind : List WantedOrder
  pub split : later ≡ gap ++ wanted ∷ behind
  pub no_goals : goals_from net class j gap ≡ []
  pub order : goal.order ≡ j + length gap
  pub goal_is : Some goal ≡ goal_of net class goal.order wanted
  pub rest_is : rest ≡ goals_from net class (j + length gap + 1) behind

module _ (net : NetworkValue) (class : List ℕ) (goal : Goal) (rest : List Goal) where
  next_at : (j : ℕ) (w : WantedOrder) (ws : List WantedOrder) (o : Option Goal) → o ≡ goal_of net class j w → goal ∷ rest ≡ option_to_list o ++ goals_from net class (j + 1) ws → (goal ∷ rest ≡ goals_from net class (j + 1) ws → NextGoal net class (j + 1) ws goal rest) → NextGoal net class j (w ∷ ws) goal rest
  next_at j w ws None is h later =
      let more = later h in
      record {
        gap = w ∷ more.gap;
        wanted = more.wanted;
        behind = more.behind;
        split = ap (λ os. w ∷ os) more.split;
        no_goals = ap (λ (o : Option Goal). option_to_list o ++ goals_from net class (j + 1) more.gap) (sym is) ∙ more.no_goals;
        order = omega (arith, more.order);
        goal_is = more.goal_is;
        rest_is = more.rest_is ∙ ap (λ (k : ℕ). goals_from net class k more.behind) (omega arith);
      }
  next_at j w ws (Some g) is h later =
      let here : Some goal ≡ goal_of net class j w = ap Some (first goal g rest _ h) ∙ is in
      let at : goal.order ≡ j = (says net class j w goal here).order_is in
      record {
        gap = [];
        wanted = w;
        behind = ws;
        split = refl;
        no_goals = refl;
        order = omega (arith, at);
        goal_is = here ∙ ap (λ (k : ℕ). goal_of net class k w) (sym at);
        rest_is = others goal g rest _ h ∙ ap (λ (k : ℕ). goals_from net class k ws) (omega arith);
      }
    where
      first : (x y : Goal) (xs ys : List Goal) → x ∷ xs ≡ y ∷ ys → x ≡ y
      first x y xs ys e = cc

      others : (x y : Goal) (xs ys : List Goal) → x ∷ xs ≡ y ∷ ys → xs ≡ ys
      others x y xs ys e = cc

  pub next_goal : (j : ℕ) (later : List WantedOrder) → goal ∷ rest ≡ goals_from net class j later → NextGoal net class j later goal rest
  next_goal j [] h = cc h
  next_goal j (w ∷ ws) h = next_at j w ws (goal_of net class j w) refl h (next_goal (j + 1) ws)

-- where goals of a class are found, they are those of that class
pub class_found : (found : List ClassGoals) (class : List ℕ) (k : ℕ) → position (λ (one : ClassGoals). is_name class one.class) found ≡ Some k → (k < length found) × ((d : ClassGoals) → (get_or found k d).class ≡ class)
class_found found class k h = (below found class k h, λ d. (bytes_decides (get_or found k d).class class).0 (position-Some (λ (one : ClassGoals). is_name class one.class) found k d h).1) where
  below : (found : List ClassGoals) (class : List ℕ) (k : ℕ) → position (λ (one : ClassGoals). is_name class one.class) found ≡ Some k → k < length found
  below [] class k h = cc h
  below (one ∷ rest) class k h = (position-Some (λ (one : ClassGoals). is_name class one.class) (one ∷ rest) k one h).0

-- goals that are put behind others are found there
pub class_last : (found : List ClassGoals) (one d : ClassGoals) (k : ℕ) → k ≡ length found → (get_or (found ++ one ∷ []) k d).class ≡ one.class
class_last found one d k l = ap (λ (x : ClassGoals). x.class) (get_or_push found one d k (sym l))
