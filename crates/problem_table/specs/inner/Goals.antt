-- What a wagon's way to an order depends on, for the wagons of one class.
use Rattle.std.specs.Prelude.{◌≡◌, ◌+◌, ◌≤◌, ◌↔◌, ℕ, if◌then◌else◌, List, [], ◌∷◌, ◌++◌, Option, None, Some, IfSome}
use Rattle.std.specs.Option.{option_map, option_to_list}
use Rattle.move_messages.specs.Order.{Order}
use Rattle.wagons_and_orders.specs.declared.free_wagon.FreeWagon.{FreeWagon}
use Rattle.wagons_and_orders.specs.Listed.{is_listed}
use Rattle.wagons_and_orders.specs.Wanted.{WantedOrder}
use Rattle.line_network.specs.Network.{NetworkValue, place_index}
use Rattle.problem_table.specs.Allowed.{Reaches}
use Rattle.problem_table.specs.declared.allowed.Way.{Way}
use Rattle.problem_table.specs.declared.goals.Goal.{Goal}
use Rattle.problem_table.specs.declared.goals.ClassGoals.{ClassGoals}

-- what order j wants of a wagon: where, how much it loads, and by when
abbrev pub goal_at : ℕ → Order → ℕ → Goal
goal_at j order place = record { order = j; place = place; load = order.load; latest = order.latest }

-- the same, where the order lists the class and the network has its place
abbrev pub goal_of : NetworkValue → List ℕ → ℕ → WantedOrder → Option Goal
goal_of network class j wanted =
    if is_listed wanted.order.classes class then option_map (goal_at j wanted.order) (place_index network.places wanted.order.place) else None

-- the goals of these orders for the wagons of one class; the first of them is order j
abbrev pub goals_from : NetworkValue → List ℕ → ℕ → List WantedOrder → List Goal
goals_from network class j [] = []
goals_from network class j (wanted ∷ later) = option_to_list (goal_of network class j wanted) ++ goals_from network class (j + 1) later

-- the goals of all orders for the wagons of one class
abbrev pub goals_of : NetworkValue → List ℕ → List WantedOrder → List Goal
goals_of network class orders = goals_from network class 0 orders

-- whether goals that are kept with a class are those of that class, where the first of these orders has a position
abbrev pub AreGoalsOf : NetworkValue → (first : ℕ) → List WantedOrder → ClassGoals → Type 0
AreGoalsOf network first orders kept = kept.goals.items ≡ goals_from network kept.class first orders

-- the way of a wagon to a goal: at each moment up to its last start the wagon reaches an order of this goal by its
-- kilometres; where there is no way, at none
abbrev pub IsWayTo : NetworkValue → (at : ℕ) → FreeWagon → Goal → Option Way → Type 0
IsWayTo net at wagon goal way =
    (m : ℕ) → at ≤ m → IfSome way (λ way. m ≤ way.last_start)
    → (wanted : WantedOrder) → Some goal ≡ goal_of net wagon.class goal.order wanted
    → (km : ℕ) → (option_map (λ way. way.km) way ≡ Some km) ↔ Reaches net m wagon wanted.order km
