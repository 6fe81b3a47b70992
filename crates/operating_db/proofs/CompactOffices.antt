-- Offices that differ in closed orders alone: what they keep and show.
use Rattle.std.proofs.Common.{◌≡◌, ◌∙◌, ℕ, ◌≤◌, true, List, refl, ap, sym, subst}
use Rattle.std.specs.List.{filter}
use Rattle.std.proofs.lemmas.List.Elements.{All-filter, All-weaker}
use Rattle.std.proofs.lemmas.Map.Entries.{option_filter}
use Rattle.wagons_and_orders.specs.declared.wagon_row.WagonRow.{WagonRow}
use Rattle.wagons_and_orders.specs.declared.free_wagon.FreeWagon.{FreeWagon}
use Rattle.wagons_and_orders.specs.Lack.{is_open}
use Rattle.wagons_and_orders.specs.OrderRow.{OrderRowValue}
use Rattle.wagons_and_orders.specs.Wanted.{WantedOrder}
use Rattle.cost_table.specs.Problem.{ProblemValue}
use Rattle.fleet_rows.specs.Rows.{max_open_wagons, open_wagons, order_in, wagon_in}
use Rattle.operating_db.specs.Commits.{CanPromise, IsPromisable, Pair, is_free_row, lack_in, times_of_order}
use Rattle.operating_db.specs.Compact.{compact}
use Rattle.operating_db.specs.CompactLaws.{AlikeShowTheSame, AreAlike, CompactAgrees, CompactBegins, CompactIsAlike, IsNoneClosed}
use Rattle.operating_db.specs.FreeCount.{free_count}
use Rattle.operating_db.specs.Office.{Office}
use Rattle.operating_db.specs.Problem.{free_wagons, waiting_orders}
use Rattle.operating_db.specs.Promises.{KeepsPromises, PromisesAgree, is_among, promised_of}
use Rattle.operating_db.proofs.CompactRows.{all_where_open, found_keeps, lacks_where_open, names_open, open_again, order_in_open, promised_where_open, waiting_open, wanted_of_open}

-- ---- the parts of offices that are alike

pub alike_of : (one other : Office) → one.wagons ≡ other.wagons → filter is_open one.orders ≡ filter is_open other.orders → one.network ≡ other.network → AreAlike one other
alike_of one other wagons orders network = cc

pub alike_wagons : (one other : Office) → AreAlike one other → one.wagons ≡ other.wagons
alike_wagons one other h = ap (λ (office : Office). office.wagons) h

pub alike_orders : (one other : Office) → AreAlike one other → filter is_open one.orders ≡ filter is_open other.orders
alike_orders one other h = ap (λ (office : Office). office.orders) h

pub alike_network : (one other : Office) → AreAlike one other → one.network ≡ other.network
alike_network one other h = ap (λ (office : Office). office.network) h

-- ---- an office without its closed orders

abbrev problem_by : (at : ℕ) → List FreeWagon → List WantedOrder → ProblemValue
problem_by at wagons orders = record { at = at; wagons = wagons; orders = orders }

pub compact_alike : CompactIsAlike
compact_alike office = (
  alike_of office (compact office) refl (sym (open_again office.orders)) refl,
  λ at. ap (problem_by at (free_wagons office.wagons)) (waiting_open office.orders),
)

promised_open : (office : Office) (id : List ℕ) → PromisesAgree office → promised_of (order_in (filter is_open office.orders) id) ≡ promised_of (order_in office.orders id)
promised_open office id agree =
    ap promised_of (order_in_open office.orders id agree.names) ∙ promised_where_open (order_in office.orders id) (found_keeps office.orders id agree.orders)

pub compact_agrees : CompactAgrees
compact_agrees office h = record {
  agree = λ number id. h.agree number id ∙ ap (is_among number) (sym (promised_open office id h));
  names = names_open office.orders h.names;
  orders = All-filter is_open KeepsPromises office.orders h.orders;
}

pub compact_begins : CompactBegins
compact_begins networks office h = record {
  wagons = h.wagons;
  promises = compact_agrees office h.promises;
  few_open = subst (λ (n : ℕ). n ≤ max_open_wagons) (sym (wanted_of_open office.orders)) h.few_open;
  from_one = h.from_one;
  in_force = h.in_force;
}

-- ---- what alike offices show

pub alike_wanted : (one other : Office) → AreAlike one other → open_wagons one.orders ≡ open_wagons other.orders
alike_wanted one other alike = sym (wanted_of_open one.orders) ∙ (ap open_wagons (alike_orders one other alike) ∙ wanted_of_open other.orders)

alike_waiting : (one other : Office) → AreAlike one other → waiting_orders one.orders ≡ waiting_orders other.orders
alike_waiting one other alike = sym (waiting_open one.orders) ∙ (ap waiting_orders (alike_orders one other alike) ∙ waiting_open other.orders)

alike_found : (one other : Office) → PromisesAgree one → PromisesAgree other → AreAlike one other → (id : List ℕ) → option_filter is_open (order_in one.orders id) ≡ option_filter is_open (order_in other.orders id)
alike_found one other h g alike id =
    sym (order_in_open one.orders id h.names) ∙ (ap (λ (rows : List OrderRowValue). order_in rows id) (alike_orders one other alike) ∙ order_in_open other.orders id g.names)

pub alike_lack : (one other : Office) → PromisesAgree one → PromisesAgree other → AreAlike one other → (id : List ℕ) → lack_in (order_in one.orders id) ≡ lack_in (order_in other.orders id)
alike_lack one other h g alike id =
    sym (lacks_where_open (order_in one.orders id)) ∙ (ap lack_in (alike_found one other h g alike id) ∙ lacks_where_open (order_in other.orders id))

-- the order of a name that is closed in neither
pub alike_order : (one other : Office) → PromisesAgree one → PromisesAgree other → AreAlike one other → (id : List ℕ) → IsNoneClosed one id → IsNoneClosed other id → order_in one.orders id ≡ order_in other.orders id
alike_order one other h g alike id here there =
    sym (all_where_open (order_in one.orders id) here) ∙ (alike_found one other h g alike id ∙ all_where_open (order_in other.orders id) there)

promisable_on : (one other : Office) (pairs : List Pair) → PromisesAgree one → PromisesAgree other → AreAlike one other → (pair : Pair) → IsPromisable one pairs pair → IsPromisable other pairs pair
promisable_on one other pairs h g alike pair can = record {
  once = can.once;
  free = subst (λ (wagons : List WagonRow). is_free_row (wagon_in wagons pair.0) ≡ true) (alike_wagons one other alike) can.free;
  lacking = subst (λ (n : ℕ). times_of_order pair.1 pairs ≤ n) (alike_lack one other h g alike pair.1) can.lacking;
}

pub can_on : (one other : Office) (pairs : List Pair) → PromisesAgree one → PromisesAgree other → AreAlike one other → CanPromise one pairs → CanPromise other pairs
can_on one other pairs h g alike can = All-weaker (IsPromisable one pairs) (IsPromisable other pairs) (promisable_on one other pairs h g alike) pairs can

pub alike_show : AlikeShowTheSame
alike_show one other h g alike =
    let wagons = alike_wagons one other alike in
    record {
      wagons = wagons;
      network = alike_network one other alike;
      open_orders = alike_orders one other alike;
      problem = λ at.
          ap (λ (rows : List WagonRow). problem_by at (free_wagons rows) (waiting_orders one.orders)) wagons
          ∙ ap (problem_by at (free_wagons other.wagons)) (alike_waiting one other alike);
      lack = alike_lack one other h g alike;
      free = λ class place. ap (λ (rows : List WagonRow). free_count rows class place) wagons;
      promisable = λ pairs. (can_on one other pairs h g alike, can_on other one pairs g h (sym alike));
    }
