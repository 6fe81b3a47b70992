-- The tests that a wagon passes to whose order's place a way leads.
use Rattle.std.proofs.Common.{◌≡◌, ◌+◌, ◌*◌, ◌<◌, ◌≤◌, ℕ, Bool, true, List, refl, arith}
use Rattle.std.specs.Prelude.{◌↔◌, IsTrue, max}
use Rattle.move_messages.specs.Order.{Order}
use Rattle.wagons_and_orders.specs.declared.free_wagon.FreeWagon.{FreeWagon}
use Rattle.wagons_and_orders.specs.Suits.{Suits}
use Rattle.line_network.specs.Network.{NetworkValue}
use Rattle.line_network.specs.Distance.{IsDistance}
use Rattle.problem_table.specs.Allowed.{Reaches}
use Rattle.plan_reasons.specs.Reasons.{HasWay, IsCheaper, IsInTime, IsOfClass}
use Rattle.plan_reasons.specs.inner.Passed.{ArePassed}

module _ (net : NetworkValue) (a b : List ℕ) (d e : ℕ × ℕ) where
  -- there is one distance between two places
  pub same_km : IsDistance net a b d → IsDistance net a b e → d.0 ≡ e.0
  same_km p q =
      let here = p.least q.walk q.leads in
      let there = q.least p.walk p.leads in
      omega (arith, here.0, there.0, p.km, q.km)

  pub same_minutes : IsDistance net a b d → IsDistance net a b e → d.1 ≡ e.1
  same_minutes p q =
      let here = p.least q.walk q.leads in
      let there = q.least p.walk p.leads in
      let km = same_km p q in
      let one = here.1 (omega (arith, km, q.km)) in
      let other = there.1 (omega (arith, km, p.km)) in
      omega (arith, one, other, p.minutes, q.minutes)

module _ (net : NetworkValue) (at : ℕ) (wagon : FreeWagon) (order : Order) (way : ℕ × ℕ) where
  -- a wagon that suits and is there in time reaches the order
  pub reaches : Suits wagon order → IsDistance net wagon.place order.place way → max wagon.ready at + 60 * way.1 ≤ order.latest → Reaches net at wagon order way.0
  reaches suits distance in_time = record { suits = suits; minutes = way.1; distance = distance; in_time = in_time }

  -- one that reaches it is there in time by this way
  pub in_time_by : (km : ℕ) → IsDistance net wagon.place order.place way → Reaches net at wagon order km → max wagon.ready at + 60 * way.1 ≤ order.latest
  in_time_by km distance r =
      let same = same_minutes net wagon.place order.place way (km, r.minutes) distance r.distance in
      omega (arith, same, r.in_time)

  pub passed_with_way : (class load in_time cheaper : Bool) → IsTrue class ↔ IsOfClass wagon order → IsTrue load ↔ Suits wagon order → IsTrue load
      → IsDistance net wagon.place order.place way → IsTrue in_time ↔ (max wagon.ready at + 60 * way.1 ≤ order.latest) → IsTrue cheaper ↔ (IsTrue in_time × (way.0 < order.penalty))
      → ArePassed net at wagon order (record { class = class; load = load; way = true; in_time = in_time; cheaper = cheaper })
  passed_with_way class load in_time cheaper is_class is_load loaded distance is_in_time is_cheaper =
      let suits = is_load.0 loaded in
      record {
        class = is_class;
        load = is_load;
        way = (λ yes. record { suits = suits; way = way; distance = distance }, λ (has : HasWay net wagon order). refl);
        in_time = (λ yes. (way.0, reaches suits distance (is_in_time.0 yes)), λ (r : IsInTime net at wagon order). is_in_time.1 (in_time_by r.0 distance r.1));
        cheaper = (
          λ yes. let both = is_cheaper.0 yes in record { km = way.0; reaches = reaches suits distance (is_in_time.0 both.0); cheaper = both.1 },
          λ (r : IsCheaper net at wagon order).
              let same = same_km net wagon.place order.place way (r.km, r.reaches.minutes) distance r.reaches.distance in
              is_cheaper.1 (is_in_time.1 (in_time_by r.km distance r.reaches), omega (arith, same, r.cheaper)),
        );
      }
