-- Wagons that are alike have the same rows.
use Rattle.std.proofs.Common.{◌≡◌, ◌<◌, ◌≤◌, ℕ, Some, List, [], length, get_or, take, sym, subst, arith, length-take-le}
use Rattle.std.specs.Prelude.{slice_get}
use Rattle.std.specs.List.{Contains}
use Rattle.std.proofs.lemmas.Option.{slice_get_within}
use Rattle.move_messages.specs.Order.{Order}
use Rattle.wagons_and_orders.specs.declared.free_wagon.FreeWagon.{FreeWagon}
use Rattle.wagons_and_orders.specs.Wanted.{WantedOrder}
use Rattle.line_network.specs.Network.{NetworkValue}
use Rattle.line_network.specs.Distance.{IsDistance}
use Rattle.problem_table.specs.Allowed.{Reaches}
use Rattle.problem_table.specs.inner.Alike.{AreAlike}
use Rattle.problem_table.specs.inner.AllowedRows.{AreLastingRows, IsLastingRow}
use Rattle.problem_table.proofs.AllowedLemmas.{slice_get-take, some_at}

module _ (net : NetworkValue) (at : ℕ) where
  reaches : (one other : FreeWagon) → AreAlike at one other → (m : ℕ) → at ≤ m → (order : Order) (km : ℕ) → Reaches net m one order km → Reaches net m other order km
  reaches one other alike m from order km r = record {
    suits = record {
      class = subst (λ (c : List ℕ). Contains order.classes c) alike.class r.suits.class;
      load = omega (arith, r.suits.load, alike.load_limit);
    };
    minutes = r.minutes;
    distance = subst (λ (p : List ℕ). IsDistance net p order.place (km, r.minutes)) alike.place r.distance;
    in_time = omega (arith, r.in_time, alike.start, from);
  }

  back : (one other : FreeWagon) → AreAlike at one other → AreAlike at other one
  back one other alike = record { place = sym alike.place; class = sym alike.class; load_limit = sym alike.load_limit; start = sym alike.start }

  pub alike_row : (one other : FreeWagon) (orders : List WantedOrder) (row : List (ℕ × ℕ)) (end : ℕ) → AreAlike at one other → IsLastingRow net at one orders row end → IsLastingRow net at other orders row end
  alike_row one other orders row end alike h = λ m from up. record {
    ascends = (h m from up).ascends;
    cells = λ j km wanted there.
        let cell = (h m from up).cells j km wanted there in
        (λ some. reaches one other alike m from wanted.order km (cell.0 some), λ r. cell.1 (reaches other one (back one other alike) m from wanted.order km r));
  }

  -- the row of a wagon among the first ones is that of another that is alike
  pub row_of_alike : (wagons : List FreeWagon) (orders : List WantedOrder) (k i : ℕ) (wagon : FreeWagon) (rows : List (List (ℕ × ℕ))) (lasts : List ℕ) → slice_get wagons k ≡ Some wagon → i < k → ((one : FreeWagon) → slice_get wagons i ≡ Some one → AreAlike at one wagon) → AreLastingRows net at (take k wagons) orders rows lasts → IsLastingRow net at wagon orders (get_or rows i []) (get_or lasts i 0)
  row_of_alike wagons orders k i wagon rows lasts here before alike h =
      let within : k < length wagons = slice_get_within wagons k wagon here in
      let short : length (take k wagons) ≡ k = length-take-le k wagons (omega (arith, within)) in
      let there = some_at (take k wagons) i (omega (arith, before, short)) in
      alike_row there.0 wagon orders (get_or rows i []) (get_or lasts i 0) (alike there.0 (slice_get-take k wagons i there.0 there.1)) (h.each i there.0 there.1)
