-- The rows of wagons that no order waits for.
use Rattle.std.proofs.Common.{◌≡◌, ◌≤◌, ℕ, Some, List, [], length, replicate}
use Rattle.std.specs.Prelude.{slice_get}
use Rattle.std.proofs.lemmas.List.{get_or-replicate, length-replicate}
use Rattle.std.proofs.lemmas.List.Elements.{All-replicate}
use Rattle.std.proofs.lemmas.Option.{slice_get_within}
use Rattle.line_network.specs.Network.{NetworkValue}
use Rattle.wagons_and_orders.specs.declared.free_wagon.FreeWagon.{FreeWagon}
use Rattle.wagons_and_orders.specs.Wanted.{WantedOrder}
use Rattle.problem_table.specs.inner.AllowedRows.{AreLastingRows, IsLastingRow}

none_there : (j : ℕ) (wanted : WantedOrder) → slice_get [] j ≡ Some wanted → ⊥
none_there j wanted there = cc

-- an empty row is that of any wagon, as long as is wanted
empty_row : (net : NetworkValue) (at : ℕ) (wagon : FreeWagon) (last : ℕ) → IsLastingRow net at wagon [] [] last
empty_row net at wagon last = λ m l u. record { ascends = tt; cells = λ j km wanted there. absurd (none_there j wanted there) }

pub unwanted : (net : NetworkValue) (at : ℕ) (wagons : List FreeWagon) (orders : List WantedOrder) (most : ℕ) → orders ≡ [] → at ≤ most → AreLastingRows net at wagons orders (replicate (length wagons) []) (replicate (length wagons) most)
unwanted net at wagons orders most none within = rw none (record {
  count = length-replicate (length wagons) [];
  moments = length-replicate (length wagons) most;
  within = All-replicate (λ last. at ≤ last) (length wagons) most within;
  each = λ i wagon there.
      let l = slice_get_within wagons i wagon there in
      rw (get_or-replicate {A = List (ℕ × ℕ)} (length wagons) i [] [] l, get_or-replicate (length wagons) i most 0 l) (empty_row net at wagon most);
})
