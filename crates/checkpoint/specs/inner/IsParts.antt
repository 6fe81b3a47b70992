-- What the parts keep that the lines of a checkpoint say, line by line.
use Rattle.std.specs.Prelude.{◌≡◌, ◌≤◌, ℕ, Bool, true, nat_eq, List, length, None, All, IfSome}
use Rattle.std.specs.Cmp.Lexicographic.{pointwise}
use Rattle.std.specs.List.{IsDistinct, list_all}
use Rattle.std.specs.List.Sorted.{IsStrictlySortedBy}
use Rattle.move_messages.specs.MaxLoad.{max_load}
use Rattle.wagons_and_orders.specs.declared.wagon_row.WagonRow.{WagonRow}
use Rattle.wagons_and_orders.specs.Lack.{is_open}
use Rattle.wagons_and_orders.specs.OrderRow.{IsOrderRow, OrderRowValue}
use Rattle.wagons_and_orders.specs.PossibleRows.{IsPossibleRow}
use Rattle.fleet_rows.specs.Kept.{by_number, max_roster_wagons}
use Rattle.fleet_rows.specs.Rows.{max_open_wagons, names_of, open_wagons}
use Rattle.checkpoint.specs.Parts.{PartsValue, no_parts}
use Rattle.checkpoint.specs.Taking.{is_kept_by, is_promised_by}

-- whether each wagon promised to an order is so by its own row
abbrev pub has_its_wagons : List WagonRow → OrderRowValue → Bool
has_its_wagons wagons row = list_all (is_promised_by wagons row.text.id) row.promised

-- nothing is there before the head; the wagons are as an office has them; so are the orders, which are all open; each order's
-- promised wagons are so by their own rows; and once the last line was read, each wagon's promise is known to its order
pub record IsParts (networks : ℕ) (parts : PartsValue) : Type 0 where
  pub head : parts.network ≡ None → parts ≡ no_parts
  pub in_force : IfSome parts.network (λ network. (1 ≤ network) × (network ≤ networks))
  pub few : length parts.wagons ≤ max_roster_wagons
  pub ascending : IsStrictlySortedBy by_number parts.wagons
  pub few_kg : All (λ row. row.load_limit ≤ max_load) parts.wagons
  pub possible : All IsPossibleRow parts.wagons
  pub distinct : IsDistinct (pointwise nat_eq) (names_of parts.orders)
  pub each : All IsOrderRow parts.orders
  pub few_open : open_wagons parts.orders ≤ max_open_wagons
  pub all_open : list_all is_open parts.orders ≡ true
  pub promised : list_all (has_its_wagons parts.wagons) parts.orders ≡ true
  pub known : parts.ended ≡ true → list_all (is_kept_by parts.orders) parts.wagons ≡ true
