-- What the parts of an event ask for and make, as the private functions of an office do them.
use Rattle.std.specs.Prelude.{◌≡◌, ◌<◌, Bool, true, nat_le, ◌&&◌, if◌then◌else◌, ℕ, List, map, None}
use Rattle.wagons_and_orders.specs.declared.wagon_row.WagonRow.{WagonRow}
use Rattle.fleet_rows.specs.Rows.{wagon_in, order_in, with_promise}
use Rattle.operating_db.specs.Commits.{Pair, is_free_row, lack_in, times_of_order, times_of_wagon}
use Rattle.operating_db.specs.Office.{Office}
use Rattle.operating_db.specs.Promises.{is_among}

-- the wagons, where these numbers lose their promises
abbrev pub unpromised_among : List (List ℕ) → List WagonRow → List WagonRow
unpromised_among numbers rows = map (λ row. if is_among row.number numbers then with_promise None row else row) rows

-- whether a pair can be promised, as a test of `IsPromisable`
abbrev pub is_promisable : Office → List Pair → Pair → Bool
is_promisable office pairs pair =
    nat_le (times_of_wagon pair.0 pairs) 1 && is_free_row (wagon_in office.wagons pair.0) && nat_le (times_of_order pair.1 pairs) (lack_in (order_in office.orders pair.1))

-- what a pair needs in order to be promised now
pub record IsNext (office : Office) (pair : Pair) : Type 0 where
  pub free : is_free_row (wagon_in office.wagons pair.0) ≡ true
  pub lacking : 0 < lack_in (order_in office.orders pair.1)
