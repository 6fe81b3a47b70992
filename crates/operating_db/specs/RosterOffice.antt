-- The office of a roster.
use Rattle.std.specs.Prelude.{List, []}
use Rattle.wagons_and_orders.specs.declared.wagon_row.WagonRow.{WagonRow}
use Rattle.operating_db.specs.Office.{Office}

-- the office with which a roster begins: no order, the first network
abbrev pub first_office : List WagonRow → Office
first_office wagons = record { wagons = wagons; orders = []; network = 1 }
