-- An office without its closed orders, as a checkpoint keeps it.
use Rattle.std.specs.List.{filter}
use Rattle.wagons_and_orders.specs.Lack.{is_open}
use Rattle.operating_db.specs.Office.{Office}

-- the office without the orders that are withdrawn or filled
abbrev pub compact : Office → Office
compact office = record office { orders = filter is_open office.orders }
