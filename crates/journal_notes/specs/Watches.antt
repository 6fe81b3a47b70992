-- What the notes of a run of lines remember: how many messages of each wagon were refused in a row; the newest moment of the
-- wagons' last messages; and a bound up to which no order becomes overdue.
use Rattle.std.specs.Prelude.{◌≡◌, ℕ, Bool, true, not, ◌||◌, nat_lt, nat_le}
use Rattle.std.specs.List.{list_all}
use Rattle.move_messages.specs.Order.{Order}
use Rattle.operating_db.specs.Office.{Office}
use Rattle.wagons_and_orders.specs.Lack.{is_open}
use Rattle.wagons_and_orders.specs.OrderRow.{OrderRowValue}
use Rattle.journal_notes.specs.OrderNotes.{is_past}
use Rattle.journal_notes.specs.Streaks.{StreaksValue}

pub record WatchValue : Type 0 where
  pub streaks : StreaksValue
  pub newest : ℕ
  pub calm_until : ℕ

-- whether an order is closed, or its latest moment lies before the newest moment, or not before the bound
abbrev pub is_calm : (newest calm_until : ℕ) → OrderRowValue → Bool
is_calm newest calm_until row = not (is_open row) || (nat_lt row.text.latest newest || nat_le calm_until row.text.latest)

-- A watch is that of an office. An order's latest moment lies before that of some wagon's last message exactly where it lies before
-- the newest moment; and no open order has its latest moment from the newest moment on and before the bound.
pub record IsWatchOf (office : Office) (watch : WatchValue) : Type 0 where
  pub newest : (order : Order) → is_past office.wagons order ≡ nat_lt order.latest watch.newest
  pub calm : list_all (is_calm watch.newest watch.calm_until) office.orders ≡ true
