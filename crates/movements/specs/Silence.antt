-- Wagons that haven't been heard from for some hours.
use Rattle.std.specs.Prelude.{ℕ, ◌+◌, ◌*◌, Bool, nat_le, List, [], Option, Some, None, filter, map}
use Rattle.wagons_and_orders.specs.declared.wagon_row.WagonRow.{WagonRow}
use Rattle.movements.specs.declared.silence.SilentWagon.{SilentWagon}

-- whether a wagon's last message is so many hours old, or older
abbrev pub is_silent : (at hours : ℕ) → WagonRow → Bool
is_silent at hours row = nat_le (row.last + 3600 * hours) at

abbrev pub silent_of : WagonRow → SilentWagon
silent_of row = record { wagon = row.number; class = row.class; status = row.status; since = row.last }

-- these wagons, ascending by number as the rows are; none where no hours are given
abbrev pub silent_wagons : (at : ℕ) → (hours : Option ℕ) → List WagonRow → List SilentWagon
silent_wagons at None rows = []
silent_wagons at (Some hours) rows = map silent_of (filter (is_silent at hours) rows)
