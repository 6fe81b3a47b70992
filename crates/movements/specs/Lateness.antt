-- Whether a movement is late, and by how much.
use Rattle.std.specs.Prelude.{ℕ, ◌+◌, ◌-◌, ◌/◌, Bool, true, nat_lt, if◌then◌else◌, Option, Some, None}
use Rattle.movements.specs.declared.movement.Movement.{Movement}
use Rattle.movements.specs.declared.movement.Way.{Way}
use Rattle.movements.specs.declared.outlook.Outlook.{Outlook}
use Rattle.movements.specs.declared.outlook.Outlook.TheVariants.{NoWay, Late, InTime}

-- whether a wagon with this way is late: where it has none, or is there after the latest moment
abbrev pub is_late_by : (latest : ℕ) → Option Way → Bool
is_late_by latest None = true
is_late_by latest (Some way) = nat_lt latest way.arrival

abbrev pub is_late : Movement → Bool
is_late movement = is_late_by movement.latest movement.way

-- the minutes from the latest moment to a later arrival, rounded up
abbrev pub minutes_late : (latest arrival : ℕ) → ℕ
minutes_late latest arrival = (arrival - latest + 59) / 60

-- the minutes from an arrival to the latest moment, rounded down
abbrev pub minutes_to_spare : (latest arrival : ℕ) → ℕ
minutes_to_spare latest arrival = (latest - arrival) / 60

-- whether an arrival is by the latest moment, both in seconds since 1970
abbrev pub outlook_at : (latest arrival : ℕ) → Outlook
outlook_at latest arrival =
    if nat_lt latest arrival then Late (minutes_late latest arrival) else InTime (minutes_to_spare latest arrival)

-- whether a wagon with this way will be there in time
abbrev pub outlook_by : (latest : ℕ) → Option Way → Outlook
outlook_by latest None = NoWay
outlook_by latest (Some way) = outlook_at latest way.arrival
