-- How many messages of a wagon the status table refused in a row.
use Rattle.std.specs.Prelude.{◌≡◌, ℕ, ◌+◌, min, nat_eq, if◌then◌else◌, List, Option, Some, None}
use Rattle.std.specs.BTreeMap.{is_at}
use Rattle.std.specs.Map.{lookup}
use Rattle.std.specs.Cmp.Lexicographic.{pointwise, slice_cmp}
use Rattle.std.specs.Ordering.{nat_cmp}
use Rattle.journal_notes.specs.declared.streaks.Streak.{Streak}

-- the number of each wagon that has a streak, ascending, and its streak
abbrev pub StreaksValue : Type 0
StreaksValue = List (List ℕ × Streak)

-- the refused messages of a wagon since its last accepted one
abbrev pub streak_of : StreaksValue → (number : List ℕ) → Option Streak
streak_of streaks number = lookup (is_at (slice_cmp nat_cmp number)) streaks

-- the most that is counted: 2 to the power of 64, less 1
abbrev pub max_times : ℕ
max_times = 18_446_744_073_709_551_615

-- with one refused message more, of this moment
abbrev pub one_more : Option Streak → (moment : ℕ) → Streak
one_more None moment = record { times = 1; since = moment }
one_more (Some streak) moment = record { times = min (streak.times + 1) max_times; since = streak.since }

-- a wagon has this streak, or none; the others have theirs as before
abbrev pub IsWithStreak : (number : List ℕ) → Option Streak → (old new : StreaksValue) → Type 0
IsWithStreak number streak old new =
    (other : List ℕ) → streak_of new other ≡ (if pointwise nat_eq number other then streak else streak_of old other)
