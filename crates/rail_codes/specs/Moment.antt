-- Moments, as whole seconds, and their texts.
use Rattle.std.specs.Prelude.{◌≡◌, ℕ, ◌+◌, ◌/◌, ◌%◌, ◌≤◌, nat_le, ◌&&◌, if◌then◌else◌, ℤ, pos, negsuc, unsigned_abs, List, [], ◌∷◌, ◌++◌, Result, Ok, Err}
use Rattle.jiff.specs.Types.{DateTime}
use Rattle.jiff.specs.Words.{Error, parse_timestamp, civil_seconds}
use Rattle.rail_codes.specs.declared.code_fault.CodeFault.{CodeFault}
use Rattle.rail_codes.specs.declared.code_fault.CodeFault.TheVariants.{BadMoment, MomentOutOfRange}

-- the first second of the year 2000, in seconds since 1970-01-01T00:00:00Z
abbrev pub first_second : ℕ
first_second = 946_684_800

-- the last second of the year 2099, in seconds since 1970-01-01T00:00:00Z
abbrev pub last_second : ℕ
last_second = 4_102_444_799

-- whole seconds since 1970-01-01T00:00:00Z, within these limits
abbrev pub IsMoment : ℕ → Type 0
IsMoment seconds = (first_second ≤ seconds) × (seconds ≤ last_second)

-- a number of seconds as a moment, or the fault
abbrev pub moment_of_seconds : ℕ → Result ℕ CodeFault
moment_of_seconds seconds =
    if nat_le first_second seconds && nat_le seconds last_second then Ok seconds else Err MomentOutOfRange

-- the whole second at or below an instant, which is told in nanoseconds; one before 1970 is out of range
abbrev pub moment_of_instant : ℤ → Result ℕ CodeFault
moment_of_instant (pos nanoseconds) = moment_of_seconds (nanoseconds / 1_000_000_000)
moment_of_instant (negsuc n) = Err MomentOutOfRange

-- the moment of what `jiff` read
abbrev pub moment_of_reading : Result ℤ Error → Result ℕ CodeFault
moment_of_reading (Ok nanoseconds) = moment_of_instant nanoseconds
moment_of_reading (Err e) = Err BadMoment

-- what a text is read as: the moment of the instant that `jiff` reads in it, or the first fault
unfoldable pub moment_of : List ℕ → Result ℕ CodeFault
moment_of text = moment_of_reading (parse_timestamp text)

-- a number below 100 in two decimal digits
abbrev pub two_digits : ℕ → List ℕ
two_digits n = (48 + n / 10) ∷ (48 + n % 10) ∷ []

-- YYYY-MM-DDThh:mm:ssZ
unfoldable pub clock_text : DateTime → List ℕ
clock_text shown =
    let year = unsigned_abs shown.date.year in
    two_digits (year / 100) ++ two_digits (year % 100) ++ 45 ∷ two_digits shown.date.month ++ 45 ∷ two_digits shown.date.day
    ++ 84 ∷ two_digits shown.time.hour ++ 58 ∷ two_digits shown.time.minute ++ 58 ∷ two_digits shown.time.second ++ 90 ∷ []

-- the text of the date and time that a clock in UTC shows at a moment, whose year has no sign
abbrev pub IsMomentText : ℕ → List ℕ → Type 0
IsMomentText seconds text =
    (shown : DateTime) × (civil_seconds shown ≡ pos seconds) × (text ≡ clock_text shown)

-- a text and behind it that of a moment, which is read as that moment
abbrev pub AddsMoment : ℕ → (before after : List ℕ) → Type 0
AddsMoment seconds before after =
    (added : List ℕ) × (after ≡ before ++ added) × IsMomentText seconds added × (moment_of added ≡ Ok seconds)
