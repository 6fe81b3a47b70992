-- How a moment is shown: in UTC in the form of a moment, or as the clocks of a time zone show it, with their offset from UTC.
use Rattle.std.specs.Prelude.{◌≡◌, ◌*◌, ◌+ℤ◌, ℕ, ℤ, pos, List, ◌++◌, Option, Some, None}
use Rattle.jiff_core.specs.declared.civil.datetime.DateTime.{DateTime}
use Rattle.jiff.specs.Words.{civil_nanos, iso_datetime_text, nanos_of_seconds, offset_at, offset_text, plain_zone}
use Rattle.jiff.specs.Types.{Offset}
use Rattle.jiff.specs.declared.tz.timezone.TimeZone.{TimeZone}
use Rattle.rail_codes.specs.Moment.{IsMomentText}
use Rattle.text_tables.specs.declared.clock.Clock.{Clock}

-- the nanosecond of a moment
abbrev pub nanosecond_of : (seconds : ℕ) → ℤ
nanosecond_of seconds = pos (seconds * 1_000_000_000)

-- the text of a moment at a place whose clocks keep a time zone: what they show, and how far that is from UTC
pub record IsLocalText (zone : TimeZone) (seconds : ℕ) (text : List ℕ) : Type 0 where
  pub offset : Offset
  pub in_force : offset.seconds ≡ offset_at (plain_zone zone) (nanosecond_of seconds)
  pub shown : DateTime
  pub on_clocks : civil_nanos shown ≡ nanosecond_of seconds +ℤ nanos_of_seconds offset.seconds
  pub whole : text ≡ iso_datetime_text shown ++ offset_text offset

abbrev pub IsShownBy : Option TimeZone → (seconds : ℕ) → (text : List ℕ) → Type 0
IsShownBy None seconds text = IsMomentText seconds text
IsShownBy (Some zone) seconds text = IsLocalText zone seconds text

abbrev pub IsShown : Clock → (seconds : ℕ) → (text : List ℕ) → Type 0
IsShown clock seconds text = IsShownBy clock.zone seconds text
