-- The clock by which a plan shows moments, by the time zone that is asked for.
use Rattle.std.specs.Prelude.{◌≡◌, ◌⊎◌, ◌++◌, ℕ, List, Option, Some, None, Ok, IfSome, codes, option_map, take}
use Rattle.jiff.specs.Words.{IsInserted, IsLookedUp, plain_database, plain_zone}
use Rattle.jiff.specs.declared.tz.db.TimeZoneDatabase.{TimeZoneDatabase}
use Rattle.jiff.specs.declared.tz.timezone.TimeZone.{TimeZone}
use Rattle.jiff_core.specs.declared.error.Error.{Error}
use Rattle.jiff_core.specs.declared.error.Error.TheVariants as zone_error
use Rattle.office_files.specs.InFile.{BytesAt}
use Rattle.office_files.specs.declared.stop.Stop.{Stop}
use Rattle.office_files.specs.declared.stop.Stop.TheVariants as stop
use Rattle.text_tables.specs.declared.clock.Clock.{Clock}
use Rattle.last_texts.specs.declared.zone.ZoneFile.{ZoneFile}

-- where the file of a zone is, by the zone's name
abbrev pub zone_path : (name : List ℕ) → List ℕ
zone_path name = codes "/usr/share/zoneinfo/" ++ name

-- the most bytes of a zone's file that are read
abbrev pub max_zone_bytes : ℕ
max_zone_bytes = 1048576

-- what was read of the file of the zone that is asked for, where its bytes are known
abbrev pub AreZoneBytes : BytesAt → (asked : Option (List ℕ)) → (bytes : List ℕ) → Type 0
AreZoneBytes bytes_at None bytes = Unit {0}
AreZoneBytes bytes_at (Some name) bytes = IfSome (bytes_at (zone_path name)) (λ known. bytes ≡ take max_zone_bytes known)

-- in this database the name was given the zone that these bytes are read as
abbrev pub HasZone : TimeZoneDatabase → (name bytes : List ℕ) → Type 0
HasZone database name bytes = (before : TimeZoneDatabase) × IsInserted (plain_database before) (plain_database database) name bytes

-- the same for the option: nothing is read where no zone is asked for
abbrev pub HasZoneFor : TimeZoneDatabase → (asked : Option (List ℕ)) → (bytes : List ℕ) → Type 0
HasZoneFor database None bytes = Unit {0}
HasZoneFor database (Some name) bytes = HasZone database name bytes

-- the name of a zone that was read; none for UTC
abbrev pub name_of : ZoneFile → Option (List ℕ)
name_of zone = option_map (λ text. text.now) zone.name

-- the zone that is asked for was read, from the bytes that it keeps
pub record IsReadFor (asked : Option (List ℕ)) (zone : ZoneFile) : Type 0 where
  pub name : name_of zone ≡ asked
  pub read : HasZoneFor zone.database asked zone.bytes.items

-- The zone of a name: what `jiff` finds under it where the zone of these bytes was put. So `UTC` and `Etc/Unknown` are what they are
-- by name, and another is what the bytes say.
pub record IsZoneNamed (name bytes : List ℕ) (zone : TimeZone) : Type 0 where
  pub database : TimeZoneDatabase
  pub read : HasZone database name bytes
  pub found : IsLookedUp (plain_database database) name (Ok (plain_zone zone))

-- the clock for the option and the bytes of the zone's file: UTC where no zone is asked for
abbrev pub IsClockFor : (asked : Option (List ℕ)) → (bytes : List ℕ) → Clock → Type 0
IsClockFor None bytes clock = clock.zone ≡ None
IsClockFor (Some name) bytes clock = (zone : TimeZone) × IsZoneNamed name bytes zone × (clock.zone ≡ Some zone)

-- why the program stops where `jiff` refuses a zone
abbrev pub stop_for : Error → Stop
stop_for zone_error.OutOfMemory = stop.OutOfMemory
stop_for error = stop.OpenFailed

-- why moments can't be shown in a time zone: memory was refused, or it can't be read or looked up
abbrev pub IsNoClock : (why : Stop) → Type 0
IsNoClock why = (why ≡ stop.OutOfMemory) ⊎ (why ≡ stop.OpenFailed)
