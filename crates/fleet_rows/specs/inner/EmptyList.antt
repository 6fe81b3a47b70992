-- How the type of the wagons' rows keeps the empty ones that nobody holds: a list of where their rows are, in the order
-- of place, class and number.
use Rattle.std.specs.Prelude.{◌≡◌, ◌≤◌, ℕ, Bool, false, nat_eq, not, if◌then◌else◌, List, length, count_by, Option, Some, None, is_some, option_map, slice_get}
use Rattle.std.specs.Cmp.Lexicographic.{slice_cmp}
use Rattle.std.specs.List.{filter, list_any}
use Rattle.std.specs.List.Sorted.{IsStrictlySortedBy}
use Rattle.std.specs.Option.{option_cmp}
use Rattle.std.specs.Ordering.{is_lt, nat_cmp, ordering_then}
use Rattle.std.specs.declared.cmp.Ordering.{Ordering}
use Rattle.wagons_and_orders.specs.StatusTable.{place_of}
use Rattle.wagons_and_orders.specs.declared.wagon_row.WagonRow.{WagonRow}
use Rattle.fleet_rows.specs.EmptyWagons.{is_empty}
use Rattle.fleet_rows.specs.declared.empty_wagons.Stand.{Stand}

-- where a row's wagon is, and its class
abbrev pub stand_of : WagonRow → Stand
stand_of row = record { place = place_of row.status; class = row.class }

-- that of an empty wagon that nobody holds
abbrev pub empty_stand : WagonRow → Option Stand
empty_stand row = if is_empty row then Some (stand_of row) else None

-- by place, then by class
abbrev pub compare_stands : Stand → Stand → Ordering
compare_stands a b = ordering_then (slice_cmp nat_cmp a.place b.place) (slice_cmp nat_cmp a.class b.class)

-- where the row at an index is in the order: by its wagon's place and class, then by the index, so by number
abbrev pub key_at : List WagonRow → ℕ → Option Stand × ℕ
key_at rows index = (option_map stand_of (slice_get rows index), index)

abbrev pub compare_keys : Option Stand × ℕ → Option Stand × ℕ → Ordering
compare_keys a b = ordering_then (option_cmp compare_stands a.0 b.0) (nat_cmp a.1 b.1)

abbrev pub compare_indexes : List WagonRow → ℕ → ℕ → Ordering
compare_indexes rows a b = compare_keys (key_at rows a) (key_at rows b)

-- whether another row comes before one at this index whose wagon stands so
abbrev pub is_before : List WagonRow → Stand → ℕ → ℕ → Bool
is_before rows stand index other = is_lt (compare_keys (key_at rows other) (Some stand, index))

-- of a list, what isn't before the first index of a class and a place, but before the end of the rows there
abbrev pub standing_so : List WagonRow → Stand → List ℕ → List ℕ
standing_so rows stand indexes = filter (is_before rows stand (length rows)) (filter (λ other. not (is_before rows stand 0 other)) indexes)

-- whether there is a row at an index, and its wagon is empty and nobody holds it
abbrev pub is_empty_row : Option WagonRow → Bool
is_empty_row None = false
is_empty_row (Some row) = is_empty row

-- whether there is a row at an index, and its wagon isn't promised
abbrev pub is_unpromised : Option WagonRow → Bool
is_unpromised None = false
is_unpromised (Some row) = not (is_some row.promise)

-- whether an index is on a list
abbrev pub is_on : List ℕ → ℕ → Bool
is_on indexes index = list_any (nat_eq index) indexes

-- the indexes of those rows, each once, in this order, with room for all rows
pub record AreListed (rows : List WagonRow) (indexes : List ℕ) (room : ℕ) : Type 0 where
  pub ascending : IsStrictlySortedBy (compare_indexes rows) indexes
  pub exactly : (index : ℕ) → is_on indexes index ≡ is_empty_row (slice_get rows index)
  pub counted : length indexes ≡ count_by is_empty rows
  pub room_for_all : length rows ≤ room
