-- The wagons of refused messages that a file notes.
use Rattle.std.specs.Prelude.{◌≡◌, ◌||◌, ℕ, Bool, true, false, nat_eq, List, []}
use Rattle.std.specs.BTreeMap.{is_at}
use Rattle.std.specs.Cmp.Lexicographic.{pointwise, slice_cmp}
use Rattle.std.specs.List.{list_any}
use Rattle.std.specs.Ordering.{nat_cmp}
use Rattle.sessions.specs.Crossings.{is_out_of_step}
use Rattle.sessions.specs.declared.feed_lines.Counted.{Counted}

-- the wagons, ascending, and whether memory was refused for one
pub record RefusedWagonsValue : Type 0 where
  pub wagons : List (List ℕ)
  pub is_lost : Bool

abbrev pub no_wagon : RefusedWagonsValue
no_wagon = record { wagons = []; is_lost = false }

-- whether a wagon is there
abbrev pub has_wagon : (wagon : List ℕ) → RefusedWagonsValue → Bool
has_wagon wagon refused = list_any (is_at (slice_cmp nat_cmp wagon)) refused.wagons

-- Those that a test finds are noted behind the others, where memory is to be had for each.
pub record AreNoted (more : (wagon : List ℕ) → Bool) (old new : RefusedWagonsValue) : Type 0 where
  pub only : (wagon : List ℕ) → has_wagon wagon new ≡ true → (more wagon || has_wagon wagon old) ≡ true
  pub kept : new.is_lost ≡ false → old.is_lost ≡ false
  pub all : new.is_lost ≡ false → (wagon : List ℕ) → (more wagon || has_wagon wagon old) ≡ true → has_wagon wagon new ≡ true

-- one wagon
abbrev pub IsNotedBehind : (wagon : List ℕ) → (old new : RefusedWagonsValue) → Type 0
IsNotedBehind wagon old new = AreNoted (λ other. pointwise nat_eq other wagon) old new

-- those of lines that count so
abbrev pub AreNotedBy : List Counted → (old new : RefusedWagonsValue) → Type 0
AreNotedBy counts old new = AreNoted (λ wagon. list_any (is_out_of_step wagon) counts) old new
