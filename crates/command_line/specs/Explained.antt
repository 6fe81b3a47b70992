-- What `explain` is asked for.
use Rattle.std.specs.Prelude.{◌≡◌, ◌<◌, ◌^◌, ℕ, List, [], ◌∷◌, codes, None, Contains, IsSomeAnd}
use Rattle.std.specs.List.{All, Any}
use Rattle.std.specs.Str.Parse.{IsNumeral, without_leading_plus}
use Rattle.command_line.specs.Values.{Given, Text, all_lent, number_in, value_of}
use Rattle.command_line.specs.declared.explained.Explained.{Explained}
use Rattle.command_line.specs.declared.explained.Explained.TheVariants.{Manual, Entries}
use Rattle.faults.specs.Manual.{IsEntryFor, IsEntryOf}
use Rattle.faults.specs.RefusalNumbers.{refusals}

-- a whole number of 32 bits, behind a plus or not
abbrev pub IsNumberText : Text → Type 0
IsNumberText text = IsNumeral 10 (without_leading_plus text) × (number_in text < 2 ^ 32)

-- a refusal of this number has this name
abbrev pub HasName : (number : ℕ) (name : Text) → Type 0
HasName number name = (refusal : ℕ × List ℕ) × Contains refusals refusal × (refusal.0 ≡ number) × (refusal.1 ≡ name)

-- and this is its entry
abbrev pub IsNamedEntry : (number : ℕ) (name entry : Text) → Type 0
IsNamedEntry number name entry =
    (refusal : ℕ × List ℕ) × Contains refusals refusal × (refusal.0 ≡ number) × (refusal.1 ≡ name) × IsEntryOf refusal entry

-- each is the entry of a refusal of this name, and each such refusal has its entry among them
pub record AreEntriesNamed (name : Text) (entries : List Text) : Type 0 where
  pub each : All (λ entry. (number : ℕ) × IsNamedEntry number name entry) entries
  pub all : (refusal : ℕ × List ℕ) → Contains refusals refusal → refusal.1 ≡ name → Any (λ entry. IsEntryOf refusal entry) entries

-- the entry of this number, and no other
abbrev pub IsEntryAlone : (number : ℕ) (entries : List Text) → Type 0
IsEntryAlone number entries = (entry : Text) × (entries ≡ entry ∷ []) × IsEntryFor number entry

-- of a number the entry of the refusal that has it; of another text the entries of those that have this name
pub record AreEntriesFor (code : Text) (entries : List Text) : Type 0 where
  pub of_a_number : IsNumberText code → IsEntryAlone (number_in code) entries
  pub of_a_name : (IsNumberText code → ⊥) → AreEntriesNamed code entries

-- the whole manual, or the entries for the code that is given
abbrev pub IsExplained : Given → Explained → Type 0
IsExplained given Manual = value_of (codes "code") given ≡ None
IsExplained given (Entries entries) = IsSomeAnd (value_of (codes "code") given) (λ code. AreEntriesFor code (all_lent entries.items))
