-- The name in an entry, and the entries of a name, as far as numbers were tried.
use Rattle.std.specs.Prelude.{◌≡◌, ◌<◌, ℕ, Bool, List, Option, Some, Contains}
use Rattle.std.specs.List.{All, Any}
use Rattle.std.specs.Str.{bytes_eq}
use Rattle.command_line.specs.Explained.{IsNamedEntry}
use Rattle.command_line.specs.Values.{Text}
use Rattle.faults.specs.Manual.{IsEntryOf}
use Rattle.faults.specs.RefusalNumbers.{refusals}

-- the name in the entry of a refusal is the refusal's
abbrev pub HasNameOf : (entry : Text) → (name : Option Text) → Type 0
HasNameOf entry name = (refusal : ℕ × List ℕ) → Contains refusals refusal → IsEntryOf refusal entry → name ≡ Some refusal.1

-- whether it is this name
abbrev pub SaysName : (entry name : Text) → Bool → Type 0
SaysName entry name says = (refusal : ℕ × List ℕ) → Contains refusals refusal → IsEntryOf refusal entry → says ≡ bytes_eq refusal.1 name

-- each is the entry of a refusal of this name, and each such refusal with a number below `end` has its entry among them
pub record AreNamedBelow (name : Text) (end : ℕ) (entries : List Text) : Type 0 where
  pub each : All (λ entry. (number : ℕ) × IsNamedEntry number name entry) entries
  pub below : (refusal : ℕ × List ℕ) → Contains refusals refusal → refusal.1 ≡ name → refusal.0 < end → Any (λ entry. IsEntryOf refusal entry) entries
