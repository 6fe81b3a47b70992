-- The manual as text.
use Rattle.std.specs.Prelude.{◌≡◌, ℕ, List, ◌∷◌, ◌++◌, Contains, codes, decimal}
use Rattle.std.specs.Io.{StartsWith}
use Rattle.std.specs.List.{AllZip, flat_map}
use Rattle.faults.specs.RefusalNumbers.{refusals}

-- the heading of a refusal of this number and name
abbrev pub heading : ℕ → List ℕ → List ℕ
heading number name = codes "## " ++ decimal number ++ codes " " ++ name ++ codes "\n"

-- an entry is that of a refusal, its number and its name, where it begins with its heading
abbrev pub IsEntryOf : (refusal : ℕ × List ℕ) (entry : List ℕ) → Type 0
IsEntryOf refusal entry = StartsWith entry (heading refusal.0 refusal.1)

-- an entry is that of a number where it is that of the listed refusal of this number
abbrev pub IsEntryFor : (number : ℕ) (entry : List ℕ) → Type 0
IsEntryFor number entry = (refusal : ℕ × List ℕ) × Contains refusals refusal × (refusal.0 ≡ number) × IsEntryOf refusal entry

-- what stands above the entries
abbrev pub preface : List ℕ
preface =
    codes "# Refusals\n\n"
    ++ codes "Each refusal has a number. A reply has it after the line's number, as\n"
    ++ codes "`20 refused 25 wagon 12`, and standard error after the program's name, as\n"
    ++ codes "`wagons: 41 17`. Where an entry doesn't say otherwise, nothing has changed. The\n"
    ++ codes "manual of lines, replies and files is FORMATS.md.\n\n"
    ++ codes "`wagons explain` prints this page, and `wagons explain 25` one entry of it. What\n"
    ++ codes "is said of `run` holds too of `map`, `moves`, `fleet`, `orders`, `trace`,\n"
    ++ codes "`plan`, `table`, `why`, `review` and `save`, which print no replies.\n"

-- a text: the preface, and then an entry of each of these refusals, in their order, each after an empty line
pub record HasEntries (listed : List (ℕ × List ℕ)) (text : List ℕ) : Type 0 where
  pub entries : List (List ℕ)
  pub each : AllZip IsEntryOf listed entries
  pub whole : text ≡ preface ++ flat_map (λ entry. 10 ∷ entry) entries

-- the whole manual has an entry of each refusal
abbrev pub IsManual : List ℕ → Type 0
IsManual text = HasEntries refusals text
