-- What a word of the program reads and prints.
use Rattle.std.specs.Prelude.{◌≡◌, ◌⊎◌, ℕ, List, Option, None}
use Rattle.std.specs.Io.KnownBytes.{Appends, Keeps}
use Rattle.office_files.specs.declared.stop.Stop.{Stop}
use Rattle.office_files.specs.declared.stop.Stop.TheVariants.{WriteFailed}

-- The bytes of the input, and what the output held before the word and holds after it, where they are known.
pub record Streams : Type 0 where
  pub input : Option (List ℕ)
  pub held : Option (List ℕ)
  pub holds : Option (List ℕ)

abbrev pub streams : (input held holds : Option (List ℕ)) → Streams
streams input held holds = record { input = input; held = held; holds = holds }

-- the same where replies go to nobody
abbrev pub without_output : Streams → Streams
without_output given = streams given.input None None

-- this text was printed, and nothing else
abbrev pub Prints : Streams → (text : List ℕ) → Type 0
Prints given text = Appends given.held given.holds text

-- nothing was printed
abbrev pub PrintsNothing : Streams → Type 0
PrintsNothing given = Keeps given.held given.holds

-- why a text wasn't printed: the output couldn't be written; or another reason, and then nothing was
abbrev pub IsUnprinted : Streams → (why : Stop) → Type 0
IsUnprinted given why = (why ≡ WriteFailed) ⊎ PrintsNothing given
