-- The tokens of a note's front.
use Rattle.std.specs.Prelude.{ℕ, List, ◌∷◌, [], ◌++◌, Option, Some, None, codes}
use Rattle.json.specs.Token.{Token, begin_object}
use Rattle.line_fields.specs.Written.{number_data}
use Rattle.line_fields.specs.WrittenTokens.{member_tokens}
use Rattle.serde_json.specs.Data.{string}

-- the member of a file, where there is one
abbrev pub file_tokens : (file : Option ℕ) → List Token
file_tokens None = []
file_tokens (Some number) = member_tokens (codes "file") (number_data number)

-- the beginning of the object, the numbers of the file and of the line, and the word
abbrev pub front_tokens : (file : Option ℕ) → (line : ℕ) → (word : List ℕ) → List Token
front_tokens file line word = ((begin_object ∷ [] ++ file_tokens file) ++ member_tokens (codes "line") (number_data line)) ++ member_tokens (codes "note") (string word)
