-- The tokens of JSON values that have no float.
use Rattle.std.specs.Prelude.{ℕ, List, ◌∷◌}
use Rattle.json.specs.Token.{Token, key}
use Rattle.json.specs.Tree.{json_tokens}
use Rattle.serde_json.specs.Data.{Data}
use Rattle.serde_json.specs.Written.{outline}

abbrev pub data_tokens : Data → List Token
data_tokens d = json_tokens (outline d)

-- a member of an object
abbrev pub member_tokens : (name : List ℕ) → Data → List Token
member_tokens name d = key name ∷ data_tokens d
