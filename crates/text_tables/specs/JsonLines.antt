-- Lines of JSON: what a line reads as, by the grammar of RFC 8259 as the crate `json` has it.
use Rattle.std.specs.Prelude.{◌≡◌, ℕ, nat_le, Bool, true, List, [], ◌∷◌, ◌++◌, Some}
use Rattle.std.specs.List.{AllByRecursion, AllZip, concat, list_all}
use Rattle.json.specs.Json.{Json, Members, no_members, member, object, document}

-- a member of an object: its name and its value
abbrev pub Member : Type 0
Member = List ℕ × Json

-- members in their order
abbrev pub members_of : List Member → Members
members_of [] = no_members
members_of (m ∷ ms) = member m.0 m.1 (members_of ms)

-- a byte that is no control character: these are the bytes below 32, among them the line feed
abbrev pub is_no_control : ℕ → Bool
is_no_control byte = nat_le 32 byte

-- A line that is an object with these members, and a line feed at its end. No other control character stands in it, so no
-- other line feed.
pub record IsObjectLine (members : List Member) (line : List ℕ) : Type 0 where
  pub text : List ℕ
  pub ended : line ≡ text ++ 10 ∷ []
  pub reads : document text ≡ Some (object (members_of members))
  pub single : list_all is_no_control text ≡ true

-- a text of one such line for each of these things, in their order
pub record AreObjectLines {A : Type 0} (members : A → List Member) (things : List A) (text : List ℕ) : Type 0 where
  pub lines : List (List ℕ)
  pub each : AllZip (λ thing line. IsObjectLine (members thing) line) things lines
  pub whole : text ≡ concat lines

-- a line that is an object, whatever its members
abbrev pub IsAnObject : (line : List ℕ) → Type 0
IsAnObject line = (members : List Member) × IsObjectLine members line

-- a text of such lines alone
pub record AreObjects (text : List ℕ) : Type 0 where
  pub lines : List (List ℕ)
  pub each : AllByRecursion IsAnObject lines
  pub whole : text ≡ concat lines
