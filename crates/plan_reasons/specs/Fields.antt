-- How a line is written: as words parted by one space, or as a JSON object without spaces. Either way it is what it says first,
-- then fields, each a name and a value, and a line feed.
use Rattle.std.specs.Prelude.{ℕ, List, [], ◌∷◌, ◌++◌, codes}
use Rattle.text_tables.specs.JsonRows.{json_text}
use Rattle.plan_reasons.specs.declared.style.Style.{Style}
use Rattle.plan_reasons.specs.declared.style.Style.TheVariants.{Text, Json}

-- what stands before the first value: a word, or the name of the first member
abbrev pub opening : Style → (name : List ℕ) → List ℕ
opening Text name = name ++ 32 ∷ []
opening Json name = 123 ∷ 34 ∷ (name ++ 34 ∷ 58 ∷ [])

-- what stands before a later value: in a text of words it has no name
abbrev pub naming : Style → (name : List ℕ) → List ℕ
naming Text name = 32 ∷ []
naming Json name = 44 ∷ 34 ∷ (name ++ 34 ∷ 58 ∷ [])

-- what ends a line
abbrev pub ending : Style → List ℕ
ending Text = 10 ∷ []
ending Json = 125 ∷ 10 ∷ []

-- a name or a moment: as it is, or as JSON has a text
abbrev pub quoted : Style → (word : List ℕ) → List ℕ
quoted Text word = word
quoted Json word = json_text word

-- the value where there is none
abbrev pub nothing : Style → List ℕ
nothing Text = codes "-"
nothing Json = codes "null"

-- what a line is, with its first value
abbrev pub first_field : Style → (name value : List ℕ) → List ℕ
first_field style name value = opening style name ++ value

-- a later value
abbrev pub field : Style → (name value : List ℕ) → List ℕ
field style name value = naming style name ++ value
