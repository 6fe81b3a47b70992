-- A place in a line, with its name behind it where names are asked for.
use Rattle.std.specs.Prelude.{ℕ, List, [], ◌++◌, Option, Some, None, option_map}
use Rattle.place_names.specs.Names.{name_of}
use Rattle.place_names.specs.declared.named_place.NamedPlace.{NamedPlace}
use Rattle.plan_reasons.specs.declared.line_form.LineForm.{LineForm}
use Rattle.plan_reasons.specs.declared.style.Style.{Style}
use Rattle.plan_reasons.specs.Fields.{field, quoted}
use Rattle.text_tables.specs.JsonRows.{json_text}

-- the names of places, where they are asked for
abbrev pub names_of : LineForm → Option (List NamedPlace)
names_of form = option_map (λ places. places.now) form.names

-- The name of a place, in a text of words too as JSON has it, so that a name of several words is one value; two quotation marks
-- where the place has none. Only its quotation marks and backslashes are escaped, since it has no control character.
abbrev pub name_field : Style → Option (List NamedPlace) → (name place : List ℕ) → List ℕ
name_field style None name place = []
name_field style (Some places) name place = field style name (json_text (name_of places place))

-- a place, and its name
abbrev pub place_field : Style → Option (List NamedPlace) → (code name place : List ℕ) → List ℕ
place_field style names code name place = field style code (quoted style place) ++ name_field style names name place
