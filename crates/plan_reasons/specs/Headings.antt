-- Headings: in a text of words a line that begins with # stands before the first line of each kind, and names the line's words.
use Rattle.std.specs.Prelude.{◌==◌, if◌then◌else◌, ℕ, List, [], ◌∷◌, ◌++◌, codes, Option, Some, None}
use Rattle.place_names.specs.declared.named_place.NamedPlace.{NamedPlace}
use Rattle.plan_reasons.specs.declared.numbers.Numbers.{Numbers}
use Rattle.plan_reasons.specs.declared.numbers.Numbers.TheVariants.{Exact, Bounds}
use Rattle.plan_reasons.specs.declared.reasons.Test.{Test}
use Rattle.plan_reasons.specs.declared.reasons.Test.TheVariants.{Class, Load, Way, InTime, Cheaper}
use Rattle.plan_reasons.specs.declared.style.Style.{Style}
use Rattle.plan_reasons.specs.declared.style.Style.TheVariants.{Text, Json}

-- JSON has none
abbrev pub heading : Style → (columns : List ℕ) → List ℕ
heading Text columns = codes "# " ++ columns ++ 10 ∷ []
heading Json columns = []

-- before so many lines; it isn't there where there is none
abbrev pub heading_over : Style → (columns : List ℕ) → (lines : ℕ) → List ℕ
heading_over style columns lines = if lines == 0 then [] else heading style columns

-- ---- what the words of a line are

abbrev pub why_columns : List ℕ
why_columns = codes "why version free orders cost go stay miss"

abbrev pub order_columns : Numbers → List ℕ
order_columns Exact = codes "order name lacks gets misses class load way time cheaper more less further"
order_columns Bounds = codes "order name lacks gets misses class load way time cheaper price further"

abbrev pub wagon_columns : List ℕ
wagon_columns = codes "wagon number order km arrival without"

abbrev pub stays_columns : List ℕ
stays_columns = codes "stays number"

abbrev pub fits_columns : List ℕ
fits_columns = codes "fits number name km more"

-- of the line that counts the wagons of classes that an order doesn't list
abbrev pub counted_columns : List ℕ
counted_columns = codes "class count name classes"

abbrev pub way_columns : (names : Option (List NamedPlace)) → List ℕ
way_columns None = codes "way number name from to"
way_columns (Some places) = codes "way number name from from_name to to_name"

-- of the lines of wagons by the test that they fail
abbrev pub test_columns : (names : Option (List NamedPlace)) → Test → List ℕ
test_columns names Class = codes "class number name class classes"
test_columns names Load = codes "load number name limit load"
test_columns names Way = way_columns names
test_columns names InTime = codes "late number name arrival latest"
test_columns names Cheaper = codes "costly number name km penalty"
