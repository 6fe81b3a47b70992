-- Paths over lines that are turned round.
use Rattle.std.proofs.Common.{◌≡◌, ℕ, List, [], ◌∷◌, ◌++◌, refl, sym, ◌∙◌, ap, subst, arith, Some, None, Option}
use Rattle.std.specs.List.{All, Contains}
use Rattle.std.proofs.lemmas.List.{get_or-map, length-map}
use Rattle.std.proofs.lemmas.List.Elements.{All-map, All-weaker}
use Rattle.std.proofs.lemmas.List.Sums.{sum_by-cons, sum_by_push}
use Rattle.line_network.specs.NetworkLimits.{IsLine}
use Rattle.line_network.specs.declared.line.Line.{Line}
use Rattle.line_network.specs.Walk.{IsPath, km_of, minutes_of}
use Rattle.line_network.specs.inner.Lengths.{Distance}
use Rattle.line_network.specs.inner.Rows.{IsLeastOrNone}
use Rattle.line_network.specs.inner.Turned.{turned, turned_lines}
use Rattle.line_network.proofs.Paths.{IsPath-append}

-- lines turned round twice are the lines
turned_twice : (lines : List Line) → turned_lines (turned_lines lines) ≡ lines
turned_twice [] = refl
turned_twice (l ∷ ls) = ap (λ rest. l ∷ rest) (turned_twice ls)

Contains-turned : (lines : List Line) (l : Line) → Contains lines l → Contains (turned_lines lines) (turned l)
Contains-turned lines l h = (h.0, omega (arith, length-map lines turned, h.1), get_or-map turned lines h.0 l (turned l) h.1 ∙ ap turned h.2)

-- a path run back: its last line first, each line turned
abbrev way_back : List Line → List Line
way_back [] = []
way_back (l ∷ ls) = way_back ls ++ turned l ∷ []

-- it is a path over the turned lines
IsPath-way_back : (lines : List Line) (a b : ℕ) (path : List Line) → IsPath lines a path b → IsPath (turned_lines lines) b (way_back path) a
IsPath-way_back lines a b [] h = sym h
IsPath-way_back lines a b (l ∷ ls) h = IsPath-append (turned_lines lines) b l.to a (way_back ls) (turned l ∷ []) (IsPath-way_back lines l.to b ls h.2) (Contains-turned lines l h.0, refl, h.1)

-- of the same kilometres and minutes
km_of-way_back : (path : List Line) → km_of (way_back path) ≡ km_of path
km_of-way_back [] = refl
km_of-way_back (l ∷ ls) = omega (arith, sum_by_push (λ (m : Line). m.km) (way_back ls) (turned l), sum_by-cons (λ (m : Line). m.km) l ls, km_of-way_back ls)

minutes_of-way_back : (path : List Line) → minutes_of (way_back path) ≡ minutes_of path
minutes_of-way_back [] = refl
minutes_of-way_back (l ∷ ls) = omega (arith, sum_by_push (λ (m : Line). m.minutes) (way_back ls) (turned l), sum_by-cons (λ (m : Line). m.minutes) l ls, minutes_of-way_back ls)

-- so a path over the turned lines, run back, is one over the lines
IsPath-turned_back : (lines : List Line) (a b : ℕ) (path : List Line) → IsPath (turned_lines lines) b path a → IsPath lines a (way_back path) b
IsPath-turned_back lines a b path h = subst (λ (ls : List Line). IsPath ls a (way_back path) b) (turned_twice lines) (IsPath-way_back (turned_lines lines) b a path h)

-- the least pair over the turned lines is that over the lines, the other way
pub IsLeastOrNone-turned : (lines : List Line) (a b : ℕ) (o : Option Distance) → IsLeastOrNone (turned_lines lines) b a o → IsLeastOrNone lines a b o
IsLeastOrNone-turned lines a b None h = λ path leads. h (way_back path) (IsPath-way_back lines a b path leads)
IsLeastOrNone-turned lines a b (Some d) h = record {
  some = record {
    path = way_back h.some.path;
    leads = IsPath-turned_back lines a b h.some.path h.some.leads;
    km = km_of-way_back h.some.path ∙ h.some.km;
    minutes = minutes_of-way_back h.some.path ∙ h.some.minutes;
  };
  least = λ path leads. rw (← km_of-way_back path, ← minutes_of-way_back path) (h.least (way_back path) (IsPath-way_back lines a b path leads));
}

-- the turned lines are between the same places, and of the same lengths
pub All-IsLine-turned : (places : ℕ) (lines : List Line) → All (IsLine places) lines → All (IsLine places) (turned_lines lines)
All-IsLine-turned places lines h = All-map (IsLine places) turned lines (All-weaker (IsLine places) (λ l. IsLine places (turned l)) turned_is_line lines h)
  where
    turned_is_line : (l : Line) → IsLine places l → IsLine places (turned l)
    turned_is_line l k = record {
      from_known = k.to_known;
      to_known = k.from_known;
      some_km = k.some_km;
      most_km = k.most_km;
      some_minutes = k.some_minutes;
      most_minutes = k.most_minutes;
    }
