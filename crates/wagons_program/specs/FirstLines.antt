-- The first lines of an input.
use Rattle.std.specs.Prelude.{◌≡◌, ℕ, ◌-◌, ◌==◌, if◌then◌else◌, List, [], ◌∷◌, Option, Some, None, option_map, take}
use Rattle.line_engine.specs.Lines.{line_feed, lines_of}

-- the bytes up to the line feed that ends so many lines, with it; all of them where there are fewer
abbrev pub first_lines : List ℕ → (count : ℕ) → List ℕ
first_lines [] count = []
first_lines (c ∷ bytes) count = if count == 0 then [] else c ∷ first_lines bytes (if c == line_feed then count - 1 else count)

-- these bytes have the first lines of the input, so many of them, and no other
abbrev pub AreTheFirstLines : Type 0
AreTheFirstLines = (bytes : List ℕ) (count : ℕ) → lines_of (first_lines bytes count) ≡ take count (lines_of bytes)

-- an input up to so many lines, where they are counted
abbrev pub input_upto : (lines : Option ℕ) → (input : Option (List ℕ)) → Option (List ℕ)
input_upto None input = input
input_upto (Some count) input = option_map (λ bytes. first_lines bytes count) input
