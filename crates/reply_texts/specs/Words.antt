-- Words of a line, which are parted by one space.
use Rattle.std.specs.Prelude.{◌≡◌, ℕ, List, ◌∷◌}
use Rattle.rail_codes.specs.Moment.{IsMomentText}

-- a word behind a space
abbrev pub next_word : List ℕ → List ℕ
next_word word = 32 ∷ word

-- a moment behind a space
pub record IsMomentWord (seconds : ℕ) (word : List ℕ) : Type 0 where
  pub text : List ℕ
  pub moment : IsMomentText seconds text
  pub whole : word ≡ next_word text
