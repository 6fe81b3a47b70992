-- What holds of the last line of every journal.
use Rattle.std.specs.Prelude.{◌≡◌, ◌⊎◌, ℕ, ◌+◌, true, false, List, ◌∷◌, ◌++◌, length, All}
use Rattle.line_engine.specs.Lines.{is_blank}
use Rattle.line_engine.specs.Replies.{ServesLines}
use Rattle.line_plans.specs.PlanLines.{BeginsPlans, IsTaken, LinesValue}

abbrev pub IsBlank : List ℕ → Type 0
IsBlank line = is_blank line ≡ true

-- of lines, numbered from n on, the last that isn't blank has this number and these bytes
pub record IsLastLine (n : ℕ) (lines : List (List ℕ)) (number : ℕ) (bytes : List ℕ) : Type 0 where
  pub before : List (List ℕ)
  pub after : List (List ℕ)
  pub whole : lines ≡ before ++ bytes ∷ after
  pub number_is : number ≡ n + length before
  pub not_blank : is_blank bytes ≡ false
  pub blank : All IsBlank after

-- the last line that isn't blank has the number that is said, and is brought to the book to which the lines before it have led
pub record EndsWithLine (n : ℕ) (old : LinesValue) (lines : List (List ℕ)) (new : LinesValue) : Type 0 where
  pub bytes : List ℕ
  pub last : IsLastLine n lines new.line bytes
  pub mid : LinesValue
  pub output : List ℕ
  pub refusals : ℕ
  pub led : ServesLines BeginsPlans n old last.before output refusals mid
  pub taken : IsTaken new.line mid bytes new

-- Over all lines, unless memory was refused for one of them: they are blank, or one is the last that isn't.
abbrev pub LastLineIsTaken : Type 0
LastLineIsTaken =
    (n : ℕ) (old new : LinesValue) (lines : List (List ℕ)) (output : List ℕ) (refusals : ℕ)
    → ServesLines BeginsPlans n old lines output refusals new → new.partial ≡ false
    → ((new ≡ old) × All IsBlank lines) ⊎ EndsWithLine n old lines new
