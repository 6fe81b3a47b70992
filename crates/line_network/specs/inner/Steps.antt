-- Lines without the place where they begin.
use Rattle.std.specs.Prelude.{◌≡◌, ℕ, List, Contains}
use Rattle.line_network.specs.declared.line.Line.{Line}
use Rattle.line_network.specs.declared.step.Step.{Step}
use Rattle.line_network.specs.inner.Lengths.{distance_of, length_of}

-- a line without the place where it begins, and with it again
abbrev pub step_along : Line → Step
step_along l = record { to = l.to; length = length_of l.km l.minutes }

abbrev pub line_from : ℕ → Step → Line
line_from place s = record { from = place; to = s.to; km = (distance_of s.length).km; minutes = (distance_of s.length).minutes }

-- the step of a line from a place
pub record IsStepFrom (lines : List Line) (place : ℕ) (s : Step) : Type 0 where
  pub line : Line
  pub has : Contains lines line
  pub from : line.from ≡ place
  pub same : s ≡ step_along line
