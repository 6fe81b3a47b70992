-- What holds of every trace.
use Rattle.std.specs.Prelude.{◌≡◌, ℕ, false, List, [], ◌∷◌, ◌++◌}
use Rattle.line_engine.specs.Replies.{ServesLines}
use Rattle.traces.specs.Asked.{row_in}
use Rattle.traces.specs.Steps.{office_of}
use Rattle.traces.specs.Traces.{Follows, TraceValue}
use Rattle.traces.specs.declared.asked_row.AskedRow.{AskedRow}
use Rattle.traces.specs.declared.step.Step.{Step}

-- from one row to another, each step begins with the row with which the step before it ended
abbrev pub LeadTo : (first : AskedRow) → List Step → (last : AskedRow) → Type 0
LeadTo first [] last = first ≡ last
LeadTo first (step ∷ steps) last = (step.before ≡ first) × LeadTo step.after steps last

-- what the office of a trace's book knows
abbrev pub row_now : TraceValue → AskedRow
row_now trace = row_in trace.asked (office_of trace.book)

-- the steps that a trace has more than before lead from the row before to the row now
pub record IsChained (old new : TraceValue) : Type 0 where
  pub added : List Step
  pub steps : new.steps ≡ old.steps ++ added
  pub lead : LeadTo (row_now old) added (row_now new)

-- Over every trace and all lines, unless memory was refused for one of them.
abbrev pub RowsAreChained : Type 0
RowsAreChained =
    (n : ℕ) (old new : TraceValue) (lines : List (List ℕ)) (output : List ℕ) (refusals : ℕ)
    → ServesLines Follows n old lines output refusals new → new.partial ≡ false → IsChained old new
