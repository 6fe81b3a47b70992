-- What a trace has come to, and what a line adds to it.
use Rattle.std.specs.Prelude.{◌≡◌, ◌⊎◌, ℕ, Bool, true, false, List, [], Option}
use Rattle.commit_book.specs.Books.{BookValue}
use Rattle.traces.specs.Steps.{TracesLine, with_step}
use Rattle.traces.specs.declared.asked.Asked.{Asked}
use Rattle.traces.specs.declared.step.Step.{Step}

-- What a trace has come to: the book; what is asked for, which stays; the steps, in the order of their lines; and whether memory
-- was refused for a line.
pub record TraceValue : Type 0 where
  pub book : BookValue
  pub asked : Asked
  pub steps : List Step
  pub partial : Bool

-- of a book, before the first line
abbrev pub first_trace : BookValue → Asked → TraceValue
first_trace book asked = record { book = book; asked = asked; steps = []; partial = false }

-- a line is brought to the book, and the trace has one step more where the line adds one
pub record IsFollowed (line : ℕ) (old : TraceValue) (bytes : List ℕ) (new : TraceValue) : Type 0 where
  pub shown : Option Step
  pub traces : TracesLine line old.asked old.book bytes shown new.book
  pub steps : new.steps ≡ with_step old.steps shown
  pub asked : new.asked ≡ old.asked
  pub whole : new.partial ≡ false

-- memory was refused for a line
pub record IsCutOff (old new : TraceValue) : Type 0 where
  pub partial : new.partial ≡ true
  pub asked : new.asked ≡ old.asked
  pub setting : new.book.setting ≡ old.book.setting

-- a partial trace follows no line
abbrev pub FollowsWhere : (partial : Bool) → (line : ℕ) → TraceValue → (bytes : List ℕ) → TraceValue → Type 0
FollowsWhere true line old bytes new = new ≡ old
FollowsWhere false line old bytes new = IsFollowed line old bytes new ⊎ IsCutOff old new

abbrev pub FollowsLine : (line : ℕ) → TraceValue → (bytes : List ℕ) → TraceValue → Type 0
FollowsLine line old bytes new = FollowsWhere old.partial line old bytes new

-- What a trace replies to a line that isn't blank: nothing.
abbrev pub Follows : (line : ℕ) → TraceValue → (bytes text : List ℕ) → (counts : Bool) → TraceValue → Type 0
Follows line old bytes text counts new = (text ≡ []) × (counts ≡ false) × FollowsLine line old bytes new
