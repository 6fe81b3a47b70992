-- The search from one place: labels, what waits, and what relaxing a line keeps.
use Rattle.std.specs.Prelude.{◌≡◌, ℕ, ◌+◌, ◌*◌, ◌^◌, ◌<◌, ◌≤◌, ◌⊎◌, ⊤, Bool, false, ◌&&◌, ◌||◌, ◌==◌, nat_lt, List, ◌∷◌, length, Option, Some, None, All, Contains, count_by, sum_by, slice_set, slice_index_or, IsSomeAnd}
use Rattle.std.specs.List.Sorted.{IsPermutation}
use Rattle.line_network.specs.NetworkLimits.{max_line_km, max_line_minutes}
use Rattle.line_network.specs.declared.line.Line.{Line}
use Rattle.line_network.specs.inner.Lengths.{Distance}
use Rattle.line_network.specs.Distance.{AtMost}
use Rattle.line_network.specs.inner.Rows.{IsPathPair}
use Rattle.line_network.specs.declared.step.Step.{Step}
use Rattle.line_network.specs.inner.Steps.{line_from}
use Rattle.line_network.specs.inner.Turns.{Waiting, entry}

-- the label of a place, `None` where it isn't reached
abbrev pub label_at : List (Option Distance) → ℕ → Option Distance
label_at labels k = slice_index_or labels k None

abbrev pub plus_line : Distance → Line → Distance
plus_line d l = record { km = d.km + l.km; minutes = d.minutes + l.minutes }

-- kilometres first, as in `AtMost`
abbrev pub IsBelow : Distance → Distance → Type 0
IsBelow d e = (d.km ≤ e.km) × (d.km ≡ e.km → d.minutes < e.minutes)

abbrev pub LabelAtMost : Option Distance → Distance → Type 0
LabelAtMost o d = IsSomeAnd o (λ e. AtMost (e.km, e.minutes) (d.km, d.minutes))

abbrev pub LabelAbove : Option Distance → Distance → Type 0
LabelAbove None d = ⊤
LabelAbove (Some e) d = IsBelow d e

abbrev pub is_label_below : Distance → Option Distance → Bool
is_label_below d None = false
is_label_below d (Some e) = nat_lt e.km d.km || (e.km == d.km && nat_lt e.minutes d.minutes)

-- how many labels lie below a pair
abbrev pub below_count : List (Option Distance) → Distance → ℕ
below_count labels d = count_by (is_label_below d) labels

-- each label is of so many lines at most as labels lie below it, so none is too large
pub record AreBounded (labels : List (Option Distance)) : Type 0 where
  pub km : (k : ℕ) (d : Distance) → label_at labels k ≡ Some d → d.km ≤ max_line_km * below_count labels d
  pub minutes : (k : ℕ) (d : Distance) → label_at labels k ≡ Some d → d.minutes ≤ max_line_minutes * below_count labels d

-- each label is the pair of a path from the origin, which is reached at no length
pub record AreLabels (lines : List Line) (origin : ℕ) (labels : List (Option Distance)) : Type 0 where
  pub paths : (k : ℕ) (d : Distance) → label_at labels k ≡ Some d → IsPathPair lines origin k d
  pub started : LabelAtMost (label_at labels origin) (record { km = 0; minutes = 0 })

-- no line from a place leads below a label
abbrev pub IsRelaxed : List Line → List (Option Distance) → ℕ → Distance → Type 0
IsRelaxed lines labels k d = (l : Line) → Contains lines l → l.from ≡ k → LabelAtMost (label_at labels l.to) (plus_line d l)

-- a place that is reached waits, or its lines are relaxed
abbrev pub IsSettled : List Line → List (Option Distance) → List Waiting → ℕ → Type 0
IsSettled lines labels waiting k = (d : Distance) → label_at labels k ≡ Some d → Contains waiting (entry d k) ⊎ IsRelaxed lines labels k d

abbrev pub AreInRange : ℕ → List Waiting → Type 0
AreInRange places waiting = All (λ e. e.place < places) waiting

abbrev pub label_weight : Option Distance → ℕ
label_weight None = 2 ^ 64
label_weight (Some d) = d.km * 2 ^ 32 + d.minutes

-- what is left to do: how far the labels can fall, and what waits
abbrev pub work_left : List (Option Distance) → List Waiting → ℕ
work_left labels waiting = sum_by label_weight labels + length waiting

-- a line is relaxed: the label of its end was low enough, or falls, and the place waits
pub data Relaxes (old new : List (Option Distance)) (waited waits : List Waiting) (d : Distance) (l : Line) : Type 0 where
  stays : new ≡ old → waits ≡ waited → LabelAtMost (label_at old l.to) (plus_line d l) → Relaxes old new waited waits d l
  falls : new ≡ slice_set old l.to (Some (plus_line d l)) → IsPermutation (entry (plus_line d l) l.to ∷ waited) waits → LabelAbove (label_at old l.to) (plus_line d l) → Relaxes old new waited waits d l

-- the same of a step from a place whose turn it is
abbrev pub RelaxesFrom : Waiting → Step → (old new : List (Option Distance)) → (waited waits : List Waiting) → Type 0
RelaxesFrom at step old new waited waits = Relaxes old new waited waits at.distance (line_from at.place step)

-- what relaxing lines keeps
pub record Improves (lines : List Line) (old new : List (Option Distance)) (waited waits : List Waiting) : Type 0 where
  pub same_length : length new ≡ length old
  pub lower : (k : ℕ) (d : Distance) → LabelAtMost (label_at old k) d → LabelAtMost (label_at new k) d
  pub labels : (origin : ℕ) → AreLabels lines origin old → AreLabels lines origin new
  pub settled : (k : ℕ) → IsSettled lines old waited k → IsSettled lines new waits k
  pub in_range : AreInRange (length old) waited → AreInRange (length new) waits
  pub less_work : work_left new waits ≤ work_left old waited
