-- Lines of pairs, and their fields, that were added to a text.
use Rattle.std.specs.Prelude.{◌≡◌, ◌<◌, ◌==◌, if◌then◌else◌, ℕ, IsTrue, false, List, [], ◌∷◌, length, codes, Option}
use Rattle.std.specs.List.{find}
use Rattle.cost_table.specs.Problem.{ProblemValue}
use Rattle.line_network.specs.Network.{NetworkValue}
use Rattle.move_messages.specs.Order.{Order}
use Rattle.reply_texts.specs.Lines.{Adds, AreLines}
use Rattle.wagons_and_orders.specs.declared.free_wagon.FreeWagon.{FreeWagon}
use Rattle.plan_reasons.specs.declared.failed.Failed.{Failed}
use Rattle.plan_reasons.specs.declared.fit.Fit.{Fit}
use Rattle.plan_reasons.specs.declared.line_form.LineForm.{LineForm}
use Rattle.plan_reasons.specs.declared.reasons.Test.{Test}
use Rattle.plan_reasons.specs.declared.numbers.Numbers.{Numbers}
use Rattle.plan_reasons.specs.declared.style.Style.{Style}
use Rattle.plan_reasons.specs.CertifiedPlan.{CertifiedPlanValue}
use Rattle.plan_reasons.specs.Fields.{field}
use Rattle.plan_reasons.specs.Numbers.{IsMoreOf}
use Rattle.plan_reasons.specs.PlaceFields.{names_of}
use Rattle.plan_reasons.specs.Pairs.{IsArrivalValue, IsFailed, IsFailedLine, IsFitsLine, IsTestLine}
use Rattle.plan_reasons.specs.PairLists.{AreFailedOfOrder, AreFailedOfWagon, AreFitsLines, AreLaterLines, AreTestLines, IsOwnLine, passes_all}

-- the pair is of a wagon and an order of the problem
abbrev pub IsPairOf : ProblemValue → ℕ × ℕ → Type 0
IsPairOf problem pair = (pair.0 < length problem.wagons) × (pair.1 < length problem.orders)

-- one that fails no test, or fails one
abbrev pub IsFitting : CertifiedPlanValue → ℕ × ℕ → Type 0
IsFitting planned pair = IsPairOf planned.problem pair × IsTrue (passes_all planned.priced.table pair)

-- one that fails no test, with what plans with it cost more
abbrev pub IsFoundFit : Numbers → CertifiedPlanValue → Fit → Type 0
IsFoundFit numbers planned fit = IsFitting planned fit.pair × IsMoreOf numbers planned.priced fit.pair fit.more

abbrev pub IsFailing : CertifiedPlanValue → ℕ × ℕ → Type 0
IsFailing planned pair = IsPairOf planned.problem pair × (passes_all planned.priced.table pair ≡ false)

-- one that fails a test, with the first that it fails
abbrev pub IsFoundFailed : CertifiedPlanValue → Failed → Type 0
IsFoundFailed planned failed = IsPairOf planned.problem failed.pair × IsFailed planned.network planned.problem failed

-- what stands before the item at k of a list
abbrev pub comma : (k : ℕ) → List ℕ
comma k = if k == 0 then [] else 44 ∷ []

-- an arrival as a field
pub record IsArrivalField (style : Style) (seconds : ℕ) (written : List ℕ) : Type 0 where
  pub value : List ℕ
  pub arrives : IsArrivalValue style seconds value
  pub whole : written ≡ field style (codes "arrival") value

-- the line of a wagon by the test that it fails for an order was added to a text
abbrev pub AddsTestLine : LineForm → NetworkValue → (at : ℕ) → FreeWagon → Order → Test → (old new : List ℕ) → Type 0
AddsTestLine form net at wagon order test = Adds (IsTestLine form.style (names_of form) net at wagon order test)

-- the line of a pair was added to a text
abbrev pub AddsFitsLine : Style → Numbers → CertifiedPlanValue → Fit → (old new : List ℕ) → Type 0
AddsFitsLine style numbers planned fit = Adds (IsFitsLine style numbers planned.network planned.problem planned.priced fit)

abbrev pub AddsFailedLine : LineForm → CertifiedPlanValue → Failed → (old new : List ℕ) → Type 0
AddsFailedLine form planned failed = Adds (IsFailedLine form.style (names_of form) planned.network planned.problem failed)

-- the lines of pairs
abbrev pub AddsFitLines : Style → Numbers → CertifiedPlanValue → (fits : List Fit) → (old new : List ℕ) → Type 0
AddsFitLines style numbers planned fits = Adds (AreLines (IsFitsLine style numbers planned.network planned.problem planned.priced) fits)

abbrev pub AddsFailedLines : LineForm → CertifiedPlanValue → (failed : List Failed) → (old new : List ℕ) → Type 0
AddsFailedLines form planned failed = Adds (AreLines (IsFailedLine form.style (names_of form) planned.network planned.problem) failed)

-- with their headings
abbrev pub AddsFitsLines : Style → Numbers → CertifiedPlanValue → (near : Option ℕ) → (pairs : List (ℕ × ℕ)) → (old new : List ℕ) → Type 0
AddsFitsLines style numbers planned near pairs = Adds (AreFitsLines style numbers planned.network planned.problem planned.priced near pairs)

abbrev pub AddsTestLines : LineForm → CertifiedPlanValue → (failed : List Failed) → Test → (old new : List ℕ) → Type 0
AddsTestLines form planned failed test = Adds (AreTestLines form.style (names_of form) planned.network planned.problem failed test)

abbrev pub AddsLaterLines : LineForm → CertifiedPlanValue → (failed : List Failed) → (old new : List ℕ) → Type 0
AddsLaterLines form planned failed = Adds (AreLaterLines form.style (names_of form) planned.network planned.problem failed)

-- what is said of the pairs of an order, or of a wagon, that fail a test
abbrev pub AddsFailedOfOrder : LineForm → CertifiedPlanValue → (j : ℕ) → (old new : List ℕ) → Type 0
AddsFailedOfOrder form planned j = Adds (AreFailedOfOrder form.style (names_of form) planned.network planned.problem planned.priced.table j)

abbrev pub AddsFailedOfWagon : LineForm → CertifiedPlanValue → (i : ℕ) → (old new : List ℕ) → Type 0
AddsFailedOfWagon form planned i = Adds (AreFailedOfWagon form.style (names_of form) planned.network planned.problem planned.priced.table i)

-- the line of a wagon
abbrev pub AddsOwnLine : Style → Numbers → CertifiedPlanValue → (i : ℕ) → (old new : List ℕ) → Type 0
AddsOwnLine style numbers planned i =
    Adds (IsOwnLine style numbers planned.network planned.problem planned.priced i (find (λ pair. pair.0 == i) planned.priced.pairs))
