-- Lines and fields that were added to a text.
use Rattle.std.specs.Prelude.{◌≡◌, ℕ, List}
use Rattle.std.specs.List.{range_with_len}
use Rattle.rail_codes.specs.Moment.{IsMomentText}
use Rattle.reply_texts.specs.Lines.{Adds, AreLines}
use Rattle.plan_reasons.specs.declared.numbers.Numbers.{Numbers}
use Rattle.plan_reasons.specs.declared.style.Style.{Style}
use Rattle.plan_reasons.specs.CertifiedPlan.{CertifiedPlanValue}
use Rattle.plan_reasons.specs.Fields.{field, quoted}
use Rattle.plan_reasons.specs.WhyText.{IsOrderLine, IsWagonLine}

-- a moment as a value
pub record IsMomentValue (style : Style) (seconds : ℕ) (value : List ℕ) : Type 0 where
  pub text : List ℕ
  pub moment : IsMomentText seconds text
  pub whole : value ≡ quoted style text

-- and as a field
pub record IsMomentField (style : Style) (name : List ℕ) (seconds : ℕ) (written : List ℕ) : Type 0 where
  pub text : List ℕ
  pub moment : IsMomentText seconds text
  pub whole : written ≡ field style name (quoted style text)

-- the line of an order, or of a wagon that goes, was added to a text
abbrev pub AddsOrderLine : Style → Numbers → CertifiedPlanValue → (j : ℕ) → (old new : List ℕ) → Type 0
AddsOrderLine style numbers planned j = Adds (IsOrderLine style numbers planned.network planned.problem planned.priced j)

abbrev pub AddsWagonLine : Style → Numbers → CertifiedPlanValue → (pair : ℕ × ℕ) → (old new : List ℕ) → Type 0
AddsWagonLine style numbers planned pair = Adds (IsWagonLine style numbers planned.network planned.problem planned.priced pair)

-- the lines of the first n orders, or of the wagons of these pairs
abbrev pub AddsOrderLines : Style → Numbers → CertifiedPlanValue → (n : ℕ) → (old new : List ℕ) → Type 0
AddsOrderLines style numbers planned n =
    Adds (AreLines (IsOrderLine style numbers planned.network planned.problem planned.priced) (range_with_len 0 n))

abbrev pub AddsWagonLines : Style → Numbers → CertifiedPlanValue → (pairs : List (ℕ × ℕ)) → (old new : List ℕ) → Type 0
AddsWagonLines style numbers planned pairs = Adds (AreLines (IsWagonLine style numbers planned.network planned.problem planned.priced) pairs)
