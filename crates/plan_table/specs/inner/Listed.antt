-- The orders that miss wagons, as they are listed one after the other.
use Rattle.std.specs.Prelude.{ℕ, List, ◌∷◌, ◌++◌, [], ◌==◌, if◌then◌else◌, nat_lt, filter}
use Rattle.std.specs.List.{AllZip, range_with_len}
use Rattle.plan_bounds.specs.Slack.{missed}
use Rattle.plan_reasons.specs.CertifiedPlan.{CertifiedPlanValue}
use Rattle.plan_table.specs.declared.plan_list.Shortfall.{Shortfall}
use Rattle.plan_table.specs.ListOf.{IsShortfall}

-- those of the first n orders
abbrev pub AreShortfalls : CertifiedPlanValue → (n : ℕ) → List Shortfall → Type 0
AreShortfalls planned n shortfalls =
    AllZip (IsShortfall planned.network planned.problem planned.priced)
    (filter (λ j. nat_lt 0 (missed planned.priced planned.priced.pairs j)) (range_with_len 0 n)) shortfalls

-- the orders with one more, if it misses wagons
abbrev pub with_missing : List Shortfall → Shortfall → List Shortfall
with_missing shortfalls shortfall = if shortfall.missing == 0 then shortfalls else shortfalls ++ shortfall ∷ []
