-- How the row of a wagon grows, goal by goal.
use Rattle.std.proofs.Common.{◌≡◌, ◌∙◌, ◌+◌, ◌≤◌, ◌<◌, ℕ, Option, Some, None, List, [], ◌∷◌, ◌++◌, length, get_or, drop, refl, sym, ap, subst, arith, append-nil, append_assoc}
use Rattle.std.specs.Prelude.{◌↔◌, IfSome}
use Rattle.std.specs.Option.{option_to_list}
use Rattle.std.proofs.lemmas.List.{drop_more, length-append}
use Rattle.wagons_and_orders.specs.declared.free_wagon.FreeWagon.{FreeWagon}
use Rattle.wagons_and_orders.specs.Wanted.{WantedOrder}
use Rattle.line_network.specs.Network.{NetworkValue}
use Rattle.cost_table.specs.TableLimits.{max_cost}
use Rattle.problem_table.specs.Allowed.{Reaches}
use Rattle.problem_table.specs.declared.goals.Goal.{Goal}
use Rattle.problem_table.specs.inner.AllowedRows.{AddsRow}
use Rattle.problem_table.specs.inner.Goals.{goal_of, goals_from, goals_of}
use Rattle.problem_table.specs.inner.RowsSoFar.{RowSoFar}
use Rattle.problem_table.proofs.AllowedLemmas.{AddsRow-start, AddsRow-next, cell_of}
use Rattle.problem_table.proofs.GoalLemmas.{next_goal, goal_within, unreached}

-- the next goal stands first among those that are left
pub left_first : (goals : List Goal) (k : ℕ) (goal : Goal) → k < length goals → goal ≡ get_or goals k goal → drop k goals ≡ goal ∷ drop (k + 1) goals
left_first goals k goal l e = drop_more goals k goal l ∙ ap (λ (g : Goal). g ∷ drop (k + 1) goals) (sym e)

module _ (net : NetworkValue) (at : ℕ) (wagon : FreeWagon) where
  -- no order of a list without goals is reached
  over_gap : (before gap : List WantedOrder) (old now : List (ℕ × ℕ)) → goals_from net wagon.class (length before) gap ≡ [] → AddsRow (λ wanted. Reaches net at wagon wanted.order) before old now → AddsRow (λ wanted. Reaches net at wagon wanted.order) (before ++ gap) old now
  over_gap before [] old now none row = subst (λ (os : List WantedOrder). AddsRow (λ wanted. Reaches net at wagon wanted.order) os old now) (sym (append-nil before)) row
  over_gap before (w ∷ ws) old now none row =
      let here = both_empty (goal_of net wagon.class (length before) w) (goals_from net wagon.class (length before + 1) ws) none in
      let row' = AddsRow-next (λ wanted. Reaches net at wagon wanted.order) before w None old now now row (unreached net at wagon (length before) w None (sym here.0) refl) tt (sym (append-nil now)) in
      subst (λ (os : List WantedOrder). AddsRow (λ wanted. Reaches net at wagon wanted.order) os old now) (append_assoc before (w ∷ []) ws)
      (over_gap (before ++ w ∷ []) ws old now (ap (λ (k : ℕ). goals_from net wagon.class k ws) (length-append before (w ∷ [])) ∙ here.1) row')
    where
      both_empty : (o : Option Goal) (gs : List Goal) → option_to_list o ++ gs ≡ [] → (o ≡ None) × (gs ≡ [])
      both_empty None gs h = (refl, h)
      both_empty (Some g) gs h = cc h

  -- before the first goal
  pub row_start : (orders : List WantedOrder) (goals : List Goal) (old : List (ℕ × ℕ)) → goals ≡ goals_of net wagon.class orders → RowSoFar net at wagon orders goals old old
  row_start orders goals old h = record { before = []; later = orders; all = refl; left_is = h; row = AddsRow-start _ old }

  -- the place of the next goal is one of the network
  pub next_within : (orders : List WantedOrder) (goal : Goal) (left rest : List Goal) (old now : List (ℕ × ℕ)) → left ≡ goal ∷ rest → RowSoFar net at wagon orders left old now → goal.place < length net.places
  next_within orders goal left rest old now first h =
      let next = next_goal net wagon.class goal rest (length h.before) h.later (sym first ∙ h.left_is) in
      goal_within net at wagon goal.order next.wanted goal next.goal_is

  -- the next goal
  pub row_step : (orders : List WantedOrder) (goal : Goal) (left rest : List Goal) (o : Option ℕ) (old now new : List (ℕ × ℕ)) → left ≡ goal ∷ rest → RowSoFar net at wagon orders left old now → ((wanted : WantedOrder) → Some goal ≡ goal_of net wagon.class goal.order wanted → (km : ℕ) → (o ≡ Some km) ↔ Reaches net at wagon wanted.order km) → IfSome o (λ km. km ≤ max_cost) → new ≡ now ++ cell_of goal.order o → RowSoFar net at wagon orders rest old new
  row_step orders goal left rest o old now new first h means limit added =
      let next = next_goal net wagon.class goal rest (length h.before) h.later (sym first ∙ h.left_is) in
      let long : goal.order ≡ length (h.before ++ next.gap) = next.order ∙ sym (length-append h.before next.gap) in
      let longer : length h.before + length next.gap + 1 ≡ length ((h.before ++ next.gap) ++ next.wanted ∷ []) = omega (arith, length-append (h.before ++ next.gap) (next.wanted ∷ []), length-append h.before next.gap) in
      record {
        before = (h.before ++ next.gap) ++ next.wanted ∷ [];
        later = next.behind;
        all = append_assoc (h.before ++ next.gap) (next.wanted ∷ []) next.behind ∙ (append_assoc h.before next.gap (next.wanted ∷ next.behind) ∙ (ap (λ os. h.before ++ os) (sym next.split) ∙ h.all));
        left_is = next.rest_is ∙ ap (λ (k : ℕ). goals_from net wagon.class k next.behind) longer;
        row = AddsRow-next (λ wanted. Reaches net at wagon wanted.order) (h.before ++ next.gap) next.wanted o old now new (over_gap h.before next.gap old now next.no_goals h.row) (means next.wanted next.goal_is) limit (added ∙ ap (λ (k : ℕ). now ++ cell_of k o) long);
      }

  -- behind the last goal
  pub row_end : (orders : List WantedOrder) (left : List Goal) (old now : List (ℕ × ℕ)) → left ≡ [] → RowSoFar net at wagon orders left old now → AddsRow (λ wanted. Reaches net at wagon wanted.order) orders old now
  row_end orders left old now none h =
      subst (λ (os : List WantedOrder). AddsRow (λ wanted. Reaches net at wagon wanted.order) os old now) h.all
      (over_gap h.before h.later old now (sym h.left_is ∙ none) h.row)
