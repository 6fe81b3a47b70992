use Rattle.std.proofs.Common.{◌≡◌, ◌++◌, ℕ, sym, ap, ◌∙◌, string_bytes, subst}
use Rattle.std.specs.Prelude.{◌==◌, OnOk}
use Rattle.std.specs.List.{find}
use Rattle.std.proofs.lemmas.Result.{on_ok_weaker}
use Rattle.cost_table.specs.Problem.{ProblemValue}
use Rattle.plan_reasons.specs.PairLists.{stays_line}
use Rattle.plan_reasons.proofs.PairTexts.{found_allowed, goes_line, stays_there}
use Rattle.plan_reasons.proofs.one_text.push_own_line.Goals as goal

pub push_wagon_line-requires : goal.push_wagon_line-requires
push_wagon_line-requires c =
    let same = c.pair_with.ensures ∙ ap (find (λ (q : ℕ × ℕ). q.0 == c.args.i)) (c.pairs.ensures.pairs ∙ c.plan.ensures.value) in
    found_allowed c.args.planned.now.priced.table (λ (q : ℕ × ℕ). q.0 == c.args.i) c.args.planned.now.priced.pairs _ c.plan.ensures.certified.plan.allowed (sym same ∙ c.in-Some.is)

pub returns-in-Some : goal.returns-in-Some
returns-in-Some c =
    let same = c.pair_with.ensures ∙ ap (find (λ (q : ℕ × ℕ). q.0 == c.args.i)) (c.pairs.ensures.pairs ∙ c.plan.ensures.value) in
    on_ok_weaker c.push_wagon_line.result (goes_line c.args.style c.args.numbers c.args.planned.now.network c.args.planned.now.problem c.args.planned.now.priced c.args.i _ _ _ _ (sym c.in-Some.is ∙ same)) c.push_wagon_line.ensures

pub returns-in-None : goal.returns-in-None
returns-in-None c =
    let same = c.pair_with.ensures ∙ ap (find (λ (q : ℕ × ℕ). q.0 == c.args.i)) (c.pairs.ensures.pairs ∙ c.plan.ensures.value) in
    on_ok_weaker c.push_stays.result (stays_there c.args.style c.args.numbers c.args.planned.now.network c.args.planned.now.problem c.args.planned.now.priced c.args.i _ _ _ (sym c.in-None.is ∙ same)) (subst (λ (p : ProblemValue). OnOk c.push_stays.result (string_bytes c.push_stays.new.text ≡ string_bytes c.args.text.now ++ stays_line c.args.style p c.args.i)) c.problem.ensures.value c.push_stays.ensures)
