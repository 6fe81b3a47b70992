use Rattle.std.proofs.Common.{◌-◌, ◌∙◌, ◌∷◌, [], List, ℕ, ap, subst, sym, arith}
use Rattle.std.specs.Prelude.{◌≡◌, Some, position, slice_get}
use Rattle.cost_table.specs.Names.{is_name}
use Rattle.cost_table.proofs.NameLemmas.{found_at}
use Rattle.plan_reasons.proofs.Tested.{last_there, still_there}
use Rattle.plan_reasons.proofs.tested_wagons.class_position.Goals as goal

pub returns-in-Some-clause-there : goal.returns-in-Some-clause-there
returns-in-Some-clause-there c =
    let same = ap (position (is_name c.args.class)) c.deref.ensures.value in
    found_at c.args.classes.now.items c.args.class c.in-Some.k (sym same ∙ sym c.position_of.ensures ∙ c.in-Some.is)

pub returns-clause-there : goal.returns-clause-there
returns-clause-there c =
    let old = c.args.classes.now.items in
    let long = c.len.ensures ∙ c.in_ok-push.ensures.len in
    subst (λ (xs : List (List ℕ)). slice_get xs (c.len.result - 1) ≡ Some c.args.class) (sym c.in_ok-push.ensures.items) (last_there old (c.len.result - 1) c.args.class (omega (arith, long)))

pub returns-clause-kept : goal.returns-clause-kept
returns-clause-kept c = λ k class at.
    subst (λ (xs : List (List ℕ)). slice_get xs k ≡ Some class) (sym c.in_ok-push.ensures.items) (still_there c.args.classes.now.items (c.args.class ∷ []) k class at)
