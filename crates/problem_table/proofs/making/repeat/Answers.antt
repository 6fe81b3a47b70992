use Rattle.std.proofs.Common.{◌∙◌, ℕ, ◌++◌, ◌∷◌, [], ap, rules, sym}
use Rattle.std.proofs.lemmas.List.{get_or_default}
use Rattle.problem_table.proofs.making.repeat.Goals as goal

pub returns-clause-row : goal.returns-clause-row
returns-clause-row c = record {
  shared = search rules;
  placed = search rules;
  rows = search rules;
  moments = c.in_ok-push.ensures.items ∙ ap (λ (last : ℕ). c.args.making.now.lasts.items ++ last ∷ []) (c.index-last.ensures ∙ sym (get_or_default c.args.making.now.lasts.items c.args.i 0 _ c.requires.moment));
}
