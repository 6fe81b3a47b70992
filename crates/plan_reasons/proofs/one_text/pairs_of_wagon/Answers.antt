use Rattle.std.proofs.Common.{ℕ, List, [], ◌∷◌, ◌++◌, sym, ap, ◌∙◌, arith}
use Rattle.std.proofs.lemmas.List.FromFn.{map-range_with_len_more}
use Rattle.plan_reasons.proofs.one_text.pairs_of_wagon.Goals as goal

pub loop-j-preserved : goal.loop-j-preserved
loop-j-preserved c =
    c.in_ok-push.ensures.items ∙ ap (λ (xs : List (ℕ × ℕ)). xs ++ (c.args.i, c.loop-j.j) ∷ []) c.loop-j.invariant ∙ sym (map-range_with_len_more (λ (j : ℕ). (c.args.i, j)) 0 c.loop-j.j c.loop-j.j (omega arith))
