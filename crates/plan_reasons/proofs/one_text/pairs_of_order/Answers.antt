use Rattle.std.proofs.Common.{ℕ, List, [], ◌∷◌, ◌++◌, sym, ap, ◌∙◌, arith}
use Rattle.std.proofs.lemmas.List.FromFn.{map-range_with_len_more}
use Rattle.plan_reasons.proofs.one_text.pairs_of_order.Goals as goal

pub loop-i-preserved : goal.loop-i-preserved
loop-i-preserved c =
    c.in_ok-push.ensures.items ∙ ap (λ (xs : List (ℕ × ℕ)). xs ++ (c.loop-i.i, c.args.j) ∷ []) c.loop-i.invariant ∙ sym (map-range_with_len_more (λ (i : ℕ). (i, c.args.j)) 0 c.loop-i.i c.loop-i.i (omega arith))
