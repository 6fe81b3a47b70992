-- The replies to lines, one more at a time.
use Rattle.std.proofs.Common.{◌≡◌, ℕ, ◌+◌, Bool, false, List, [], ◌∷◌, ◌++◌, length, refl, sym, ap, ◌∙◌, subst, arith, append_assoc}
use Rattle.std.proofs.lemmas.List.{append-nil}
use Rattle.line_engine.specs.Lines.{is_blank}
use Rattle.line_engine.specs.Replies.{Replying, ServesLine, ServesLines, refusal_count}

-- a line that isn't blank gets its reply
pub serves_filled : {H : Type 0} (replying : Replying H) (n : ℕ) (old : H) (line text : List ℕ) (refused : Bool) (new : H)
    → is_blank line ≡ false → replying n old line text refused new → ServesLine replying n old line text refused new
serves_filled replying n old line text refused new filled reply = rw filled reply

-- replies to lines, and then one to the next line
pub ServesLines-push : {H : Type 0} (replying : Replying H) (n : ℕ) (old : H) (lines : List (List ℕ)) (line output text : List ℕ) (refusals : ℕ) (refused : Bool) (mid new : H)
    → ServesLines replying n old lines output refusals mid → ServesLine replying (n + length lines) mid line text refused new
    → ServesLines replying n old (lines ++ line ∷ []) (output ++ text) (refusals + refusal_count refused) new
ServesLines-push {H} replying n old [] line output text refusals refused mid new done one =
    let here : ServesLine replying n old line text refused new =
    subst (λ (h : H). ServesLine replying n h line text refused new) done.2 (subst (λ (k : ℕ). ServesLine replying k mid line text refused new) (omega arith) one) in
    (text, [], refused, 0, new, here, (refl, refl, refl), rw done.0 (sym (append-nil text)), omega (arith, done.1))
ServesLines-push {H} replying n old (first ∷ lines) line output text refusals refused mid new done one =
    let later = ServesLines-push replying (n + 1) done.4 lines line done.1 text done.3 refused mid new done.6
    (subst (λ (k : ℕ). ServesLine replying k mid line text refused new) (omega arith) one) in
    (done.0, done.1 ++ text, done.2, done.3 + refusal_count refused, done.4, done.5, later, ap (λ (xs : List ℕ). xs ++ text) done.7 ∙ append_assoc done.0 done.1 text, omega (arith, done.8))
