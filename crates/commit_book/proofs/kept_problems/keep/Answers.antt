use Rattle.std.proofs.Common.{◌≡◌, ◌∙◌, ◌-◌, ◌++◌, ◌∷◌, [], ℕ, List, ap, arith, length, length-append}
use Rattle.std.specs.Prelude.{Some, slice_get}
use Rattle.commit_book.specs.declared.kept_problems.KeptProblem.{KeptProblem}
use Rattle.commit_book.proofs.Histories.{get_last}
use Rattle.commit_book.proofs.kept_problems.keep.Goals as goal
use Rattle.commit_book.proofs.kept_problems.keep.Goals.{then-len-most+in_ok-push, else-len-most}

-- what was pushed stands last
last_there : (before after : List KeptProblem) (one : KeptProblem) (n : ℕ) → after ≡ before ++ one ∷ [] → n ≡ length after → slice_get after (n - 1) ≡ Some one
last_there before after one n is len =
    let longer = length-append before (one ∷ []) in
    let at : n - 1 ≡ length before = omega (arith, len, ap length is, longer) in
    ap (slice_get after) at ∙ ap (λ (xs : List KeptProblem). slice_get xs (length before)) is ∙ get_last before one

pub returns-clause-index : goal.returns-clause-index
returns-clause-index c =
    let len : c.len-2.result ≡ length c.if-len-most.kept.items = omega (arith, c.len-2.ensures, c.if-len-most.kept.ok.0) in
    elim c.if-len-most.branch [
      | then-len-most+in_ok-push w ↦ last_there c.args.kept.now.items c.if-len-most.kept.items c.args.one c.len-2.result (ap (λ v. v.items) w.kept-is ∙ w.in_ok-push.ensures.items) len
      | else-len-most w ↦ last_there w.remove.new.self.items c.if-len-most.kept.items c.args.one c.len-2.result (ap (λ v. v.items) w.kept-is ∙ rw w.unwrap.ensures at w.push-else-len-most.ensures.items) len
    ]
