use Rattle.std.proofs.Common.{◌≡◌, ◌++◌, ℕ, List, string_bytes, sym, ap, ◌∙◌, subst}
use Rattle.rail_codes.specs.Moment.{IsMomentText}
use Rattle.rail_codes.proofs.moment.Moment.text.Goals as goal

pub returns-clause-printed : goal.returns-clause-printed
returns-clause-printed c =
    let pushed = c.in_ok-push_text.ensures in
    let whole : string_bytes c.push_text.new.text ≡ pushed.0 = pushed.1 ∙ ap (λ (before : List ℕ). before ++ pushed.0) c.new-text.ensures.bytes in
    subst (IsMomentText c.args.self) (sym whole) pushed.2
