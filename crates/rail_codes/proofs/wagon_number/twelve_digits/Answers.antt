use Rattle.std.proofs.Common.{refl}
use Rattle.rail_codes.specs.inner.WagonTexts.{are_twelve_digits-cases, kept_characters-digits}
use Rattle.rail_codes.proofs.wagon_number.twelve_digits.Goals as goal

pub returns-in-Some-clause-meaning : goal.returns-in-Some-clause-meaning
returns-in-Some-clause-meaning c =
    let twelve = c.in-Some.ensures.1 in
    let kept = kept_characters-digits c.args.text.now (are_twelve_digits-cases c.args.text.now (rw c.in-Some.ensures.0 at twelve)).1 in
    rw (kept, ← c.in-Some.ensures.0, twelve) refl
