-- Fields from their parts.
use Rattle.std.proofs.Common.{◌≡◌, ℕ, List, ◌++◌, refl, ap, ◌∙◌, append_assoc}
use Rattle.rail_codes.specs.Moment.{IsMomentText}
use Rattle.reply_texts.specs.Lines.{Adds}
use Rattle.plan_reasons.specs.declared.style.Style.{Style}
use Rattle.plan_reasons.specs.Fields.{field, naming, quoted}
use Rattle.plan_reasons.specs.inner.Added.{IsMomentField, IsMomentValue}

pub three_parts : (old x y z a b c : List ℕ) → a ≡ old ++ x → b ≡ a ++ y → c ≡ b ++ z → c ≡ old ++ (x ++ y ++ z)
three_parts old x y z a b c first second third =
    third ∙ ap (λ (xs : List ℕ). xs ++ z) (second ∙ ap (λ (xs : List ℕ). xs ++ y) first) ∙ joined
  where
    joined : ((old ++ x) ++ y) ++ z ≡ old ++ (x ++ y ++ z)
    joined = simp append_assoc refl

-- a moment's text
pub moment_value : (style : Style) (seconds : ℕ) (old new text : List ℕ) → IsMomentText seconds text → new ≡ old ++ quoted style text → Adds (IsMomentValue style seconds) old new
moment_value style seconds old new text moment is = record {
  added = quoted style text;
  is = record { text = text; moment = moment; whole = refl };
  whole = is;
}

-- a moment as a field, from its value behind the field's name
pub moment_field : (style : Style) (name : List ℕ) (seconds : ℕ) (old a b : List ℕ) → a ≡ old ++ naming style name → Adds (IsMomentValue style seconds) a b → Adds (IsMomentField style name seconds) old b
moment_field style name seconds old a b first second = record {
  added = field style name second.added;
  is = record { text = second.is.text; moment = second.is.moment; whole = ap (field style name) second.is.whole };
  whole = second.whole ∙ ap (λ (xs : List ℕ). xs ++ second.added) first ∙ append_assoc old (naming style name) second.added;
}
