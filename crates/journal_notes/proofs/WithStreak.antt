-- The streaks of all wagons, where that of one has changed.
use Rattle.std.proofs.Common.{◌≡◌, ◌∙◌, ℕ, Bool, true, false, cond, List, Option, ap, refl, sym}
use Rattle.std.specs.BTreeMap.{is_at}
use Rattle.std.specs.Cmp.Lexicographic.{pointwise, slice_cmp, texts_ties}
use Rattle.std.specs.Ordering.{nat_cmp}
use Rattle.std.specs.Prelude.{if◌then◌else◌, nat_eq}
use Rattle.journal_notes.specs.Streaks.{IsWithStreak, StreaksValue, streak_of}
use Rattle.journal_notes.specs.declared.streaks.Streak.{Streak}

by_test : (here : Bool) (a b : Option Streak) → cond here a b ≡ (if here then a else b)
by_test true a b = refl
by_test false a b = refl

pub with_streak : (number : List ℕ) (streak : Option Streak) (old new : StreaksValue)
    → ((other : List ℕ) → streak_of new other ≡ cond (is_at (slice_cmp nat_cmp number) other) streak (streak_of old other)) → IsWithStreak number streak old new
with_streak number streak old new updates other =
    updates other ∙ ap (λ (here : Bool). cond here streak (streak_of old other)) (sym (texts_ties number other)) ∙ by_test (pointwise nat_eq number other) streak (streak_of old other)
