-- Orders that notes say were filled, note by note.
use Rattle.std.proofs.Common.{◌≡◌, ◌∙◌, ℕ, ◌+◌, ◌<◌, ◌≤◌, Bool, true, false, cond, List, length, take, get_or, Option, Some, None, ap, refl, sym}
use Rattle.std.specs.BTreeMap.{is_at}
use Rattle.std.specs.Cmp.Lexicographic.{pointwise, texts_ties}
use Rattle.std.specs.Option.{option_or}
use Rattle.std.specs.Prelude.{if◌then◌else◌, nat_eq}
use Rattle.std.proofs.lemmas.List.{take_all}
use Rattle.std.proofs.lemmas.List.Sums.{fold_more}
use Rattle.fleet_rows.specs.Kept.{compare_numbers}
use Rattle.journal_notes.specs.declared.note.FilledOrder.{FilledOrder}
use Rattle.journal_notes.specs.declared.note.Note.{Note}
use Rattle.journal_notes.specs.declared.note.Note.TheVariants.{Filled}
use Rattle.last_texts.specs.Fills.{fill_of, fills_after}
use Rattle.movements.specs.Needs.{LateFills}

by_test : (here : Bool) (late : ℕ) (before : Option ℕ) → cond here (Some late) before ≡ option_or (if here then Some late else None) before
by_test true late before = refl
by_test false late before = refl

-- what is known once an order that was filled is put
pub put : (filled : FilledOrder) (before after : LateFills) → ((order : List ℕ) → after order ≡ cond (is_at (compare_numbers filled.order) order) (Some filled.late) (before order))
    → (order : List ℕ) → after order ≡ option_or (fill_of (Filled filled) order) (before order)
put filled before after puts order =
    puts order ∙ ap (λ (here : Bool). cond here (Some filled.late) (before order)) (sym (texts_ties filled.order order)) ∙ by_test (pointwise nat_eq filled.order order) filled.late (before order)

-- a note more
pub one_more : (notes : List Note) (n : ℕ) (note : Note) (before : LateFills) (order : List ℕ) → n < length notes → note ≡ get_or notes n note
    → fills_after (take (n + 1) notes) before order ≡ option_or (fill_of note order) (fills_after (take n notes) before order)
one_more notes n note before order within is =
    fold_more (λ (known : Option ℕ) (it : Note). option_or (fill_of it order) known) (before order) notes n note within
    ∙ ap (λ (it : Note). option_or (fill_of it order) (fills_after (take n notes) before order)) (sym is)

-- all notes
pub all_notes : (notes : List Note) (n : ℕ) (before : LateFills) (order : List ℕ) → length notes ≤ n → fills_after (take n notes) before order ≡ fills_after notes before order
all_notes notes n before order all = ap (λ (some : List Note). fills_after some before order) (take_all n notes all)
