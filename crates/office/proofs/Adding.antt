-- Notes that are added to a text part by part.
use Rattle.std.proofs.Common.{◌≡◌, ℕ, Bool, true, List, [], ◌∷◌, ◌++◌, Option, Some, codes, decimal, refl, sym, ap, ◌∙◌, subst, append_assoc}
use Rattle.reply_texts.specs.Lines.{Adds}
use Rattle.reply_texts.specs.Words.{IsMomentWord, next_word}
use Rattle.journal_notes.specs.Heard.{is_ahead}
use Rattle.office.specs.NoteText.{NotedIf, note, note_head}
use Rattle.office.specs.AheadNotes.{AheadBetween, AheadNotes, IsAheadNote}
use Rattle.journal_notes.specs.declared.heard.Heard.{Heard}
use Rattle.journal_notes.specs.declared.note.HeardMessage.{HeardMessage}

-- ---- a note that may be none

pub noted_one : (holds : Bool) (IsNote : List ℕ → Type 0) (old new : List ℕ) → holds ≡ true → Adds IsNote old new → Adds (NotedIf holds IsNote) old new
noted_one holds IsNote old new is adds = record {
  added = adds.added;
  is = subst (λ (b : Bool). NotedIf b IsNote adds.added) (sym is) adds.is;
  whole = adds.whole;
}

values_of_three : (old head a b c end : List ℕ) → ((((old ++ head) ++ a) ++ b) ++ c) ++ end ≡ old ++ ((head ++ ((a ++ b) ++ c)) ++ end)
values_of_three old head a b c end = simp append_assoc refl

pub ahead_added : (line : ℕ) (ahead : HeardMessage) (old headed numbered named timed new : List ℕ) → headed ≡ old ++ note_head line (codes "ahead")
    → numbered ≡ headed ++ next_word (decimal ahead.line) → named ≡ numbered ++ next_word ahead.wagon → Adds (IsMomentWord ahead.moment) named timed → new ≡ timed ++ 10 ∷ []
    → Adds (IsAheadNote line ahead) old new
ahead_added line ahead old headed numbered named timed new head number name moment end = record {
  added = note line (codes "ahead") (next_word (decimal ahead.line) ++ next_word ahead.wagon ++ moment.added);
  is = record { moment = moment.added; is_moment = moment.is; whole = refl };
  whole = end ∙ ap (λ (t : List ℕ). t ++ 10 ∷ []) (moment.whole ∙ ap (λ (t : List ℕ). t ++ moment.added)
      (name ∙ ap (λ (t : List ℕ). t ++ next_word ahead.wagon) (number ∙ ap (λ (t : List ℕ). t ++ next_word (decimal ahead.line)) head)))
      ∙ values_of_three old (note_head line (codes "ahead")) (next_word (decimal ahead.line)) (next_word ahead.wagon) moment.added (10 ∷ []);
}

-- ---- a message that is ahead

pub ahead_noted : (line : ℕ) (heard : Heard) (before this : HeardMessage) (after : ℕ) (old new : List ℕ) → heard.before_last ≡ Some before → heard.last ≡ Some this
    → is_ahead before.moment this.moment after ≡ true → Adds (IsAheadNote line this) old new → Adds (AheadNotes line heard after) old new
ahead_noted line heard before this after old new first second ahead adds =
    subst (λ (b : Option HeardMessage). Adds (AheadBetween line b heard.last after) old new) (sym first)
    (subst (λ (t : Option HeardMessage). Adds (AheadBetween line (Some before) t after) old new) (sym second)
    (noted_one (is_ahead before.moment this.moment after) (IsAheadNote line this) old new ahead adds))
