-- A line that is reviewed, by what was read, brought and written.
use Rattle.std.proofs.Common.{◌≡◌, ◌≢◌, ◌⊎◌, ℕ, Bool, true, List, ◌++◌, length, string_bytes, true≢false, Result, Ok, Err, refl, sym, ap, ◌∙◌, subst, inl, inr}
use Rattle.std.specs.Prelude.{IfOk, IsOk, MatchResult, OnOk, String}
use Rattle.std.specs.declared.alloc.AllocError.{AllocError}
use Rattle.std.specs.declared.alloc.Global.{Global}
use Rattle.line_fields.specs.Commands.{command_of}
use Rattle.line_fields.specs.Fields.{Gives}
use Rattle.line_fields.specs.declared.command.Command.{Command}
use Rattle.line_fields.specs.declared.fault.LineFault.{LineFault}
use Rattle.line_fields.specs.declared.fault.LineFault.TheVariants.{OutOfMemory}
use Rattle.commit_book.specs.Setting.{Setting}
use Rattle.line_engine.specs.Replies.{out_of_memory_body}
use Rattle.office.specs.CommandReplies.{LineRunsOutOfMemory, RepliesToLine}
use Rattle.office.specs.CommandNotes.{AreLineNotes}
use Rattle.office.specs.Fullness.{entries_note, lines_note}
use Rattle.office.specs.Reviews.{IsReviewed, IsReviewedInPart, ReviewValue, heard_by, known_before}
use Rattle.journal_notes.specs.declared.heard.Heard.{Heard}
use Rattle.office.proofs.ReadNotes.{read_is}

heard_either : (line : ℕ) (old new : Heard) (read known : Result Command LineFault) → Gives (λ (command : Command). command) read known → new ≡ heard_by line old read
    → (new ≡ old) ⊎ (new ≡ heard_by line old known)
heard_either line old new (Ok asked) known gives is = inr (subst (λ (r : Result Command LineFault). new ≡ heard_by line old r) (sym gives) is)
heard_either line old new (Err fault) known gives is = inl is

-- memory was refused for the notes of a line that was brought to the book
noted_in_part : (line : ℕ) (old new : ReviewValue) (bytes : List ℕ) (read : Result Command LineFault) → Gives (λ (command : Command). command) read (command_of bytes)
    → (reply : List ℕ) × (refused : Bool) × RepliesToLine old.book bytes reply refused new.book → new.named ≡ old.named → new.line ≡ line → new.heard ≡ heard_by line old.heard read
    → IsReviewedInPart line old bytes new
noted_in_part line old new bytes read gives brought named number heard = record {
  reply = brought.0;
  refused = brought.1;
  brought = inl brought.2;
  named = named;
  number = number;
  heard = heard_either line old.heard new.heard read (command_of bytes) gives heard;
}

-- memory was refused while the line was brought to the book
pub brought_in_part : (line : ℕ) (old new : ReviewValue) (bytes : List ℕ) (read : Result Command LineFault) → Gives (λ (command : Command). command) read (command_of bytes)
    → LineRunsOutOfMemory old.book bytes new.book → new.named ≡ old.named → new.line ≡ line → new.heard ≡ heard_by line old.heard read → IsReviewedInPart line old bytes new
brought_in_part line old new bytes read gives leaves named number heard = record {
  reply = out_of_memory_body;
  refused = true;
  brought = inr (leaves, refl, refl);
  named = named;
  number = number;
  heard = heard_either line old.heard new.heard read (command_of bytes) gives heard;
}

fullness_along : (line : ℕ) (text : List ℕ) (entries count after most limit lines number : ℕ) → entries ≡ count → most ≡ limit → lines ≡ number
    → text ++ entries_note line entries after most ++ lines_note line lines ≡ text ++ entries_note line count after limit ++ lines_note line number
fullness_along line text entries count after most limit lines number e m l =
    ap (λ (n : ℕ). text ++ entries_note line n after most ++ lines_note line lines) e
    ∙ ap (λ (n : ℕ). text ++ entries_note line count after n ++ lines_note line lines) m
    ∙ ap (λ (n : ℕ). text ++ entries_note line count after limit ++ lines_note line n) l

-- the line was brought to the book; then memory may have been refused for its notes
pub reviewed : {U : Type 0} (line : ℕ) (old new : ReviewValue) (bytes notes : List ℕ) (read : Result Command LineFault) (entries lines : ℕ)
    (said : Result (String Global) AllocError) (result : Result U AllocError)
    → Gives (λ (command : Command). command) read (command_of bytes)
    → IfOk said (λ text. AreLineNotes line (known_before old) bytes (string_bytes text)) → OnOk said (read ≢ Err OutOfMemory)
    → (reply : List ℕ) × (refused : Bool) × RepliesToLine old.book bytes reply refused new.book
    → new.book.setting ≡ old.book.setting → new.named ≡ old.named → new.line ≡ line → new.heard ≡ heard_by line old.heard read → entries ≡ length old.book.state.history → lines ≡ old.line
    → OnOk result (IsOk said)
    → OnOk result (IfOk said (λ text. notes ≡ string_bytes text ++ entries_note line entries (length new.book.state.history) new.book.setting.entries ++ lines_note line lines))
    → MatchResult result (λ _. IsReviewed line old bytes notes new) (λ _. IsReviewedInPart line old bytes new)
reviewed line old new bytes notes read entries lines (Ok text) (Ok u) gives are isnt brought setting named number heard counted numbered has whole = record {
  reply = brought.0;
  refused = brought.1;
  brought = brought.2;
  named = named;
  number = number;
  heard = heard ∙ ap (heard_by line old.heard) (read_is read (command_of bytes) gives isnt);
  said = string_bytes text;
  said_notes = are;
  whole = whole ∙ fullness_along line (string_bytes text) entries (length old.book.state.history) (length new.book.state.history) new.book.setting.entries old.book.setting.entries lines old.line
      counted (ap (λ (s : Setting). s.entries) setting) numbered;
}
reviewed line old new bytes notes read entries lines (Err error) (Ok u) gives are isnt brought setting named number heard counted numbered has whole = absurd (true≢false (sym has))
reviewed line old new bytes notes read entries lines (Ok text) (Err error) gives are isnt brought setting named number heard counted numbered has whole =
    noted_in_part line old new bytes read gives brought named number heard
reviewed line old new bytes notes read entries lines (Err reason) (Err error) gives are isnt brought setting named number heard counted numbered has whole =
    noted_in_part line old new bytes read gives brought named number heard
