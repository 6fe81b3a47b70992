-- The notes of a line, by what was read.
use Rattle.std.proofs.Common.{◌≡◌, ◌≢◌, ℕ, List, [], ◌++◌, Result, Ok, Err, sym, ap, ◌∙◌, subst}
use Rattle.line_fields.specs.Commands.{command_of}
use Rattle.line_fields.specs.Fields.{Gives}
use Rattle.line_fields.specs.Line.{object_of}
use Rattle.line_fields.specs.declared.command.Command.{Command}
use Rattle.line_fields.specs.declared.fault.LineFault.{LineFault}
use Rattle.line_fields.specs.declared.fault.LineFault.TheVariants.{OutOfMemory}
use Rattle.reply_texts.specs.Lines.{Adds}
use Rattle.office.specs.CommandNotes.{AreLineNotes, KnownBefore, ReadNotes}
use Rattle.office.specs.LineNotes.{mark_note, open_note}

-- what a line is, unless memory was refused to read it
pub read_is : (read known : Result Command LineFault) → Gives (λ (command : Command). command) read known → read ≢ Err OutOfMemory → read ≡ known
read_is (Ok asked) known gives isnt = sym gives
read_is (Err fault) known gives isnt = sym (gives (λ same. isnt (cc)))

pub line_noted : (line : ℕ) (known : KnownBefore) (bytes : List ℕ) (read : Result Command LineFault) (first noted marked new : List ℕ)
    → Gives (λ (command : Command). command) read (command_of bytes) → read ≢ Err OutOfMemory → first ≡ [] → Adds (ReadNotes line known read (object_of bytes)) first noted
    → marked ≡ noted ++ mark_note line bytes → new ≡ marked ++ open_note line bytes read → AreLineNotes line known bytes new
line_noted line known bytes read first noted marked new gives isnt empty adds mark opens =
    let same : read ≡ command_of bytes = read_is read (command_of bytes) gives isnt in
    let whole : noted ≡ adds.added = adds.whole ∙ ap (λ (t : List ℕ). t ++ adds.added) empty in
    record {
      command = adds.added;
      command_notes = subst (λ (r : Result Command LineFault). ReadNotes line known r (object_of bytes) adds.added) same adds.is;
      whole = opens ∙ ap (λ (t : List ℕ). t ++ open_note line bytes read) (mark ∙ ap (λ (t : List ℕ). t ++ mark_note line bytes) whole)
          ∙ ap (λ (r : Result Command LineFault). (adds.added ++ mark_note line bytes) ++ open_note line bytes r) same;
    }
