-- A text of a line's tokens is read as that line.
use Rattle.std.proofs.Common.{◌≡◌, ◌≤◌, ℕ, List, [], ◌++◌, Option, Some, None, Ok, true, ap, ◌∙◌}
use Rattle.std.specs.Prelude.{is_some}
use Rattle.std.specs.Str.{IsUtf8}
use Rattle.json.specs.Lex.{tokens}
use Rattle.json.specs.Print.{print}
use Rattle.json.specs.Token.{Token}
use Rattle.json.specs.Tree.{depth}
use Rattle.serde_json.specs.Data.{Data}
use Rattle.serde_json.specs.Find.{as_object}
use Rattle.serde_json.specs.Read.{of_json, max_depth}
use Rattle.serde_json.specs.Written.{compact_text, outline}
use Rattle.serde_json.proofs.Texts.{print-outline}
use Rattle.line_fields.specs.declared.field.Field.TheVariants as field
use Rattle.line_fields.specs.Fields.{field_of}
use Rattle.line_fields.specs.Values.{text_of}
use Rattle.line_fields.specs.WrittenTokens.{data_tokens}
use Rattle.line_fields.proofs.Lines.{object_of-ok}
use Rattle.line_fields.proofs.WrittenTokens.{read-tokens}
use Rattle.checkpoint.specs.declared.line.CheckpointLine.{CheckpointLine}
use Rattle.checkpoint.specs.LineReading.{checkpoint_line_of, line_of_type}
use Rattle.checkpoint.specs.LineWriting.{IsTextIfThere}
use Rattle.checkpoint.specs.inner.Readable.{IsReadableIfThere}

-- a text of the tokens of some data, which spells an object of a type that reads as a line
pub line-reads : (bytes : List ℕ) (d o : Data) (name : List ℕ) (line : CheckpointLine) → IsUtf8 bytes → tokens bytes ≡ data_tokens d → depth (outline d) ≤ max_depth
    → of_json (outline d) ≡ Some o → is_some (as_object o) ≡ true → field_of text_of field.TypeName o ≡ Ok name → line_of_type name o ≡ Ok line → checkpoint_line_of bytes ≡ Ok line
unfolding checkpoint_line_of
line-reads bytes d o name line utf8 same shallow spells object kind reads =
    rw (object_of-ok bytes o utf8 (read-tokens (outline d) o bytes same shallow spells) object, kind) reads

-- a text that was written as the tokens of some data
pub record IsPrinted (d : Data) (text : List ℕ) : Type 0 where
  pub same : tokens text ≡ data_tokens d
  pub text_is : text ≡ compact_text d

pub printed : (d : Data) (old new : List Token) (text : List ℕ) → old ≡ [] → new ≡ old ++ data_tokens d → text ≡ print new → tokens text ≡ new → IsPrinted d text
printed d old new text none added is same =
    let whole : new ≡ data_tokens d = added ∙ ap (λ ts. ts ++ data_tokens d) none in
    record { same = same ∙ whole; text_is = is ∙ ap print whole ∙ print-outline d }

-- a text that is there reads as a moment's, where there is one
pub text_if_readable : (moment : Option ℕ) (text : Option (List ℕ)) → IsReadableIfThere moment text → IsTextIfThere moment text
text_if_readable None None readable = tt
text_if_readable None (Some text) readable = absurd readable
text_if_readable (Some seconds) None readable = absurd readable
text_if_readable (Some seconds) (Some text) readable = readable.0
