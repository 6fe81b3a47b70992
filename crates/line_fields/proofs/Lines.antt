-- The value that a line spells.
use Rattle.std.proofs.Common.{◌≡◌, ℕ, Bool, true, false, cond, List, Option, Some, None, Ok, Err, refl}
use Rattle.std.specs.Prelude.{is_some, IsTrue, ◌↔◌}
use Rattle.std.specs.Str.{IsUtf8, is_utf8}
use Rattle.std.proofs.lemmas.Str.{IsUtf8-from_is_utf8, is_utf8-from_IsUtf8}
use Rattle.serde_json.specs.Data.{Data}
use Rattle.serde_json.specs.Find.{as_object}
use Rattle.serde_json.specs.Read.{read}
use Rattle.line_fields.specs.declared.fault.LineFault.TheVariants.{NotJson, NotAnObject}
use Rattle.line_fields.specs.Line.{value_of, object_of}

pub value_of-some : (bytes : List ℕ) (d : Data) → IsUtf8 bytes → read bytes ≡ Some d → value_of bytes ≡ Some d
unfolding value_of
value_of-some bytes d utf8 is = rw (is_utf8-from_IsUtf8 bytes utf8) is

none_by : (b : Bool) (o : Option Data) → (b ≡ true → o ≡ None) → cond b o None ≡ None
none_by true o h = h refl
none_by false o h = refl

pub value_of-none : (bytes : List ℕ) → (IsUtf8 bytes → read bytes ≡ None) → value_of bytes ≡ None
unfolding value_of
value_of-none bytes refused = none_by (is_utf8 bytes) (read bytes) (λ e. refused (IsUtf8-from_is_utf8 bytes e))

pub object_of-ok : (bytes : List ℕ) (d : Data) → IsUtf8 bytes → read bytes ≡ Some d → is_some (as_object d) ≡ true → object_of bytes ≡ Ok d
unfolding object_of
object_of-ok bytes d utf8 is object = rw (value_of-some bytes d utf8 is, object) refl

pub object_of-other : (bytes : List ℕ) (d : Data) → IsUtf8 bytes → read bytes ≡ Some d → is_some (as_object d) ≡ false → object_of bytes ≡ Err NotAnObject
unfolding object_of
object_of-other bytes d utf8 is other = rw (value_of-some bytes d utf8 is, other) refl

pub object_of-none : (bytes : List ℕ) → (IsUtf8 bytes → read bytes ≡ None) → object_of bytes ≡ Err NotJson
unfolding object_of
object_of-none bytes refused = rw (value_of-none bytes refused) refl

pub no_fact_at_false : {P : Type 0} (b : Bool) → (IsTrue b ↔ P) → b ≡ false → P → ⊥
no_fact_at_false true both e p = absurd cc
no_fact_at_false false both e p = let t = both.1 p in cc
