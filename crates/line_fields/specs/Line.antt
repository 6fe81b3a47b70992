-- A line as one JSON object.
use Rattle.std.specs.Prelude.{ℕ, List, if◌then◌else◌, Option, Some, None, Result, Ok, Err, is_some}
use Rattle.std.specs.Str.{is_utf8}
use Rattle.serde_json.specs.Data.{Data}
use Rattle.serde_json.specs.Find.{as_object}
use Rattle.serde_json.specs.Read.{read}
use Rattle.line_fields.specs.declared.fault.LineFault.{LineFault}
use Rattle.line_fields.specs.declared.fault.LineFault.TheVariants.{NotJson, NotAnObject}

-- the one JSON value that the bytes spell, in UTF-8
unfoldable pub value_of : List ℕ → Option Data
value_of bytes = if is_utf8 bytes then read bytes else None

-- the value, where it is an object
abbrev pub if_object : Option Data → Result Data LineFault
if_object None = Err NotJson
if_object (Some d) = if is_some (as_object d) then Ok d else Err NotAnObject

-- the object that a line is, else why it is none
unfoldable pub object_of : List ℕ → Result Data LineFault
object_of bytes = if_object (value_of bytes)
