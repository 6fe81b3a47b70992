-- The fields of a JSON object d: what each is read as, or its fault.
use Rattle.std.specs.Prelude.{◌≡◌, ◌≢◌, List, Option, Some, None, Result, Ok, Err}
use Rattle.std.specs.Option.{ok_or}
use Rattle.serde_json.specs.Data.{Data}
use Rattle.serde_json.specs.Find.{get}
use Rattle.line_fields.specs.declared.field.Field.{Field}
use Rattle.line_fields.specs.declared.fault.FieldFault.{FieldFault}
use Rattle.line_fields.specs.declared.fault.LineFault.{LineFault}
use Rattle.line_fields.specs.declared.fault.LineFault.TheVariants.{OutOfMemory, MissingField, BadField}
use Rattle.line_fields.specs.Field.{field_name}
use Rattle.line_fields.specs.Values.{◌>>=◌, list_of_each}

-- a call that fails with a fault other than OutOfMemory has the fault that reading gives
abbrev pub Fails : {Y : Type 0} → LineFault → Result Y LineFault → Type 0
Fails fault read = fault ≢ OutOfMemory → read ≡ Err fault

-- what a call returned, seen by view, is what reading gives; OutOfMemory may be returned in place of it
abbrev pub Gives : {X Y : Type 0} → (X → Y) → Result X LineFault → Result Y LineFault → Type 0
Gives view (Ok x) read = read ≡ Ok (view x)
Gives view (Err e) read = Fails e read

-- what was returned, seen by view
abbrev pub seen_by : {X Y E : Type 0} → (X → Y) → Result X E → Result Y E
seen_by view (Ok x) = Ok (view x)
seen_by view (Err e) = Err e

-- what a member's value was read as, or its fault as that of the field
abbrev pub in_field : {A : Type 0} → Field → Result A FieldFault → Result A LineFault
in_field field (Ok x) = Ok x
in_field field (Err fault) = Err (BadField field fault)

-- the member of that name, else it is missing
unfoldable pub member : Field → Data → Result Data LineFault
member field d = ok_or (get (field_name field) d) (MissingField field)

-- a field that has to be there
unfoldable pub field_of : {A : Type 0} → (Data → Result A FieldFault) → Field → Data → Result A LineFault
field_of read field d = member field d >>= λ value. in_field field (read value)

-- a field that may be missing
abbrev pub if_there : {A : Type 0} → (Data → Result A LineFault) → Option Data → Result (Option A) LineFault
if_there read None = Ok None
if_there read (Some value) = read value >>= λ x. Ok (Some x)

unfoldable pub optional_field_of : {A : Type 0} → (Data → Result A FieldFault) → Field → Data → Result (Option A) LineFault
optional_field_of read field d = if_there (λ value. in_field field (read value)) (get (field_name field) d)

-- ---- fields that are lists of any length

abbrev pub list_at : {A : Type 0} → (Data → Result A FieldFault) → Field → Data → Result (List A) LineFault
list_at read field d = field_of (list_of_each read) field d

abbrev pub optional_list_at : {A : Type 0} → (Data → Result A FieldFault) → Field → Data → Result (Option (List A)) LineFault
optional_list_at read field d = optional_field_of (list_of_each read) field d
