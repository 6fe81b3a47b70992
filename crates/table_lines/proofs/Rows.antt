-- The rows of cells, as a loop goes over them.
use Rattle.std.proofs.Common.{◌≡◌, ℕ, ◌<◌, List, length, get_or, drop, Result, sym}
use Rattle.serde_json.specs.Data.{Data}
use Rattle.serde_json.specs.View.{view, items_view}
use Rattle.serde_json.specs.declared.value.Value.{Value}
use Rattle.line_fields.specs.declared.field.Field.{Field}
use Rattle.line_fields.specs.declared.fault.FieldFault.{FieldFault}
use Rattle.line_fields.specs.declared.fault.LineFault.{LineFault}
use Rattle.line_fields.specs.Values.{each}
use Rattle.line_fields.specs.inner.Loops.{with_front}
use Rattle.line_fields.specs.Fields.{Fails, in_field}
use Rattle.line_fields.proofs.Items.{in_field_err, stops}

-- the first row that fails gives the fault of all
pub row_fails : {A : Type 0} (field : Field) (read : Data → Result A FieldFault) (vs : List Value) (i : ℕ) (v : Value) (front : List A) (e : LineFault) (total : Result (List A) FieldFault) → i < length vs → v ≡ get_or vs i v → Fails e (in_field field (read (view v)))
    → with_front front (each read (items_view (drop i vs))) ≡ total → Fails e (in_field field total)
row_fails field read vs i v front e total lt is fails so_far =
    λ other. in_field_err field (read (view v)) e total (sym (fails other)) (λ fault err. stops read vs i v front fault total lt is err so_far)
