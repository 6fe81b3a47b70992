-- The line of a wagon is read as its row.
use Rattle.std.proofs.Common.{◌≡◌, ◌≤◌, ℕ, List, Option, Some, None, Ok, codes, refl, ap, arith}
use Rattle.std.specs.Prelude.{option_map, unwrap_or}
use Rattle.json.specs.Tree.{depth}
use Rattle.serde_json.specs.Data.{Data, string}
use Rattle.serde_json.specs.Find.{get}
use Rattle.serde_json.specs.Read.{of_json, max_depth}
use Rattle.serde_json.specs.Written.{outline}
use Rattle.serde_json.proofs.Numbers.{number_of-decimal}
use Rattle.rail_codes.specs.ClassCode.{class_code_of}
use Rattle.rail_codes.specs.Moment.{moment_of}
use Rattle.rail_codes.specs.OrderId.{order_id_of}
use Rattle.rail_codes.specs.Place.{place_read}
use Rattle.rail_codes.specs.WagonNumber.{wagon_number_of}
use Rattle.line_fields.specs.declared.field.Field.TheVariants as field
use Rattle.line_fields.specs.Field.{field_name}
use Rattle.line_fields.specs.Fields.{member, field_of, optional_field_of}
use Rattle.move_messages.specs.MaxLoad.{max_load}
use Rattle.line_fields.specs.Values.{◌>>=◌, boolean_of, text_of}
use Rattle.line_fields.proofs.Writing.{code-reads, moment-reads, number_reads}
use Rattle.wagons_and_orders.specs.declared.load.Load.TheVariants.{Loaded, Unladen}
use Rattle.wagons_and_orders.specs.declared.status.Status.{Status}
use Rattle.wagons_and_orders.specs.declared.status.Status.TheVariants.{Empty, Loading, Ready, Journey, Yard, Arrived, Unloading}
use Rattle.wagons_and_orders.specs.declared.wagon_row.WagonRow.{WagonRow}
use Rattle.wagons_and_orders.specs.StatusTable.{place_of}
use Rattle.wagons_and_orders.specs.StatusWords.{ready_moment, status_of_word, status_word}
use Rattle.checkpoint.specs.declared.line.CheckpointLine.TheVariants.{Wagon}
use Rattle.checkpoint.specs.LineReading.{known_status, line_of_type, ready_of, wagon_row_of}
use Rattle.checkpoint.specs.LineWriting.{wagon_data}
use Rattle.checkpoint.proofs.Objects.{wagon_object}
use Rattle.checkpoint.specs.inner.Readable.{AreWagonCodes, IsReadableIfThere}

-- the row with another promise
abbrev with_promise : WagonRow → Option (List ℕ) → WagonRow
with_promise row promise = record row { promise = promise }

spells : (row : WagonRow) (promise ready : Option (List ℕ)) (last : List ℕ) → row.load_limit ≤ max_load
    → of_json (outline (wagon_data (with_promise row promise) ready last)) ≡ Some (wagon_object (with_promise row promise) ready last)
spells row None None last small = rw (number_of-decimal row.load_limit (omega (arith, small))) refl
spells row None (Some text) last small = rw (number_of-decimal row.load_limit (omega (arith, small))) refl
spells row (Some id) None last small = rw (number_of-decimal row.load_limit (omega (arith, small))) refl
spells row (Some id) (Some text) last small = rw (number_of-decimal row.load_limit (omega (arith, small))) refl

pub wagon_spells : (row : WagonRow) (ready : Option (List ℕ)) (last : List ℕ) → row.load_limit ≤ max_load → of_json (outline (wagon_data row ready last)) ≡ Some (wagon_object row ready last)
wagon_spells row ready last small = spells row row.promise ready last small

nests : (row : WagonRow) (promise ready : Option (List ℕ)) (last : List ℕ) → depth (outline (wagon_data (with_promise row promise) ready last)) ≤ max_depth
nests row None None last = omega arith
nests row None (Some text) last = omega arith
nests row (Some id) None last = omega arith
nests row (Some id) (Some text) last = omega arith

pub wagon_nests : (row : WagonRow) (ready : Option (List ℕ)) (last : List ℕ) → depth (outline (wagon_data row ready last)) ≤ max_depth
wagon_nests row ready last = nests row row.promise ready last

-- ---- its fields

-- the word of a status is read as it
status-reads : (status : Status) (last : ℕ) → status_of_word (status_word status) (place_of status) (unwrap_or (ready_moment status) last) ≡ Some status
status-reads (Empty place ready) last = refl
status-reads (Loading place) last = refl
status-reads (Ready place) last = refl
status-reads (Journey Loaded place) last = refl
status-reads (Journey Unladen place) last = refl
status-reads (Yard Loaded place) last = refl
status-reads (Yard Unladen place) last = refl
status-reads (Arrived Loaded place) last = refl
status-reads (Arrived Unladen place) last = refl
status-reads (Unloading place) last = refl

ready-reads : (status : Status) (ready : Option (List ℕ)) (d : Data) → IsReadableIfThere (ready_moment status) ready → get (field_name field.Ready) d ≡ option_map string ready → ready_of (status_word status) d ≡ Ok (ready_moment status)
unfolding ready_of field_of member
ready-reads (Empty place since) None d readable there = absurd readable
ready-reads (Empty place since) (Some text) d readable there = rw (there, moment-reads text since readable.1) refl
ready-reads (Loading place) ready d readable there = refl
ready-reads (Ready place) ready d readable there = refl
ready-reads (Journey Loaded place) ready d readable there = refl
ready-reads (Journey Unladen place) ready d readable there = refl
ready-reads (Yard Loaded place) ready d readable there = refl
ready-reads (Yard Unladen place) ready d readable there = refl
ready-reads (Arrived Loaded place) ready d readable there = refl
ready-reads (Arrived Unladen place) ready d readable there = refl
ready-reads (Unloading place) ready d readable there = refl

reads : (row : WagonRow) (promise ready : Option (List ℕ)) (last : List ℕ) → row.load_limit ≤ max_load → AreWagonCodes (with_promise row promise)
    → IsReadableIfThere (ready_moment row.status) ready → moment_of last ≡ Ok row.last
    → wagon_row_of (wagon_object (with_promise row promise) ready last) ≡ Ok (with_promise row promise)
unfolding wagon_row_of field_of member field_name optional_field_of boolean_of text_of
reads row None None last small said readable moment =
    rw (
      code-reads wagon_number_of row.number row.number said.number,
      code-reads class_code_of row.class row.class said.class,
      number_reads 0 max_load row.load_limit (omega arith) small,
      code-reads place_read (place_of row.status) (place_of row.status) said.place,
      ready-reads row.status None (wagon_object (with_promise row None) None last) readable refl,
      moment-reads last row.last moment,
    ) (ap (λ status. known_status status >>= λ s. Ok (record row { status = s; promise = None })) (status-reads row.status row.last))
reads row None (Some text) last small said readable moment =
    rw (
      code-reads wagon_number_of row.number row.number said.number,
      code-reads class_code_of row.class row.class said.class,
      number_reads 0 max_load row.load_limit (omega arith) small,
      code-reads place_read (place_of row.status) (place_of row.status) said.place,
      ready-reads row.status (Some text) (wagon_object (with_promise row None) (Some text) last) readable refl,
      moment-reads last row.last moment,
    ) (ap (λ status. known_status status >>= λ s. Ok (record row { status = s; promise = None })) (status-reads row.status row.last))
reads row (Some id) None last small said readable moment =
    rw (
      code-reads wagon_number_of row.number row.number said.number,
      code-reads class_code_of row.class row.class said.class,
      number_reads 0 max_load row.load_limit (omega arith) small,
      code-reads place_read (place_of row.status) (place_of row.status) said.place,
      ready-reads row.status None (wagon_object (with_promise row (Some id)) None last) readable refl,
      moment-reads last row.last moment,
      code-reads order_id_of id id said.promise,
    ) (ap (λ status. known_status status >>= λ s. Ok (record row { status = s; promise = Some id })) (status-reads row.status row.last))
reads row (Some id) (Some text) last small said readable moment =
    rw (
      code-reads wagon_number_of row.number row.number said.number,
      code-reads class_code_of row.class row.class said.class,
      number_reads 0 max_load row.load_limit (omega arith) small,
      code-reads place_read (place_of row.status) (place_of row.status) said.place,
      ready-reads row.status (Some text) (wagon_object (with_promise row (Some id)) (Some text) last) readable refl,
      moment-reads last row.last moment,
      code-reads order_id_of id id said.promise,
    ) (ap (λ status. known_status status >>= λ s. Ok (record row { status = s; promise = Some id })) (status-reads row.status row.last))

pub wagon-reads : (row : WagonRow) (ready : Option (List ℕ)) (last : List ℕ) → row.load_limit ≤ max_load → AreWagonCodes row → IsReadableIfThere (ready_moment row.status) ready → moment_of last ≡ Ok row.last
    → wagon_row_of (wagon_object row ready last) ≡ Ok row
wagon-reads row ready last small said readable moment = reads row row.promise ready last small said readable moment

kind : (row : WagonRow) (promise ready : Option (List ℕ)) (last : List ℕ) → field_of text_of field.TypeName (wagon_object (with_promise row promise) ready last) ≡ Ok (codes "wagon")
unfolding field_of member field_name text_of
kind row None None last = refl
kind row None (Some text) last = refl
kind row (Some id) None last = refl
kind row (Some id) (Some text) last = refl

pub wagon_kind : (row : WagonRow) (ready : Option (List ℕ)) (last : List ℕ) → field_of text_of field.TypeName (wagon_object row ready last) ≡ Ok (codes "wagon")
wagon_kind row ready last = kind row row.promise ready last

pub wagon_typed : (row : WagonRow) (ready : Option (List ℕ)) (last : List ℕ) → row.load_limit ≤ max_load → AreWagonCodes row → IsReadableIfThere (ready_moment row.status) ready → moment_of last ≡ Ok row.last
    → line_of_type (codes "wagon") (wagon_object row ready last) ≡ Ok (Wagon row)
unfolding line_of_type
wagon_typed row ready last small said readable moment = rw (wagon-reads row ready last small said readable moment) refl
