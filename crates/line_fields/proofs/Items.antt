-- The items of a list, as a loop goes over them.
use Rattle.std.proofs.Common.{◌≡◌, ℕ, suc, ◌+◌, ◌<◌, ◌≤◌, List, [], ◌∷◌, ◌++◌, length, get_or, drop, Result, Ok, Err, refl, sym, ap, ◌∙◌, append_assoc, add-one}
use Rattle.std.proofs.Math.Seq.{drop-cons}
use Rattle.std.proofs.lemmas.List.{append-nil, drop_all}
use Rattle.serde_json.specs.Data.{Data, item}
use Rattle.serde_json.specs.Events.{items_len}
use Rattle.serde_json.specs.View.{view, items_view}
use Rattle.serde_json.specs.declared.value.Value.{Value}
use Rattle.serde_json.proofs.Views.{items_len-items_view}
use Rattle.line_fields.specs.declared.field.Field.{Field}
use Rattle.line_fields.specs.declared.fault.FieldFault.{FieldFault}
use Rattle.line_fields.specs.declared.fault.FieldFault.TheVariants.{OutOfRange}
use Rattle.line_fields.specs.declared.fault.LineFault.{LineFault}
use Rattle.line_fields.specs.Values.{◌>>=◌, each, list_of, two_items, wagon_number_from, order_id_from, wagon_and_order}
use Rattle.line_fields.specs.inner.Loops.{with_front}
use Rattle.line_fields.specs.Fields.{in_field}

pub items_len_is_length : (vs : List Value) → items_len (items_view vs) ≡ length vs
items_len_is_length vs = items_len-items_view vs

-- ---- faults in their field

pub in_field_ok : {A : Type 0} (field : Field) (r : Result A FieldFault) (x : A) → Ok x ≡ in_field field r → r ≡ Ok x
in_field_ok field (Ok y) x e = cc
in_field_ok field (Err f) x e = absurd cc

pub in_field_err : {A B : Type 0} (field : Field) (r : Result A FieldFault) (fault : LineFault) (total : Result B FieldFault) → Err fault ≡ in_field field r → ((f : FieldFault) → r ≡ Err f → total ≡ Err f) → in_field field total ≡ Err fault
in_field_err field (Ok y) fault total e stops = absurd cc
in_field_err field (Err f) fault total e stops = let t = stops f refl in rw t (cc)

-- ---- one turn of the loop

first_is : (vs : List Value) (i : ℕ) (v : Value) → i < length vs → v ≡ get_or vs i v → items_view (drop i vs) ≡ item (view v) (items_view (drop (i + 1) vs))
first_is vs i v lt is =
    let whole : drop i vs ≡ v ∷ drop (i + 1) vs = rw (add-one) (drop-cons vs i v lt ∙ ap (λ (w : Value). w ∷ drop (suc i) vs) (sym is)) in
    ap items_view whole

regroup : {A : Type 0} (front : List A) (x : A) (rest : Result (List A) FieldFault) → with_front front (rest >>= λ xs. Ok (x ∷ xs)) ≡ with_front (front ++ x ∷ []) rest
regroup front x (Ok xs) = ap (λ ys. Ok ys) (sym (append_assoc front (x ∷ []) xs))
regroup front x (Err f) = refl

pub goes_on : {A : Type 0} (read : Data → Result A FieldFault) (vs : List Value) (i : ℕ) (v : Value) (front : List A) (x : A) (total : Result (List A) FieldFault) → i < length vs → v ≡ get_or vs i v → read (view v) ≡ Ok x
    → with_front front (each read (items_view (drop i vs))) ≡ total → with_front (front ++ x ∷ []) (each read (items_view (drop (i + 1) vs))) ≡ total
unfolding each
goes_on read vs i v front x total lt is ok so_far =
    let one : with_front front (each read (items_view (drop i vs))) ≡ with_front (front ++ x ∷ []) (each read (items_view (drop (i + 1) vs))) = rw (first_is vs i v lt is, ok) (regroup front x (each read (items_view (drop (i + 1) vs)))) in
    sym one ∙ so_far

pub stops : {A : Type 0} (read : Data → Result A FieldFault) (vs : List Value) (i : ℕ) (v : Value) (front : List A) (f : FieldFault) (total : Result (List A) FieldFault) → i < length vs → v ≡ get_or vs i v → read (view v) ≡ Err f
    → with_front front (each read (items_view (drop i vs))) ≡ total → total ≡ Err f
unfolding each
stops read vs i v front f total lt is err so_far =
    let one : with_front front (each read (items_view (drop i vs))) ≡ Err f = rw (first_is vs i v lt is, err) refl in
    sym so_far ∙ one

pub is_done : {A : Type 0} (read : Data → Result A FieldFault) (vs : List Value) (i : ℕ) (front : List A) (total : Result (List A) FieldFault) → length vs ≤ i
    → with_front front (each read (items_view (drop i vs))) ≡ total → total ≡ Ok front
unfolding each
is_done read vs i front total past so_far =
    let nothing : drop i vs ≡ [] = drop_all i vs past in
    let one : with_front front (each read (items_view (drop i vs))) ≡ Ok front = rw nothing (ap (λ ys. Ok ys) (append-nil front)) in
    sym so_far ∙ one

-- ---- pairs

both_needs_two : {A B : Type 0} (first : Data → Result A FieldFault) (second : Data → Result B FieldFault) (vs : List Value) → (length vs ≡ 2 → ⊥) → two_items first second (items_view vs) ≡ Err OutOfRange
both_needs_two first second [] other = refl
both_needs_two first second (v ∷ []) other = refl
both_needs_two first second (v ∷ w ∷ []) other = absurd (other refl)
both_needs_two first second (v ∷ w ∷ x ∷ vs) other = refl

pub pair_of_needs_two : (d : Data) (vs : List Value) → list_of d ≡ Ok (items_view vs) → (length vs ≡ 2 → ⊥) → wagon_and_order d ≡ Err OutOfRange
unfolding wagon_and_order
pair_of_needs_two d vs is other = rw is (both_needs_two wagon_number_from order_id_from vs other)
