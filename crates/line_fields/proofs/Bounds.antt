-- What holds of each item that was read.
use Rattle.std.proofs.Common.{◌≡◌, ℕ, ◌≤◌, Bool, true, false, cond, leb, List, [], ◌∷◌, All, Option, Some, None, Result, Ok, Err, refl, subst}
use Rattle.std.specs.Prelude.{◌&&◌, IfOk, option_and_then}
use Rattle.std.specs.Global.{Vec}
use Rattle.std.specs.List.{AllByRecursion, AllZip}
use Rattle.std.specs.Option.{ok_or}
use Rattle.std.proofs.lemmas.Bool.{leb-true}
use Rattle.std.proofs.lemmas.List.Elements.{All-from_recursion}
use Rattle.serde_json.specs.View.{view, items_view}
use Rattle.serde_json.specs.declared.value.Value.{Value}
use Rattle.serde_json.specs.Data.{Data, Items, no_items, item}
use Rattle.serde_json.specs.Find.{get, as_u64, as_number}
use Rattle.line_fields.specs.declared.field.Field.{Field}
use Rattle.line_fields.specs.declared.fault.FieldFault.{FieldFault}
use Rattle.line_fields.specs.declared.fault.FieldFault.TheVariants.{WrongKind, OutOfRange}
use Rattle.line_fields.specs.declared.fault.LineFault.{LineFault}
use Rattle.line_fields.specs.Field.{field_name}
use Rattle.line_fields.specs.Values.{◌>>=◌, number_within, list_of, each, list_of_each}
use Rattle.line_fields.specs.Fields.{Gives, in_field, member, field_of, if_there, optional_field_of, list_at}

-- the value of a step that did not fail
pub bind_ok : {A B E : Type 0} (r : Result A E) (f : A → Result B E) (y : B) → (r >>= f) ≡ Ok y → (x : A) × (r ≡ Ok x) × (f x ≡ Ok y)
bind_ok (Ok x) f y e = (x, refl, e)
bind_ok (Err d) f y e = absurd cc

in_field_is_ok : {A : Type 0} (field : Field) (r : Result A FieldFault) (x : A) → in_field field r ≡ Ok x → r ≡ Ok x
in_field_is_ok field (Ok y) x e = cc
in_field_is_ok field (Err f) x e = absurd cc

abbrev pub IsWithin : ℕ → ℕ → ℕ → Type 0
IsWithin low high n = (low ≤ n) × (n ≤ high)

abbrev done : {A : Type 0} → A → Result A FieldFault
done x = Ok x

chosen : (b c : Bool) (n m : ℕ) → cond (b && c) (done n) (Err OutOfRange) ≡ Ok m → (b ≡ true) × (c ≡ true) × (n ≡ m)
chosen true true n m e = (refl, refl, cc)
chosen true false n m e = absurd cc
chosen false c n m e = absurd cc

pub number_is_within : (low high : ℕ) (d : Data) (n : ℕ) → number_within low high d ≡ Ok n → IsWithin low high n
unfolding number_within
number_is_within low high d n e =
    let b = bind_ok (ok_or (option_and_then as_u64 (as_number d)) WrongKind) (λ m. cond (leb low m && leb m high) (done m) (Err OutOfRange)) n e in
    let t = chosen (leb low b.0) (leb b.0 high) b.0 n b.2 in
    subst (IsWithin low high) t.2 (leb-true low b.0 t.0, leb-true b.0 high t.1)

-- what holds of whatever an item is read as
abbrev pub HoldsOfRead : {A : Type 0} → (Data → Result A FieldFault) → (A → Type 0) → Type 0
HoldsOfRead read P = (d : Data) (x : _) → read d ≡ Ok x → P x

abbrev all_done : {A : Type 0} → List A → Result (List A) FieldFault
all_done xs = Ok xs

ok_is : {A : Type 0} (xs ys : List A) → all_done xs ≡ all_done ys → xs ≡ ys
ok_is xs ys e = cc

each_holds : {A : Type 0} (read : Data → Result A FieldFault) (P : A → Type 0) → HoldsOfRead read P → (ds : Items) (xs : List A) → each read ds ≡ Ok xs → AllByRecursion P xs
unfolding each
each_holds read P holds no_items xs e = subst (AllByRecursion P) (ok_is [] xs e) tt
each_holds read P holds (item d ds) xs e =
    let a = bind_ok (read d) (λ y. each read ds >>= λ ys. Ok (y ∷ ys)) xs e in
    let b = bind_ok (each read ds) (λ ys. Ok (a.0 ∷ ys)) xs a.2 in
    subst (AllByRecursion P) (ok_is (a.0 ∷ b.0) xs b.2) (holds d a.0 a.1, each_holds read P holds ds b.0 b.1)

-- each item was read from the value in its place
pub each_in_place : {A : Type 0} (read : Data → Result A FieldFault) (vs : List Value) (xs : List A) → each read (items_view vs) ≡ Ok xs → AllZip (λ v x. read (view v) ≡ Ok x) vs xs
unfolding each
each_in_place read [] xs e = subst (AllZip (λ v x. read (view v) ≡ Ok x) []) (ok_is [] xs e) tt
each_in_place read (v ∷ vs) xs e =
    let a = bind_ok (read (view v)) (λ y. each read (items_view vs) >>= λ ys. Ok (y ∷ ys)) xs e in
    let b = bind_ok (each read (items_view vs)) (λ ys. Ok (a.0 ∷ ys)) xs a.2 in
    subst (AllZip (λ w x. read (view w) ≡ Ok x) (v ∷ vs)) (ok_is (a.0 ∷ b.0) xs b.2) (a.1, each_in_place read vs b.0 b.1)

pub list_holds : {A : Type 0} (read : Data → Result A FieldFault) (P : A → Type 0) → HoldsOfRead read P → HoldsOfRead (list_of_each read) (All P)
unfolding list_of_each
list_holds read P holds d xs e =
    let a = bind_ok (list_of d) (each read) xs e in
    All-from_recursion P xs (each_holds read P holds a.0 xs a.2)

-- a field
pub field_holds : {A : Type 0} (read : Data → Result A FieldFault) (P : A → Type 0) → HoldsOfRead read P → (field : Field) (d : Data) (x : A) → field_of read field d ≡ Ok x → P x
unfolding field_of
field_holds read P holds field d x e =
    let a = bind_ok (member field d) (λ value. in_field field (read value)) x e in
    holds a.0 x (in_field_is_ok field (read a.0) x a.2)

pub numbers_within : (low high : ℕ) (field : Field) (d : Data) (r : Result (Vec ℕ) LineFault) → Gives (λ v. v.items) r (list_at (number_within low high) field d) → IfOk r (λ v. All (IsWithin low high) v.items)
numbers_within low high field d (Ok v) given = field_holds (list_of_each (number_within low high)) (All (IsWithin low high)) (list_holds (number_within low high) (IsWithin low high) (number_is_within low high)) field d v.items given
numbers_within low high field d (Err e) given = tt

abbrev optional_done : {A : Type 0} → Option A → Result (Option A) LineFault
optional_done o = Ok o

some_is : {A : Type 0} (x y : A) → optional_done (Some x) ≡ optional_done (Some y) → x ≡ y
some_is x y e = cc

there_holds : {A : Type 0} (read : Data → Result A FieldFault) (P : A → Type 0) → HoldsOfRead read P → (field : Field) (o : Option Data) (x : A) → if_there (λ value. in_field field (read value)) o ≡ Ok (Some x) → P x
there_holds read P holds field None x e = absurd cc
there_holds read P holds field (Some value) x e =
    let a = bind_ok (in_field field (read value)) (λ y. optional_done (Some y)) (Some x) e in
    subst P (some_is a.0 x a.2) (holds value a.0 (in_field_is_ok field (read value) a.0 a.1))

-- a field that may be missing
pub optional_field_holds : {A : Type 0} (read : Data → Result A FieldFault) (P : A → Type 0) → HoldsOfRead read P → (field : Field) (d : Data) (x : A) → optional_field_of read field d ≡ Ok (Some x) → P x
unfolding optional_field_of
optional_field_holds read P holds field d x e = there_holds read P holds field (get (field_name field) d) x e
