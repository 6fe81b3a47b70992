-- What is said of a table line that is refused needs no escape.
use Rattle.std.proofs.Common.{◌≡◌, ℕ, Bool, true, false, cond, List, [], ◌∷◌, ◌++◌, decimal, Option, Some, None, Result, Ok, Err, refl, ap, subst}
use Rattle.std.specs.Prelude.{IfSome}
use Rattle.std.specs.List.{AllByRecursion, list_any}
use Rattle.serde_json.specs.Data.{Data}
use Rattle.line_fields.specs.Field.{field_name}
use Rattle.line_fields.specs.Faults.{field_fault_number}
use Rattle.line_fields.specs.Line.{object_of}
use Rattle.line_fields.specs.Values.{◌>>=◌}
use Rattle.line_fields.specs.declared.field.Field.{Field}
use Rattle.line_fields.specs.declared.field.Field.TheVariants as field
use Rattle.line_fields.specs.declared.fault.LineFault.{LineFault}
use Rattle.line_fields.specs.declared.fault.LineFault.TheVariants as line
use Rattle.cost_table.specs.DistinctNames.{first_repeated, names_or_fault, repeated_from, unrepeated}
use Rattle.cost_table.specs.Names.{NameLists}
use Rattle.cost_table.specs.Table.{Table}
use Rattle.faults.specs.declared.faults.TableFault.{TableFault}
use Rattle.faults.specs.declared.faults.TableFault.TheVariants as table
use Rattle.table_lines.specs.StatedTable.{stated_in, stated_line}
use Rattle.table_lines.specs.TableCost.{even_table_of, is_too_large, with_line_fault, with_table_fault}
use Rattle.table_lines.specs.TableDetails.{table_details, table_line_details}
use Rattle.table_lines.specs.TableLine.{TableText, table_of}
use Rattle.table_lines.specs.TablePart.{table_of_line}
use Rattle.table_lines.specs.TableRefusals.{refusal_of_line, refusal_of_table}
use Rattle.table_lines.specs.declared.table_refusal.TableRefusal.{TableRefusal}
use Rattle.table_lines.specs.declared.table_refusal.TableRefusal.TheVariants.{Table as OfTable}
use Rattle.table_lines.proofs.Clean.{AreClean, clean-append, decimal_clean}
use Rattle.table_lines.proofs.CleanCodes.{orders_clean, wagons_clean}

abbrev pub SaysClean : TableRefusal → Type 0
SaysClean refusal = AreClean (table_line_details refusal)

-- ---- the names of a table that was read

pub record HasCleanNames (t : TableText) : Type 0 where
  pub wagons : AllByRecursion AreClean t.wagons
  pub orders : AllByRecursion AreClean t.orders

abbrev wagons_in : Result TableText LineFault → Result (List (List ℕ)) LineFault
wagons_in r = r >>= λ t. Ok t.wagons

abbrev orders_in : Result TableText LineFault → Result (List (List ℕ)) LineFault
orders_in r = r >>= λ t. Ok t.orders

named_by : (w o : Result (List (List ℕ)) LineFault) (c : Result (List (List (Option ℕ))) LineFault) (p : Result (List ℕ) LineFault) (l : Result (Option (List ℕ)) LineFault) (t : TableText)
    → (w >>= λ wagons. o >>= λ orders. c >>= λ cells. p >>= λ penalties. l >>= λ lacks. Ok (record { wagons = wagons; orders = orders; cells = cells; penalties = penalties; lacks = lacks; pairs = []; u = []; v = [] })) ≡ Ok t
    → (w ≡ Ok t.wagons) × (o ≡ Ok t.orders)
named_by (Err e) o c p l t h = absurd cc
named_by (Ok w) (Err e) c p l t h = absurd cc
named_by (Ok w) (Ok o) (Err e) p l t h = absurd cc
named_by (Ok w) (Ok o) (Ok c) (Err e) l t h = absurd cc
named_by (Ok w) (Ok o) (Ok c) (Ok p) (Err e) t h = absurd cc
named_by (Ok w) (Ok o) (Ok c) (Ok p) (Ok l) t h = (ap wagons_in h, ap orders_in h)

table_named : (d : Data) (t : TableText) → table_of d ≡ Ok t → HasCleanNames t
unfolding table_of
table_named d t h =
    let both = named_by _ _ _ _ _ t h in
    record {
      wagons = wagons_clean field.Wagons d t.wagons both.0;
      orders = orders_clean field.Orders d t.orders both.1;
    }

line_by : (r : Result Data LineFault) (t : TableText) → (r >>= table_of) ≡ Ok t → HasCleanNames t
line_by (Ok d) t h = table_named d t h
line_by (Err e) t h = absurd cc

line_named : (bytes : List ℕ) (t : TableText) → table_of_line bytes ≡ Ok t → HasCleanNames t
unfolding table_of_line
line_named bytes t h = line_by (object_of bytes) t h

-- ---- a name that is listed twice

either_if : (b : Bool) (name : List ℕ) (o : Option (List ℕ)) → AreClean name → IfSome o AreClean → IfSome (cond b (Some name) o) AreClean
either_if true name o p q = p
either_if false name o p q = q

repeated_clean : (same : List ℕ → List ℕ → Bool) (before names : List (List ℕ)) → AllByRecursion AreClean names → IfSome (repeated_from same before names) AreClean
repeated_clean same before [] h = tt
repeated_clean same before (name ∷ names) h =
    either_if (list_any (λ y. same y name) before) name (repeated_from same (before ++ name ∷ []) names) h.0 (repeated_clean same (before ++ name ∷ []) names h.1)

abbrev FaultSaysClean : TableFault → Type 0
FaultSaysClean fault = AreClean (table_details fault)

unrepeated_clean : (names : NameLists) (wagon order : Option (List ℕ)) (fault : TableFault) → IfSome wagon AreClean → IfSome order AreClean → unrepeated names wagon order ≡ Err fault → FaultSaysClean fault
unrepeated_clean names (Some w) order fault p q h = let same : table.DuplicateWagon w ≡ fault = cc in subst FaultSaysClean same p
unrepeated_clean names None (Some o) fault p q h = let same : table.DuplicateOrder o ≡ fault = cc in subst FaultSaysClean same q
unrepeated_clean names None None fault p q h = absurd cc

names_by : (b : Bool) (names : Result NameLists TableFault) (fault : TableFault) → (names ≡ Err fault → FaultSaysClean fault) → cond b (Err table.TooLarge) names ≡ Err fault → FaultSaysClean fault
names_by true names fault f h = let same : table.TooLarge ≡ fault = cc in subst FaultSaysClean same refl
names_by false names fault f h = f h

names_clean : (wagons orders : List (List ℕ)) (fault : TableFault) → AllByRecursion AreClean wagons → AllByRecursion AreClean orders → names_or_fault wagons orders ≡ Err fault → FaultSaysClean fault
names_clean wagons orders fault p q h =
    let names : NameLists = record { wagons = wagons; orders = orders } in
    let twice = unrepeated_clean names (first_repeated wagons) (first_repeated orders) fault (repeated_clean _ [] wagons p) (repeated_clean _ [] orders q) in
    names_by _ (unrepeated names (first_repeated wagons) (first_repeated orders)) fault twice h

-- ---- refusals

table_says : (fault : TableFault) → FaultSaysClean fault → SaysClean (refusal_of_table fault)
table_says table.OutOfMemory h = refl
table_says (table.DuplicateWagon wagon) h = h
table_says (table.DuplicateOrder order) h = h
table_says table.TooLarge h = refl
table_says table.UnevenRows h = refl

name_clean : (f : Field) → AreClean (field_name f)
unfolding field_name
name_clean field.TypeName = refl
name_clean field.Company = refl
name_clean field.Number = refl
name_clean field.Wagon = refl
name_clean field.Place = refl
name_clean field.Moment = refl
name_clean field.Hold = refl
name_clean field.Order = refl
name_clean field.Classes = refl
name_clean field.Load = refl
name_clean field.Latest = refl
name_clean field.Penalty = refl
name_clean field.At = refl
name_clean field.Version = refl
name_clean field.Pairs = refl
name_clean field.WagonPrices = refl
name_clean field.OrderPrices = refl
name_clean field.Revision = refl
name_clean field.Wagons = refl
name_clean field.Orders = refl
name_clean field.Cells = refl
name_clean field.Penalties = refl
name_clean field.Lacks = refl
name_clean field.Format = refl
name_clean field.Network = refl
name_clean field.Class = refl
name_clean field.Status = refl
name_clean field.Ready = refl
name_clean field.Last = refl
name_clean field.Held = refl
name_clean field.Promise = refl
name_clean field.Promised = refl
name_clean field.Filled = refl
name_clean field.Lines = refl

line_says : (fault : LineFault) → SaysClean (refusal_of_line fault)
line_says line.OutOfMemory = refl
line_says line.NotJson = refl
line_says line.NotAnObject = refl
line_says line.UnknownType = refl
line_says (line.MissingField f) = name_clean f
line_says (line.BadField f fault) = clean-append (32 ∷ field_name f) (32 ∷ decimal (field_fault_number fault)) (name_clean f) (decimal_clean (field_fault_number fault))

even_by : (b : Bool) (made : Table) (refusal : TableRefusal) → cond b (Ok made) (Err (OfTable table.UnevenRows)) ≡ Err refusal → SaysClean refusal
even_by true made refusal h = absurd cc
even_by false made refusal h = let same : OfTable table.UnevenRows ≡ refusal = cc in subst SaysClean same refl

abbrev both_stated : NameLists → Table → Result (NameLists × Table) TableRefusal
both_stated names table = Ok (names, table)

stated_by : (b : Bool) (names : Result NameLists TableFault) (even : Result Table TableRefusal) (refusal : TableRefusal)
    → ((fault : TableFault) → names ≡ Err fault → FaultSaysClean fault) → (even ≡ Err refusal → SaysClean refusal)
    → cond b (Err (OfTable table.TooLarge)) (with_table_fault names >>= λ n. even >>= λ s. both_stated n s) ≡ Err refusal → SaysClean refusal
stated_by true names even refusal f g h = let same : OfTable table.TooLarge ≡ refusal = cc in subst SaysClean same refl
stated_by false (Err fault) even refusal f g h = let same : refusal_of_table fault ≡ refusal = cc in subst SaysClean same (table_says fault (f fault refl))
stated_by false (Ok n) (Err e) refusal f g h = let same : e ≡ refusal = cc in g (ap (λ (r : TableRefusal). Err r) same)
stated_by false (Ok n) (Ok s) refusal f g h = absurd cc

stated_says : (t : TableText) (refusal : TableRefusal) → HasCleanNames t → stated_in t ≡ Err refusal → SaysClean refusal
unfolding stated_in
stated_says t refusal names h =
    stated_by (is_too_large t) (names_or_fault t.wagons t.orders) (even_table_of t) refusal (λ fault. names_clean t.wagons t.orders fault names.wagons names.orders)
    (even_by _ _ refusal) h

then_is : (r : Result (NameLists × Table) TableRefusal) (t : TableText) (refusal : TableRefusal) → (r >>= λ s. Ok t) ≡ Err refusal → r ≡ Err refusal
then_is (Ok s) t refusal h = absurd cc
then_is (Err e) t refusal h = cc

read_by : (r : Result TableText LineFault) (refusal : TableRefusal) → ((t : TableText) → r ≡ Ok t → HasCleanNames t)
    → (with_line_fault r >>= λ t. stated_in t >>= λ s. Ok t) ≡ Err refusal → SaysClean refusal
read_by (Ok t) refusal f h = stated_says t refusal (f t refl) (then_is (stated_in t) t refusal h)
read_by (Err fault) refusal f h = let same : refusal_of_line fault ≡ refusal = cc in subst SaysClean same (line_says fault)

-- why a line states no table
pub refused_line_says : (bytes : List ℕ) (refusal : TableRefusal) → stated_line bytes ≡ Err refusal → SaysClean refusal
unfolding stated_line
refused_line_says bytes refusal h = read_by (table_of_line bytes) refusal (line_named bytes) h
