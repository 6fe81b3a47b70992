-- The lists of a table line, member by member, and the table that they are.
use Rattle.std.proofs.Common.{◌≡◌, ℕ, suc, ◌-◌, ◌<◌, ◌≤◌, Bool, true, false, List, [], ◌∷◌, length, map, Option, Some, None, Result, Ok, refl, ap, ◌∙◌, codes, bytes_eq, option_map, arith}
use Rattle.std.specs.Prelude.{◌^◌, ⊤}
use Rattle.std.specs.Bool.{OnFalse}
use Rattle.std.specs.Global.{Vec}
use Rattle.std.specs.Str.{IsUtf8}
use Rattle.std.proofs.lemmas.Slice.Eq.{bytes_eq-Decides}
use Rattle.json.specs.Token.{Token}
use Rattle.json.specs.Lex.{tokens}
use Rattle.json.specs.Json.{parse_map, read_key, members, value}
use Rattle.json.proofs.Grammar.{value-begin_object}
use Rattle.serde_json.specs.Data.{Data, array, object, Members, no_members, put}
use Rattle.serde_json.specs.Read.{of_json, of_members, converted}
use Rattle.serde_json.proofs.Views.{get_member-put, get_member-put_other}
use Rattle.line_fields.specs.declared.field.Field.{Field}
use Rattle.line_fields.specs.declared.field.Field.TheVariants.{Wagons, Orders, Penalties, Pairs, WagonPrices, OrderPrices}
use Rattle.line_fields.specs.declared.fault.FieldFault.{FieldFault}
use Rattle.line_fields.specs.Field.{field_name}
use Rattle.move_messages.specs.OrderLimits.{max_order_wagons}
use Rattle.line_fields.specs.Values.{number_within, wagon_number_from, order_id_from, wagon_and_order}
use Rattle.line_fields.specs.Fields.{field_of, optional_field_of, member, list_at}
use Rattle.line_fields.specs.Line.{object_of}
use Rattle.line_fields.proofs.Lines.{object_of-ok}
use Rattle.line_fields.proofs.Bounds.{numbers_within}
use Rattle.cost_table.specs.TableLimits.{max_cost}
use Rattle.table_lines.specs.declared.found_lists.FoundLists.{FoundLists}
use Rattle.table_lines.specs.declared.table_line.TableLine.{TableLine}
use Rattle.table_lines.specs.TableLine.{IsWithinLimits, row_of, cells_of, lacks_field, table_of, table_text, table_text_of, table_line_of, with_plan_of}
use Rattle.table_lines.specs.TablePart.{table_of_line}
use Rattle.table_lines.specs.inner.Tokens.{Spells}
use Rattle.table_lines.specs.inner.FoundLists.{IsMember, HoldBut, Hold, IsFilled, TakesMember}
use Rattle.table_lines.proofs.Bounds.{cells_are, lacks_are}
use Rattle.table_lines.proofs.Spelled.{list_read, rows_read}
use Rattle.table_lines.proofs.Turns.{converted-object, member_read, members_over, whole_read}

-- ---- one member more

stays : {A : Type 0} (reads : Data → A → Type 0) (name k : List ℕ) (d : Data) (slot : Option (Vec A)) (ms : Members) → (name ≡ k → ⊥) → IsMember reads name slot ms → IsMember reads name slot (put k d ms)
stays reads name k d None ms other h = get_member-put_other name k d ms other ∙ h
stays reads name k d (Some list) ms other h = (h.0, get_member-put_other name k d ms other ∙ h.1, h.2)

unless_by : {P Q : Type 0} (b : Bool) → (b ≡ false → P → Q) → P → OnFalse b Q
unless_by true f p = tt
unless_by false f p = f refl p

differ : (name k : List ℕ) → bytes_eq name k ≡ false → name ≡ k → ⊥
differ name k e same = let t = (bytes_eq-Decides name k).1 same in absurd cc

other_stays : {A : Type 0} (reads : Data → A → Type 0) (name k : List ℕ) (d : Data) (slot : Option (Vec A)) (ms : Members) → IsMember reads name slot ms → OnFalse (bytes_eq name k) (IsMember reads name slot (put k d ms))
other_stays reads name k d slot ms h = unless_by (bytes_eq name k) (λ e m. stays reads name k d slot ms (differ name k e) m) h

-- a member leaves the lists of the others as they are
pub others_stay : (k : List ℕ) (d : Data) (lists : FoundLists) (ms : Members) → Hold lists ms → HoldBut (λ name. bytes_eq name k) lists (put k d ms)
others_stay k d lists ms h = (
  other_stays (λ e x. wagon_number_from e ≡ Ok x) (codes "wagons") k d lists.wagons ms h.0,
  other_stays (λ e x. order_id_from e ≡ Ok x) (codes "orders") k d lists.orders ms h.1,
  other_stays (λ e row. row_of e ≡ Ok row.items) (codes "cells") k d lists.cells ms h.2,
  other_stays (λ e x. number_within 0 max_cost e ≡ Ok x) (codes "penalties") k d lists.penalties ms h.3,
  other_stays (λ e x. number_within 1 max_order_wagons e ≡ Ok x) (codes "lacks") k d lists.lacks ms h.4,
  other_stays (λ e x. wagon_and_order e ≡ Ok x) (codes "pairs") k d lists.pairs ms h.5,
  other_stays (λ e x. number_within 0 (2 ^ 64 - 1) e ≡ Ok x) (codes "u") k d lists.u ms h.6,
  other_stays (λ e x. number_within 0 (2 ^ 64 - 1) e ≡ Ok x) (codes "v") k d lists.v ms h.7,
)

-- what came next is a list, which the slot holds as the member of any name
record Took {A : Type 0} (reads : Data → A → Type 0) (slot : Option (Vec A)) (ts rest : List Token) : Type 0 where
  pub d : Data
  pub is : converted of_json (value 126 ts) ≡ Some (d, rest)
  pub holds : (name : List ℕ) (ms : Members) → IsMember reads name slot (put name d ms)

took : {A : Type 0} (nests : ℕ) (reads : Data → A → Type 0) (old new : Option (Vec A)) (ts rest : List Token) → suc nests ≤ 126 → IsFilled nests reads old new ts rest → Took reads new ts rest
took nests reads old new ts rest shallow f =
    let s = f.3 in
    record {
      d = array s.1.0;
      is = s.2 126 shallow ∙ ap (λ (e : Data). Some (e, rest)) s.1.1;
      holds = λ name ms. rw f.2 (s.1.0, get_member-put name (array s.1.0) ms, s.1.2);
    }

module _ (lists : FoundLists) (ts rest : List Token) where
  pub takes_wagons : (name : List ℕ) (slot : Option (Vec (List ℕ))) → name ≡ codes "wagons" → IsFilled 0 (λ d x. wagon_number_from d ≡ Ok x) lists.wagons slot ts rest → TakesMember name lists (record lists { wagons = slot }) ts rest
  takes_wagons name slot is f =
      let t = took 0 _ lists.wagons slot ts rest (omega arith) f in
      rw is (t.d, t.is, λ ms h. let o = others_stay (codes "wagons") t.d lists ms h in (t.holds (codes "wagons") ms, o.1, o.2, o.3, o.4, o.5, o.6, o.7))

  pub takes_orders : (name : List ℕ) (slot : Option (Vec (List ℕ))) → name ≡ codes "orders" → IsFilled 0 (λ d x. order_id_from d ≡ Ok x) lists.orders slot ts rest → TakesMember name lists (record lists { orders = slot }) ts rest
  takes_orders name slot is f =
      let t = took 0 _ lists.orders slot ts rest (omega arith) f in
      rw is (t.d, t.is, λ ms h. let o = others_stay (codes "orders") t.d lists ms h in (o.0, t.holds (codes "orders") ms, o.2, o.3, o.4, o.5, o.6, o.7))

  pub takes_cells : (name : List ℕ) (slot : Option (Vec (Vec (Option ℕ)))) → name ≡ codes "cells" → IsFilled 1 (λ d row. row_of d ≡ Ok row.items) lists.cells slot ts rest → TakesMember name lists (record lists { cells = slot }) ts rest
  takes_cells name slot is f =
      let t = took 1 _ lists.cells slot ts rest (omega arith) f in
      rw is (t.d, t.is, λ ms h. let o = others_stay (codes "cells") t.d lists ms h in (o.0, o.1, t.holds (codes "cells") ms, o.3, o.4, o.5, o.6, o.7))

  pub takes_penalties : (name : List ℕ) (slot : Option (Vec ℕ)) → name ≡ codes "penalties" → IsFilled 0 (λ d x. number_within 0 max_cost d ≡ Ok x) lists.penalties slot ts rest → TakesMember name lists (record lists { penalties = slot }) ts rest
  takes_penalties name slot is f =
      let t = took 0 _ lists.penalties slot ts rest (omega arith) f in
      rw is (t.d, t.is, λ ms h. let o = others_stay (codes "penalties") t.d lists ms h in (o.0, o.1, o.2, t.holds (codes "penalties") ms, o.4, o.5, o.6, o.7))

  pub takes_lacks : (name : List ℕ) (slot : Option (Vec ℕ)) → name ≡ codes "lacks" → IsFilled 0 (λ d x. number_within 1 max_order_wagons d ≡ Ok x) lists.lacks slot ts rest → TakesMember name lists (record lists { lacks = slot }) ts rest
  takes_lacks name slot is f =
      let t = took 0 _ lists.lacks slot ts rest (omega arith) f in
      rw is (t.d, t.is, λ ms h. let o = others_stay (codes "lacks") t.d lists ms h in (o.0, o.1, o.2, o.3, t.holds (codes "lacks") ms, o.5, o.6, o.7))

  pub takes_pairs : (name : List ℕ) (slot : Option (Vec (List ℕ × List ℕ))) → name ≡ codes "pairs" → IsFilled 1 (λ d x. wagon_and_order d ≡ Ok x) lists.pairs slot ts rest → TakesMember name lists (record lists { pairs = slot }) ts rest
  takes_pairs name slot is f =
      let t = took 1 _ lists.pairs slot ts rest (omega arith) f in
      rw is (t.d, t.is, λ ms h. let o = others_stay (codes "pairs") t.d lists ms h in (o.0, o.1, o.2, o.3, o.4, t.holds (codes "pairs") ms, o.6, o.7))

  pub takes_u : (name : List ℕ) (slot : Option (Vec ℕ)) → name ≡ codes "u" → IsFilled 0 (λ d x. number_within 0 (2 ^ 64 - 1) d ≡ Ok x) lists.u slot ts rest → TakesMember name lists (record lists { u = slot }) ts rest
  takes_u name slot is f =
      let t = took 0 _ lists.u slot ts rest (omega arith) f in
      rw is (t.d, t.is, λ ms h. let o = others_stay (codes "u") t.d lists ms h in (o.0, o.1, o.2, o.3, o.4, o.5, t.holds (codes "u") ms, o.7))

  pub takes_v : (name : List ℕ) (slot : Option (Vec ℕ)) → name ≡ codes "v" → IsFilled 0 (λ d x. number_within 0 (2 ^ 64 - 1) d ≡ Ok x) lists.v slot ts rest → TakesMember name lists (record lists { v = slot }) ts rest
  takes_v name slot is f =
      let t = took 0 _ lists.v slot ts rest (omega arith) f in
      rw is (t.d, t.is, λ ms h. let o = others_stay (codes "v") t.d lists ms h in (o.0, o.1, o.2, o.3, o.4, o.5, o.6, t.holds (codes "v") ms))

  pub passes_cost : (name : List ℕ) → name ≡ codes "cost" → Spells 0 (λ _. ⊤) ts rest → TakesMember name lists lists ts rest
  passes_cost name is s = rw is (s.0, s.2 126 (omega arith), λ ms h. others_stay (codes "cost") s.0 lists ms h)

-- ---- the members so far

abbrev pub inside : ℕ → Members → List Token → Option (Members × List Token)
inside n old ts = converted (λ ms. of_members ms old) (members (value 126) n ts)

-- Of the members behind an opening brace these are read, and `ts` is left.
pub record ReadSoFar (lists : FoundLists) (from ts : List Token) : Type 0 where
  pub found : Members
  pub held : Hold lists found
  pub turns : ℕ
  pub enough : length ts ≤ turns
  pub so_far : inside (length from) no_members from ≡ inside turns found ts

pub begun : (lists : FoundLists) (ts : List Token) → Hold lists no_members → ReadSoFar lists ts ts
begun lists ts h = record { found = no_members; held = h; turns = length ts; enough = omega arith; so_far = refl }

pub one_more : (old new : FoundLists) (from ts behind rest : List Token) (name : List ℕ) → ReadSoFar old from ts → read_key ts ≡ Some (Some name, behind) → length behind < length ts
    → TakesMember name old new behind rest → length rest < length behind → ReadSoFar new from rest
one_more old new from ts behind rest name r key fewer t fewer_still = record {
  found = put name t.0 r.found;
  held = t.2 r.found r.held;
  turns = r.turns - 1;
  enough = omega (arith, r.enough, fewer, fewer_still);
  so_far = r.so_far ∙ member_read (value 126) r.found r.turns name ts behind rest t.0 (omega (arith, r.enough, fewer)) key t.1;
}

pub ended : (lists : FoundLists) (from ts rest : List Token) → ReadSoFar lists from ts → read_key ts ≡ Some (None, rest) → (ms : Members) × Hold lists ms × (inside (length from) no_members from ≡ Some (ms, rest))
ended lists from ts rest r over = (r.found, r.held, r.so_far ∙ members_over (value 126) r.found r.turns ts rest r.enough over)

pub object_is : (bytes text : List ℕ) (ts : List Token) (ms : Members) → text ≡ bytes → IsUtf8 bytes → tokens text ≡ Token.begin_object ∷ ts → inside (length ts) no_members ts ≡ Some (ms, []) → object_of bytes ≡ Ok (object ms)
object_is bytes text ts ms same utf8 begins within =
    let first : tokens bytes ≡ Token.begin_object ∷ ts = rw (← same) begins in
    let one : converted of_json (value 127 (tokens bytes)) ≡ Some (object ms, []) =
    rw first (ap (converted of_json) (value-begin_object 127 ts (omega arith)) ∙ converted-object (members (value 126) (length ts) ts) ∙ ap (parse_map object) within) in
    object_of-ok bytes (object ms) utf8 (whole_read (value 127 (tokens bytes)) (object ms) one) refl

-- ---- the table of the object

at : {A : Type 0} (read : Data → Result A FieldFault) (field : Field) (list : Vec A) (ms : Members) → IsMember (λ d x. read d ≡ Ok x) (field_name field) (Some list) ms → list_at read field (object ms) ≡ Ok list.items
unfolding field_of member
at read field list ms m = let is = list_read read m.0 list.items m.2 in rw (m.1, is) refl

at_cells : (rows : Vec (Vec (Option ℕ))) (ms : Members) → IsMember (λ d row. row_of d ≡ Ok row.items) (codes "cells") (Some rows) ms → cells_of (object ms) ≡ Ok (map (λ row. row.items) rows.items)
unfolding field_of member field_name
at_cells rows ms m = let is = rows_read m.0 rows.items m.2 in rw (m.1, is) refl

at_lacks : (slot : Option (Vec ℕ)) (ms : Members) → IsMember (λ d x. number_within 1 max_order_wagons d ≡ Ok x) (codes "lacks") slot ms → lacks_field (object ms) ≡ Ok (option_map (λ list. list.items) slot)
unfolding optional_field_of field_name
at_lacks None ms m = rw m refl
at_lacks (Some list) ms m = let is = list_read (number_within 1 max_order_wagons) m.0 list.items m.2 in rw (m.1, is) refl

-- the object states this table, whatever plan it has
pub record IsStated (d : Data) (line : TableLine) : Type 0 where
  pub wagons : list_at wagon_number_from Wagons d ≡ Ok line.wagons.items
  pub orders : list_at order_id_from Orders d ≡ Ok line.orders.items
  pub cells : cells_of d ≡ Ok (map (λ row. row.items) line.cells.items)
  pub penalties : list_at (number_within 0 max_cost) Penalties d ≡ Ok line.penalties.items
  pub lacks : lacks_field d ≡ Ok (option_map (λ list. list.items) line.lacks)

pub is_stated : (lists : FoundLists) (line : TableLine) (ms : Members) → Hold lists ms → lists.wagons ≡ Some line.wagons → lists.orders ≡ Some line.orders → lists.cells ≡ Some line.cells
    → lists.penalties ≡ Some line.penalties → lists.lacks ≡ line.lacks → IsStated (object ms) line
unfolding field_name
is_stated lists line ms h w o c p l = record {
  wagons = at wagon_number_from Wagons line.wagons ms (rw w at h.0);
  orders = at order_id_from Orders line.orders ms (rw o at h.1);
  cells = at_cells line.cells ms (rw c at h.2);
  penalties = at (number_within 0 max_cost) Penalties line.penalties ms (rw p at h.3);
  lacks = at_lacks line.lacks ms (rw l at h.4);
}

pub within_limits : (d : Data) (line : TableLine) → IsStated d line → IsWithinLimits line
within_limits d line s = record {
  costs = cells_are d (Ok line.cells) s.cells;
  penalties = λ k x inside_it. (numbers_within 0 max_cost Penalties d (Ok line.penalties) s.penalties k x inside_it).1;
  lacks = lacks_are d (Ok line.lacks) s.lacks;
}

pub stated_line_is : (bytes : List ℕ) (d : Data) (line : TableLine) → object_of bytes ≡ Ok d → IsStated d line → line.pairs.items ≡ [] → line.u.items ≡ [] → line.v.items ≡ [] → table_of_line bytes ≡ Ok (table_text line)
unfolding table_of_line table_of
stated_line_is bytes d line is s q u v = rw (is, s.wagons, s.orders, s.cells, s.penalties, s.lacks, q, u, v) refl

pub planned_line_is : (bytes : List ℕ) (ms : Members) (lists : FoundLists) (line : TableLine) → object_of bytes ≡ Ok (object ms) → Hold lists ms → IsStated (object ms) line
    → lists.pairs ≡ Some line.pairs → lists.u ≡ Some line.u → lists.v ≡ Some line.v → table_line_of bytes ≡ Ok (table_text line)
unfolding table_line_of table_text_of table_of with_plan_of field_name
planned_line_is bytes ms lists line is h s q u v =
    let pairs = at wagon_and_order Pairs line.pairs ms (rw q at h.5) in
    let wagon_prices = at (number_within 0 (2 ^ 64 - 1)) WagonPrices line.u ms (rw u at h.6) in
    let order_prices = at (number_within 0 (2 ^ 64 - 1)) OrderPrices line.v ms (rw v at h.7) in
    rw (is, s.wagons, s.orders, s.cells, s.penalties, s.lacks, pairs, wagon_prices, order_prices) refl
