-- The line of a table with its plan: what its JSON is, and that it reads as that table.
use Rattle.std.proofs.Common.{◌≡◌, ℕ, ◌-◌, ◌^◌, ◌<◌, ◌≤◌, List, [], ◌∷◌, ◌++◌, All, map, Option, Some, None, Ok, refl, sym, ap, ◌∙◌, append_assoc, Vec, Global, arith}
use Rattle.std.specs.Prelude.{IfSome, codes, option_map}
use Rattle.std.specs.List.{AllByRecursion}
use Rattle.std.specs.Str.{IsUtf8}
use Rattle.std.proofs.lemmas.List.Elements.{All-map, All-weaker, recursion_from_All}
use Rattle.json.specs.Token.{Token, begin_object, end_object}
use Rattle.json.specs.Lex.{tokens}
use Rattle.json.specs.Tree as tree
use Rattle.serde_json.specs.Data as json
use Rattle.serde_json.specs.Data.{Data, Members, object, string, array, depth, items_depth, members_depth}
use Rattle.serde_json.specs.Read.{of_items, of_json, read, max_depth}
use Rattle.serde_json.specs.View.{items_of}
use Rattle.serde_json.specs.Written.{items_outline, members_outline, outline}
use Rattle.serde_json.proofs.Numbers.{number_of-decimal}
use Rattle.line_fields.specs.Field.{field_name}
use Rattle.line_fields.specs.Fields.{member, field_of, optional_field_of}
use Rattle.line_fields.specs.Values.{list_of_each, number_within, order_id_from, wagon_and_order, wagon_number_from}
use Rattle.line_fields.specs.Written.{list_data, number_data, number_or_null, pair_data}
use Rattle.line_fields.specs.WrittenTokens.{data_tokens, member_tokens}
use Rattle.line_fields.proofs.Lines.{object_of-ok}
use Rattle.line_fields.proofs.Writing.{list-reads, number_reads}
use Rattle.line_fields.proofs.WrittenTokens.{read-tokens}
use Rattle.move_messages.specs.OrderLimits.{max_order_wagons}
use Rattle.cost_table.specs.Rows.{Rows}
use Rattle.cost_table.specs.TableLimits.{IsNumber, max_cost}
use Rattle.wagons_and_orders.specs.WantedLimits.{IsLack}
use Rattle.table_lines.specs.TableLine.{IsWithinLimits, TableText, cell_of, row_of, table_line_of, table_of, table_text, table_text_of, with_plan, with_plan_of}
use Rattle.table_lines.specs.declared.table_line.TableLine.{TableLine}
use Rattle.table_lines.specs.SolvedText.{last_members, solved_data, with_lacks}
use Rattle.table_lines.specs.inner.Members.{AreWritable, lacks_tokens}
use Rattle.price_checker.specs.declared.prices.Prices.{Prices}

-- ---- the tokens

-- what the orders lack stands before the other members
pub lacks_first : (lacks : Option (List ℕ)) (others : Members) → tree.members_tokens (members_outline (with_lacks lacks others)) ≡ lacks_tokens lacks ++ tree.members_tokens (members_outline others)
lacks_first None others = refl
lacks_first (Some lacks) others = refl

nine_parts : (old a b c d e f g h i : List Token) → ((((((((old ++ a) ++ b) ++ c) ++ d) ++ e) ++ f) ++ g) ++ h) ++ i ≡ old ++ (a ++ (b ++ (c ++ (d ++ (e ++ (f ++ (g ++ (h ++ i))))))))
nine_parts old a b c d e f g h i = simp append_assoc refl

pub solved_written : (t : TableText) (cost : ℕ) (old t1 t2 t3 t4 t5 t6 t7 t8 t9 : List Token)
    → t1 ≡ old ++ begin_object ∷ member_tokens (codes "cells") (list_data (list_data number_or_null) t.cells)
    → t2 ≡ t1 ++ member_tokens (codes "cost") (number_data cost)
    → t3 ≡ t2 ++ lacks_tokens t.lacks
    → t4 ≡ t3 ++ member_tokens (codes "orders") (list_data string t.orders)
    → t5 ≡ t4 ++ member_tokens (codes "pairs") (list_data pair_data t.pairs)
    → t6 ≡ t5 ++ member_tokens (codes "penalties") (list_data number_data t.penalties)
    → t7 ≡ t6 ++ member_tokens (codes "u") (list_data number_data t.u)
    → t8 ≡ t7 ++ member_tokens (codes "v") (list_data number_data t.v)
    → t9 ≡ t8 ++ (member_tokens (codes "wagons") (list_data string t.wagons) ++ end_object ∷ [])
    → t9 ≡ old ++ data_tokens (solved_data t cost)
solved_written t cost old t1 t2 t3 t4 t5 t6 t7 t8 t9 e1 e2 e3 e4 e5 e6 e7 e8 e9 =
    let a = begin_object ∷ member_tokens (codes "cells") (list_data (list_data number_or_null) t.cells) in
    let b = member_tokens (codes "cost") (number_data cost) in
    let c = lacks_tokens t.lacks in
    let d = member_tokens (codes "orders") (list_data string t.orders) in
    let e = member_tokens (codes "pairs") (list_data pair_data t.pairs) in
    let f = member_tokens (codes "penalties") (list_data number_data t.penalties) in
    let g = member_tokens (codes "u") (list_data number_data t.u) in
    let h = member_tokens (codes "v") (list_data number_data t.v) in
    let i = member_tokens (codes "wagons") (list_data string t.wagons) ++ end_object ∷ [] in
    e9
    ∙ ap (λ ts. ts ++ i) (e8 ∙ ap (λ ts. ts ++ h) (e7 ∙ ap (λ ts. ts ++ g) (e6 ∙ ap (λ ts. ts ++ f) (e5 ∙ ap (λ ts. ts ++ e) (e4 ∙ ap (λ ts. ts ++ d) (e3 ∙ ap (λ ts. ts ++ c) (e2 ∙ ap (λ ts. ts ++ b) e1)))))))
    ∙ nine_parts old a b c d e f g h i
    ∙ ap (λ ts. old ++ (a ++ (b ++ ts))) (sym (lacks_first t.lacks (last_members t)))

-- ---- it is spelled by its tokens

abbrev pub with_lack_list : TableText → Option (List ℕ) → TableText
with_lack_list t lacks =
    record { wagons = t.wagons; orders = t.orders; cells = t.cells; penalties = t.penalties; lacks = lacks; pairs = t.pairs; u = t.u; v = t.v }

-- the items of a list are read as they are written
abbrev pub AreSpelled : {A : Type 0} → (A → Data) → List A → Type 0
AreSpelled write xs = of_items (items_outline (items_of (map write xs))) ≡ Some (items_of (map write xs))

spelled_by_recursion : {A : Type 0} (write : A → Data) (xs : List A) → AllByRecursion (λ x. of_json (outline (write x)) ≡ Some (write x)) xs → AreSpelled write xs
spelled_by_recursion write [] h = refl
spelled_by_recursion write (x ∷ xs) h = rw (h.0, spelled_by_recursion write xs h.1) refl

pub are_spelled : {A : Type 0} (write : A → Data) (xs : List A) → All (λ x. of_json (outline (write x)) ≡ Some (write x)) xs → AreSpelled write xs
are_spelled write xs h = spelled_by_recursion write xs (recursion_from_All (λ x. of_json (outline (write x)) ≡ Some (write x)) xs h)

number_spelled : (n : ℕ) → n < 2 ^ 64 → of_json (outline (number_data n)) ≡ Some (number_data n)
number_spelled n small = rw (number_of-decimal n small) refl

pub numbers_spelled : (ns : List ℕ) → All (λ n. n < 2 ^ 64) ns → AreSpelled number_data ns
numbers_spelled ns h = are_spelled number_data ns (All-weaker (λ n. n < 2 ^ 64) (λ n. of_json (outline (number_data n)) ≡ Some (number_data n)) number_spelled ns h)

cell_spelled : (o : Option ℕ) → IsNumber o → of_json (outline (number_or_null o)) ≡ Some (number_or_null o)
cell_spelled None h = refl
cell_spelled (Some n) h = number_spelled n (omega (arith, h))

row_spelled : (row : List (Option ℕ)) → All IsNumber row → of_json (outline (list_data number_or_null row)) ≡ Some (list_data number_or_null row)
row_spelled row h = ap (option_map array) (are_spelled number_or_null row (All-weaker IsNumber (λ o. of_json (outline (number_or_null o)) ≡ Some (number_or_null o)) cell_spelled row h))

pub cells_spelled : (rows : Rows) → All (λ row. All IsNumber row.items) rows → AreSpelled (list_data number_or_null) (map (λ row. row.items) rows)
cells_spelled rows h =
    are_spelled (list_data number_or_null) (map (λ row. row.items) rows)
    (All-map (λ row. of_json (outline (list_data number_or_null row)) ≡ Some (list_data number_or_null row)) (λ row. row.items) rows
    (All-weaker (λ row. All IsNumber row.items) (λ row. of_json (outline (list_data number_or_null row.items)) ≡ Some (list_data number_or_null row.items)) (λ row. row_spelled row.items) rows h))

pub penalties_spelled : (penalties : List ℕ) → All (λ penalty. penalty ≤ max_cost) penalties → AreSpelled number_data penalties
penalties_spelled penalties h = numbers_spelled penalties (All-weaker (λ penalty. penalty ≤ max_cost) (λ n. n < 2 ^ 64) (λ n below. omega (arith, below)) penalties h)

pub lacks_spelled : (lacks : Option (List ℕ)) → IfSome lacks (λ list. All IsLack list) → IfSome lacks (AreSpelled number_data)
lacks_spelled None h = h
lacks_spelled (Some list) h = numbers_spelled list (All-weaker IsLack (λ n. n < 2 ^ 64) (λ n within. omega (arith, within.1)) list h)

pub texts_spelled : (texts : List (List ℕ)) → AreSpelled string texts
texts_spelled texts = are_spelled string texts (λ k d lt. refl)

pairs_spelled : (pairs : List (List ℕ × List ℕ)) → AreSpelled pair_data pairs
pairs_spelled pairs = are_spelled pair_data pairs (λ k d lt. refl)

spelled_by : (lacks : Option (List ℕ)) (t : TableText) (cost : ℕ) → cost < 2 ^ 64 → AreSpelled (list_data number_or_null) t.cells → IfSome lacks (AreSpelled number_data) → AreSpelled number_data t.penalties → AreSpelled number_data t.u → AreSpelled number_data t.v
    → of_json (outline (solved_data (with_lack_list t lacks) cost)) ≡ Some (solved_data (with_lack_list t lacks) cost)
spelled_by None t cost small cells lacks penalties u v =
    rw (cells, number_of-decimal cost small, texts_spelled t.orders, pairs_spelled t.pairs, penalties, u, v, texts_spelled t.wagons) refl
spelled_by (Some list) t cost small cells lacks penalties u v =
    rw (cells, number_of-decimal cost small, lacks, texts_spelled t.orders, pairs_spelled t.pairs, penalties, u, v, texts_spelled t.wagons) refl

-- ---- it nests little

mutual
  pub outline_nests : (d : Data) → tree.depth (outline d) ≤ depth d
  outline_nests json.null = omega arith
  outline_nests (json.boolean b) = omega arith
  outline_nests (json.number n) = omega arith
  outline_nests (json.string s) = omega arith
  outline_nests (json.array ds) = let items = items_nest ds in omega (arith, items)
  outline_nests (json.object ms) = let members = members_nest ms in omega (arith, members)

  items_nest : (ds : json.Items) → tree.items_depth (items_outline ds) ≤ items_depth ds
  items_nest json.no_items = omega arith
  items_nest (json.item d ds) = let one = outline_nests d in let more = items_nest ds in omega (arith, one, more)

  members_nest : (ms : Members) → tree.members_depth (members_outline ms) ≤ members_depth ms
  members_nest json.no_members = omega arith
  members_nest (json.member k d ms) = let one = outline_nests d in let more = members_nest ms in omega (arith, one, more)

pub list_nests : {A : Type 0} (write : A → Data) (n : ℕ) (xs : List A) → ((x : A) → depth (write x) ≤ n) → items_depth (items_of (map write xs)) ≤ n
list_nests write n [] h = omega arith
list_nests write n (x ∷ xs) h = let more = list_nests write n xs h in let one = h x in omega (arith, more, one)

pub number_nests : (o : Option ℕ) → depth (number_or_null o) ≤ 0
number_nests None = omega arith
number_nests (Some n) = omega arith

pub lacks_nest : (lacks : Option (List ℕ)) (others : Members) → members_depth others ≤ 3 → members_depth (with_lacks lacks others) ≤ 3
lacks_nest None others h = h
lacks_nest (Some lacks) others h = let numbers = list_nests number_data 0 lacks (λ n. omega arith) in omega (arith, numbers, h)

pub solved_nests : (t : TableText) (cost : ℕ) → depth (solved_data t cost) ≤ max_depth
solved_nests t cost =
    let row = λ (row : List (Option ℕ)). let numbers = list_nests number_or_null 0 row number_nests in let it : depth (list_data number_or_null row) ≤ 1 = omega (arith, numbers) in it in
    let cells = list_nests (list_data number_or_null) 1 t.cells row in
    let orders = list_nests string 0 t.orders (λ id. omega arith) in
    let pairs = list_nests pair_data 1 t.pairs (λ pair. omega arith) in
    let penalties = list_nests number_data 0 t.penalties (λ n. omega arith) in
    let u = list_nests number_data 0 t.u (λ n. omega arith) in
    let v = list_nests number_data 0 t.v (λ n. omega arith) in
    let wagons = list_nests string 0 t.wagons (λ number. omega arith) in
    let others = lacks_nest t.lacks (last_members t) (omega (arith, orders, pairs, penalties, u, v, wagons)) in
    omega (arith, cells, others)

-- ---- lists read as what they were made of

cell_reads : (o : Option ℕ) → IsNumber o → cell_of (number_or_null o) ≡ Ok o
unfolding cell_of
cell_reads None h = refl
cell_reads (Some n) h = rw (number_reads 0 max_cost n (omega arith) h) refl

row_reads : (row : List (Option ℕ)) → All IsNumber row → row_of (list_data number_or_null row) ≡ Ok row
row_reads row h = list-reads cell_of number_or_null row (All-weaker IsNumber (λ o. cell_of (number_or_null o) ≡ Ok o) cell_reads row h)

abbrev cells_in : Rows → List (List (Option ℕ))
cells_in rows = map (λ row. row.items) rows

pub cells_read : (rows : Rows) → All (λ row. All IsNumber row.items) rows → list_of_each row_of (list_data (list_data number_or_null) (cells_in rows)) ≡ Ok (cells_in rows)
cells_read rows h =
    list-reads row_of (list_data number_or_null) (cells_in rows)
    (All-map (λ row. row_of (list_data number_or_null row) ≡ Ok row) (λ row. row.items) rows (All-weaker (λ row. All IsNumber row.items) (λ row. row_of (list_data number_or_null row.items) ≡ Ok row.items) (λ row. row_reads row.items) rows h))

pub penalties_read : (penalties : List ℕ) → All (λ penalty. penalty ≤ max_cost) penalties → list_of_each (number_within 0 max_cost) (list_data number_data penalties) ≡ Ok penalties
penalties_read penalties h =
    list-reads (number_within 0 max_cost) number_data penalties
    (All-weaker (λ penalty. penalty ≤ max_cost) (λ n. number_within 0 max_cost (number_data n) ≡ Ok n) (λ n below. number_reads 0 max_cost n (omega arith) below) penalties h)

pub lacks_read : (lacks : List ℕ) → All IsLack lacks → list_of_each (number_within 1 max_order_wagons) (list_data number_data lacks) ≡ Ok lacks
lacks_read lacks h =
    list-reads (number_within 1 max_order_wagons) number_data lacks
    (All-weaker IsLack (λ n. number_within 1 max_order_wagons (number_data n) ≡ Ok n) (λ n within. number_reads 1 max_order_wagons n within.0 within.1) lacks h)

-- rows as they are kept, and as a contract sees them
rows_same : (rows : Rows) → map (λ row. list_data number_or_null row.items) rows ≡ map (list_data number_or_null) (cells_in rows)
rows_same [] = refl
rows_same (row ∷ rows) = ap (λ (more : List Data). list_data number_or_null row.items ∷ more) (rows_same rows)

pub rows_data : (rows : Rows) → list_data (λ row. list_data number_or_null row.items) rows ≡ list_data (list_data number_or_null) (cells_in rows)
rows_data rows = ap (λ (ds : List Data). array (items_of ds)) (rows_same rows)

-- ---- the table

-- each list of a table with its plan reads as itself
record ListsRead (t : TableText) : Type 0 where
  wagons : list_of_each wagon_number_from (list_data string t.wagons) ≡ Ok t.wagons
  orders : list_of_each order_id_from (list_data string t.orders) ≡ Ok t.orders
  cells : list_of_each row_of (list_data (list_data number_or_null) t.cells) ≡ Ok t.cells
  penalties : list_of_each (number_within 0 max_cost) (list_data number_data t.penalties) ≡ Ok t.penalties
  pairs : list_of_each wagon_and_order (list_data pair_data t.pairs) ≡ Ok t.pairs
  u : list_of_each (number_within 0 (2 ^ 64 - 1)) (list_data number_data t.u) ≡ Ok t.u
  v : list_of_each (number_within 0 (2 ^ 64 - 1)) (list_data number_data t.v) ≡ Ok t.v

reads_by : (lacks : Option (List ℕ)) (t : TableText) (cost : ℕ) → ListsRead t → IfSome lacks (λ list. All IsLack list) → table_text_of (solved_data (with_lack_list t lacks) cost) ≡ Ok (with_lack_list t lacks)
unfolding table_text_of table_of with_plan_of field_of optional_field_of member field_name
reads_by None t cost r h = rw (r.wagons, r.orders, r.cells, r.penalties, r.pairs, r.u, r.v) refl
reads_by (Some list) t cost r h = rw (r.wagons, r.orders, r.cells, r.penalties, lacks_read list h, r.pairs, r.u, r.v) refl

line_reads : (bytes : List ℕ) (t : TableText) (cost : ℕ) → IsUtf8 bytes → read bytes ≡ Some (solved_data t cost) → table_text_of (solved_data t cost) ≡ Ok t → table_line_of bytes ≡ Ok t
unfolding table_line_of
line_reads bytes t cost utf8 is reads = rw (object_of-ok bytes (solved_data t cost) utf8 is refl, reads) refl

-- the lacks of a table, as a contract sees them
pub lacks_seen : (lacks : Option (Vec ℕ Global)) → IfSome lacks (λ list. All IsLack list.items) → IfSome (option_map (λ list. list.items) lacks) (λ list. All IsLack list)
lacks_seen None h = h
lacks_seen (Some list) h = h

prices_read : (prices : List ℕ) → All (λ price. price < 2 ^ 64) prices → list_of_each (number_within 0 (2 ^ 64 - 1)) (list_data number_data prices) ≡ Ok prices
prices_read prices h =
    list-reads (number_within 0 (2 ^ 64 - 1)) number_data prices
    (All-weaker (λ price. price < 2 ^ 64) (λ n. number_within 0 (2 ^ 64 - 1) (number_data n) ≡ Ok n) (λ n small. number_reads 0 (2 ^ 64 - 1) n (omega arith) (omega (arith, small))) prices h)

module _ (table : TableLine) (pairs : List (List ℕ × List ℕ)) (prices : Prices) (cost : ℕ) (limits : IsWithinLimits table) (writable : AreWritable table pairs prices) where
  abbrev t : TableText
  t = with_plan (table_text table) pairs prices.u.items prices.v.items

  planned_reads : table_text_of (solved_data t cost) ≡ Ok t
  planned_reads =
      let lists : ListsRead t = record {
        wagons = list-reads wagon_number_from string table.wagons.items writable.names.wagons;
        orders = list-reads order_id_from string table.orders.items writable.names.orders;
        cells = cells_read table.cells.items limits.costs;
        penalties = penalties_read table.penalties.items limits.penalties;
        pairs = list-reads wagon_and_order pair_data pairs writable.pairs;
        u = prices_read prices.u.items writable.u;
        v = prices_read prices.v.items writable.v;
      } in
      reads_by t.lacks t cost lists (lacks_seen table.lacks limits.lacks)

  planned_spelled : cost < 2 ^ 64 → of_json (outline (solved_data t cost)) ≡ Some (solved_data t cost)
  planned_spelled small =
      spelled_by t.lacks t cost small (cells_spelled table.cells.items limits.costs) (lacks_spelled t.lacks (lacks_seen table.lacks limits.lacks))
      (penalties_spelled table.penalties.items limits.penalties) (numbers_spelled prices.u.items writable.u) (numbers_spelled prices.v.items writable.v)

  -- a text of its tokens reads as the table with its plan
  pub planned_line_reads : (bytes : List ℕ) → cost < 2 ^ 64 → IsUtf8 bytes → tokens bytes ≡ data_tokens (solved_data t cost) → table_line_of bytes ≡ Ok t
  planned_line_reads bytes small utf8 same =
      let d = solved_data t cost in
      let shallow : tree.depth (outline d) ≤ max_depth = omega (arith, outline_nests d, solved_nests t cost) in
      line_reads bytes t cost utf8 (read-tokens (outline d) d bytes same shallow (planned_spelled small)) planned_reads
