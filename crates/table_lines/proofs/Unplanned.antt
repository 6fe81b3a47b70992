-- The line of a table without its plan: what its JSON is, and that it reads as that table.
use Rattle.std.proofs.Common.{◌≡◌, ℕ, ◌≤◌, List, [], ◌∷◌, ◌++◌, All, Option, Some, None, Ok, refl, sym, ap, ◌∙◌, append_assoc, arith}
use Rattle.std.specs.Prelude.{IfSome, codes}
use Rattle.std.specs.Str.{IsUtf8}
use Rattle.json.specs.Lex.{tokens}
use Rattle.json.specs.Token.{Token, begin_object, end_object}
use Rattle.json.specs.Tree as tree
use Rattle.serde_json.specs.Data.{string, depth}
use Rattle.serde_json.specs.Read.{of_json, read, max_depth}
use Rattle.serde_json.specs.Written.{outline}
use Rattle.line_fields.specs.Field.{field_name}
use Rattle.line_fields.specs.Fields.{member, field_of, optional_field_of}
use Rattle.line_fields.specs.Values.{list_of_each, number_within, order_id_from, wagon_number_from}
use Rattle.line_fields.specs.Written.{list_data, number_data, number_or_null}
use Rattle.line_fields.specs.WrittenTokens.{data_tokens, member_tokens}
use Rattle.line_fields.proofs.Lines.{object_of-ok}
use Rattle.line_fields.proofs.Writing.{list-reads}
use Rattle.line_fields.proofs.WrittenTokens.{read-tokens}
use Rattle.cost_table.specs.TableLimits.{max_cost}
use Rattle.wagons_and_orders.specs.WantedLimits.{IsLack}
use Rattle.table_lines.specs.TableLine.{IsWithinLimits, TableText, row_of, table_of, table_text, with_plan}
use Rattle.table_lines.specs.TablePart.{table_of_line}
use Rattle.table_lines.specs.declared.table_line.TableLine.{TableLine}
use Rattle.table_lines.specs.UnplannedText.{unplanned_data, unplanned_last}
use Rattle.table_lines.specs.inner.Members.{HasWritableNames, lacks_tokens}
use Rattle.table_lines.proofs.Written.{AreSpelled, cells_read, cells_spelled, lacks_first, lacks_nest, lacks_read, lacks_seen, lacks_spelled, list_nests, number_nests, outline_nests, penalties_read, penalties_spelled, texts_spelled, with_lack_list}

-- ---- the tokens

five_parts : (old a b c d e : List Token) → ((((old ++ a) ++ b) ++ c) ++ d) ++ e ≡ old ++ (a ++ (b ++ (c ++ (d ++ e))))
five_parts old a b c d e = simp append_assoc refl

pub unplanned_written : (t : TableText) (old t1 t2 t3 t4 t5 : List Token)
    → t1 ≡ old ++ begin_object ∷ member_tokens (codes "cells") (list_data (list_data number_or_null) t.cells)
    → t2 ≡ t1 ++ lacks_tokens t.lacks
    → t3 ≡ t2 ++ member_tokens (codes "orders") (list_data string t.orders)
    → t4 ≡ t3 ++ member_tokens (codes "penalties") (list_data number_data t.penalties)
    → t5 ≡ t4 ++ (member_tokens (codes "wagons") (list_data string t.wagons) ++ end_object ∷ [])
    → t5 ≡ old ++ data_tokens (unplanned_data t)
unplanned_written t old t1 t2 t3 t4 t5 e1 e2 e3 e4 e5 =
    let a = begin_object ∷ member_tokens (codes "cells") (list_data (list_data number_or_null) t.cells) in
    let b = lacks_tokens t.lacks in
    let c = member_tokens (codes "orders") (list_data string t.orders) in
    let d = member_tokens (codes "penalties") (list_data number_data t.penalties) in
    let e = member_tokens (codes "wagons") (list_data string t.wagons) ++ end_object ∷ [] in
    e5 ∙ ap (λ ts. ts ++ e) (e4 ∙ ap (λ ts. ts ++ d) (e3 ∙ ap (λ ts. ts ++ c) (e2 ∙ ap (λ ts. ts ++ b) e1)))
    ∙ five_parts old a b c d e
    ∙ ap (λ ts. old ++ (a ++ ts)) (sym (lacks_first t.lacks (unplanned_last t)))

-- ---- it is spelled by its tokens

spelled_by : (lacks : Option (List ℕ)) (t : TableText) → AreSpelled (list_data number_or_null) t.cells → IfSome lacks (AreSpelled number_data) → AreSpelled number_data t.penalties
    → of_json (outline (unplanned_data (with_lack_list t lacks))) ≡ Some (unplanned_data (with_lack_list t lacks))
spelled_by None t cells lacks penalties = rw (cells, texts_spelled t.orders, penalties, texts_spelled t.wagons) refl
spelled_by (Some list) t cells lacks penalties = rw (cells, lacks, texts_spelled t.orders, penalties, texts_spelled t.wagons) refl

-- ---- it nests little

pub unplanned_nests : (t : TableText) → depth (unplanned_data t) ≤ max_depth
unplanned_nests t =
    let row = λ (row : List (Option ℕ)). let numbers = list_nests number_or_null 0 row number_nests in let it : depth (list_data number_or_null row) ≤ 1 = omega (arith, numbers) in it in
    let cells = list_nests (list_data number_or_null) 1 t.cells row in
    let orders = list_nests string 0 t.orders (λ id. omega arith) in
    let penalties = list_nests number_data 0 t.penalties (λ n. omega arith) in
    let wagons = list_nests string 0 t.wagons (λ number. omega arith) in
    let others = lacks_nest t.lacks (unplanned_last t) (omega (arith, orders, penalties, wagons)) in
    omega (arith, cells, others)

-- ---- the table

-- each list of a table reads as itself
record ListsRead (t : TableText) : Type 0 where
  wagons : list_of_each wagon_number_from (list_data string t.wagons) ≡ Ok t.wagons
  orders : list_of_each order_id_from (list_data string t.orders) ≡ Ok t.orders
  cells : list_of_each row_of (list_data (list_data number_or_null) t.cells) ≡ Ok t.cells
  penalties : list_of_each (number_within 0 max_cost) (list_data number_data t.penalties) ≡ Ok t.penalties

reads_by : (lacks : Option (List ℕ)) (t : TableText) → ListsRead t → IfSome lacks (λ list. All IsLack list) → table_of (unplanned_data (with_lack_list t lacks)) ≡ Ok (with_plan (with_lack_list t lacks) [] [] [])
unfolding table_of field_of optional_field_of member field_name
reads_by None t r h = rw (r.wagons, r.orders, r.cells, r.penalties) refl
reads_by (Some list) t r h = rw (r.wagons, r.orders, r.cells, r.penalties, lacks_read list h) refl

line_reads : (bytes : List ℕ) (t : TableText) → IsUtf8 bytes → read bytes ≡ Some (unplanned_data t) → table_of (unplanned_data t) ≡ Ok (with_plan t [] [] []) → table_of_line bytes ≡ Ok (with_plan t [] [] [])
unfolding table_of_line
line_reads bytes t utf8 is reads = rw (object_of-ok bytes (unplanned_data t) utf8 is refl, reads) refl

-- a table whose numbers are within their limits, and whose names read as themselves
module _ (table : TableLine) (limits : IsWithinLimits table) (names : HasWritableNames table) where
  abbrev t : TableText
  t = table_text table

  unplanned_reads : table_of (unplanned_data t) ≡ Ok (with_plan t [] [] [])
  unplanned_reads =
      let lists : ListsRead t = record {
        wagons = list-reads wagon_number_from string table.wagons.items names.wagons;
        orders = list-reads order_id_from string table.orders.items names.orders;
        cells = cells_read table.cells.items limits.costs;
        penalties = penalties_read table.penalties.items limits.penalties;
      } in
      reads_by t.lacks t lists (lacks_seen table.lacks limits.lacks)

  unplanned_spelled : of_json (outline (unplanned_data t)) ≡ Some (unplanned_data t)
  unplanned_spelled =
      spelled_by t.lacks t (cells_spelled table.cells.items limits.costs) (lacks_spelled t.lacks (lacks_seen table.lacks limits.lacks)) (penalties_spelled table.penalties.items limits.penalties)

  -- a text of its tokens reads as the table
  pub unplanned_line_reads : (bytes : List ℕ) → IsUtf8 bytes → tokens bytes ≡ data_tokens (unplanned_data t) → table_of_line bytes ≡ Ok (with_plan t [] [] [])
  unplanned_line_reads bytes utf8 same =
      let d = unplanned_data t in
      let shallow : tree.depth (outline d) ≤ max_depth = omega (arith, outline_nests d, unplanned_nests t) in
      line_reads bytes t utf8 (read-tokens (outline d) d bytes same shallow unplanned_spelled) unplanned_reads
