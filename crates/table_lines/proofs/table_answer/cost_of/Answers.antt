use Rattle.std.proofs.Common.{◌≡◌, ℕ, Option, List, length, refl, sym, ap, ◌∙◌, arith, false, Ok}
use Rattle.std.proofs.lemmas.Result.{err_from_is_err_and}
use Rattle.cost_table.specs.DistinctNames.{names_or_fault}
use Rattle.cost_table.specs.Names.{NameLists}
use Rattle.cost_table.specs.Table.{Table}
use Rattle.price_checker.specs.NamedPairs.{checked}
use Rattle.table_lines.specs.TableLine.{TableText, table_text}
use Rattle.table_lines.specs.TableCost.{cost_of_text, even_table, is_too_large, lacks_in, with_check_fault}
use Rattle.table_lines.specs.TableRefusals.{refusal_of_check}
use Rattle.table_lines.proofs.Even.{cells_in, named_counts, cost_in-named, same_even, certifies_text}
use Rattle.table_lines.proofs.table_answer.cost_of.Goals as goal

-- what the check of the stated table answers is the answer to the line
checked_text : (t : TableText) (names : NameLists) (table : Table) (wagons orders : ℕ) (cells : List (List (Option ℕ))) (lacks : List ℕ) → is_too_large t ≡ false
    → Ok names ≡ names_or_fault t.wagons t.orders → length t.wagons ≡ wagons → length t.orders ≡ orders → t.cells ≡ cells → lacks_in t ≡ lacks
    → even_table wagons orders cells t.penalties lacks ≡ Ok table → cost_of_text t ≡ with_check_fault (checked names table t.pairs t.u t.v)
checked_text t names table wagons orders cells lacks small named each_wagon each_order same_cells same_lacks even =
    cost_in-named t names small (sym named) ∙ rw (same_even _ _ _ _ _ _ t.penalties t.penalties _ _ each_wagon each_order same_cells refl same_lacks, even) refl

pub returns-in_err-cells-clause-meaning : goal.returns-in_err-cells-clause-meaning
returns-in_err-cells-clause-meaning c =
    let p = err_from_is_err_and c.from_residual-in_err-cells.result c.from_residual-in_err-cells.ensures.1 in
    let t = table_text c.args.table in
    let small : is_too_large t ≡ false = sym c.is_too_large.ensures ∙ c.if-is_too_large.false in
    let wagons : length t.wagons ≡ c.len-wagons.result = omega (arith, c.len-wagons.ensures, c.args.table.wagons.ok.0) in
    let orders : length t.orders ≡ c.len-orders.result = omega (arith, c.len-orders.ensures, c.args.table.orders.ok.0) in
    let same = same_even _ _ _ _ _ _ t.penalties t.penalties _ _ wagons orders (ap cells_in (sym c.deref-2.ensures.value)) refl (sym c.in_ok-lacks.ensures.lacks) in
    rw (p.1, p.2) (λ not_memory. cost_in-named t c.in_ok-names.names small (sym c.in_ok-names.ensures) ∙ rw (same, c.in_err-cells.ensures not_memory) refl)

pub check_named-requires-clause-wagons : goal.check_named-requires-clause-wagons
check_named-requires-clause-wagons c =
    (named_counts c.args.table.wagons.items c.args.table.orders.items c.in_ok-names.names c.len-wagons.result c.len-orders.result _ _ _ c.in_ok-cells.cells (sym c.in_ok-names.ensures) c.in_ok-cells.ensures (omega (arith, c.len-wagons.ensures, c.args.table.wagons.ok.0)) (omega (arith, c.len-orders.ensures, c.args.table.orders.ok.0))).0

pub check_named-requires-clause-orders : goal.check_named-requires-clause-orders
check_named-requires-clause-orders c =
    (named_counts c.args.table.wagons.items c.args.table.orders.items c.in_ok-names.names c.len-wagons.result c.len-orders.result _ _ _ c.in_ok-cells.cells (sym c.in_ok-names.ensures) c.in_ok-cells.ensures (omega (arith, c.len-wagons.ensures, c.args.table.wagons.ok.0)) (omega (arith, c.len-orders.ensures, c.args.table.orders.ok.0))).1

pub returns-in_err-certified-clause-meaning : goal.returns-in_err-certified-clause-meaning
returns-in_err-certified-clause-meaning c =
    let p = err_from_is_err_and c.from_residual-in_err-certified.result c.from_residual-in_err-certified.ensures.1 in
    let t = table_text c.args.table in
    let whole = checked_text t c.in_ok-names.names c.in_ok-cells.cells _ _ _ _ (sym c.is_too_large.ensures ∙ c.if-is_too_large.false) c.in_ok-names.ensures (omega (arith, c.len-wagons.ensures, c.args.table.wagons.ok.0)) (omega (arith, c.len-orders.ensures, c.args.table.orders.ok.0)) (ap cells_in (sym c.deref-2.ensures.value)) (sym c.in_ok-lacks.ensures.lacks) c.in_ok-cells.ensures in
    rw (p.1, p.2) (λ not_memory. whole ∙ ap with_check_fault ((rw c.deref-3.ensures.value at c.in_err-certified.ensures.refused) (λ memory. not_memory (ap refusal_of_check memory))))

pub returns-clause-meaning : goal.returns-clause-meaning
returns-clause-meaning c =
    let t = table_text c.args.table in
    let whole = checked_text t c.in_ok-names.names c.in_ok-cells.cells _ _ _ _ (sym c.is_too_large.ensures ∙ c.if-is_too_large.false) c.in_ok-names.ensures (omega (arith, c.len-wagons.ensures, c.args.table.wagons.ok.0)) (omega (arith, c.len-orders.ensures, c.args.table.orders.ok.0)) (ap cells_in (sym c.deref-2.ensures.value)) (sym c.in_ok-lacks.ensures.lacks) c.in_ok-cells.ensures in
    rw c.cost.ensures (whole ∙ ap with_check_fault (rw c.deref-3.ensures.value at c.in_ok-certified.ensures.meaning))

pub returns-clause-optimal : goal.returns-clause-optimal
returns-clause-optimal c =
    let t = table_text c.args.table in
    let wagons : length t.wagons ≡ c.len-wagons.result = omega (arith, c.len-wagons.ensures, c.args.table.wagons.ok.0) in
    let orders : length t.orders ≡ c.len-orders.result = omega (arith, c.len-orders.ensures, c.args.table.orders.ok.0) in
    let same = same_even _ _ _ _ _ _ t.penalties t.penalties _ _ wagons orders (ap cells_in (sym c.deref-2.ensures.value)) refl (sym c.in_ok-lacks.ensures.lacks) in
    rw c.cost.ensures (certifies_text t c.in_ok-names.names c.in_ok-cells.cells c.in_ok-certified.certified (sym c.in_ok-names.ensures) (same ∙ c.in_ok-cells.ensures) (rw c.deref-3.ensures.value at c.in_ok-certified.ensures.optimal))
