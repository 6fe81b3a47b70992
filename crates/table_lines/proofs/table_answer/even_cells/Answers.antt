use Rattle.std.proofs.Common.{◌≡◌, length, Ok, sym, ap, ◌∙◌, arith}
use Rattle.std.proofs.lemmas.Result.{err_from_is_err_and}
use Rattle.table_lines.proofs.Even.{even_rows, uneven_rows}
use Rattle.table_lines.proofs.table_answer.even_cells.Goals as goal

pub returns-in_err-from_lists : goal.returns-in_err-from_lists
returns-in_err-from_lists c =
    let p = err_from_is_err_and c.from_residual.result c.from_residual.ensures.1 in
    let rows : length c.args.cells.now ≡ c.args.wagons = omega arith in
    let columns : length c.args.penalties.items ≡ c.args.orders = omega arith in
    rw (p.1, p.2) (λ not_memory. uneven_rows c.args.wagons c.args.orders c.args.cells.now c.args.penalties.items c.args.lacks.items _ rows columns c.requires.wagons c.requires.orders c.requires.lacked c.in_err-from_lists.ensures.fault not_memory)

pub returns : goal.returns
returns c =
    let rows : length c.args.cells.now ≡ c.args.wagons = omega arith in
    let columns : length c.args.penalties.items ≡ c.args.orders = omega arith in
    even_rows c.args.wagons c.args.orders c.args.cells.now c.args.penalties.items c.args.lacks.items rows columns c.in_ok-from_lists.ensures.no_fault ∙ ap Ok (sym c.in_ok-from_lists.ensures.ok)
