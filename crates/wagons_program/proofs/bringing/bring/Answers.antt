use Rattle.std.proofs.Common.{rules, inr}
use Rattle.wagons_program.specs.FirstBook.{IsFirstBookFor}
use Rattle.wagons_program.proofs.bringing.bring.Goals as goal

pub returns-in-Err-clause-err : goal.returns-in-Err-clause-err
returns-in-Err-clause-err g c =
    let is_first : IsFirstBookFor (g.R.FileSystem.bytes_at c.args.rt.now) c.args.options.now c.in_ok-first.field-0.networks.items c.in_ok-book.book = search rules in
    inr (c.in_ok-first.field-0.networks.items, c.in_ok-book.book, is_first, (c.bring_told_lines.new.book, c.in-Err.ensures.err))
