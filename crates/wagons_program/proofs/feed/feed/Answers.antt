use Rattle.std.proofs.Common.{List, None, rules, subst, ℕ}
use Rattle.std.specs.Borrow.{Bor}
use Rattle.std.specs.List.{AllZip}
use Rattle.office_files.specs.InFile.{HasBytes}
use Rattle.wagons_program.specs.FirstBook.{IsFirstBookFor}
use Rattle.wagons_program.specs.Streams.{streams}
use Rattle.wagons_program.proofs.Printed.{fed_by, without_notes}
use Rattle.wagons_program.proofs.feed.feed.Goals as goal

pub returns-in-None-clause-ok : goal.returns-in-None-clause-ok
returns-in-None-clause-ok g c =
    let is_first : IsFirstBookFor (g.R.FileSystem.bytes_at c.args.rt.now) c.args.options.now.office c.in_ok-first.field-0.networks.items c.in_ok-book.book = search rules in
    fed_by (g.R.FileSystem.bytes_at c.args.rt.now) (λ file. g.R.File.Read.remaining file.device) (λ file. file.has_failed) c.args.options.now c.in_ok-first.field-0.networks.items c.in_ok-book.book c.in-Ok.readers.items
    (streams None (g.O.Write.contents c.args.output.now) (g.O.Write.contents c.feed_alone.new.output)) c.feed_alone.result is_first
    (subst (λ (paths : List (Bor (List ℕ))). AllZip (λ path file. HasBytes (g.R.FileSystem.bytes_at c.args.rt.now path.now) (g.R.File.Read.remaining file.device)) paths c.in-Ok.readers.items) c.deref.ensures.value c.in-Ok.ensures.each)
    c.feed_alone.ensures.ok

pub returns-in-Some-clause-ok : goal.returns-in-Some-clause-ok
returns-in-Some-clause-ok g c =
    let is_first : IsFirstBookFor (g.R.FileSystem.bytes_at c.args.rt.now) c.args.options.now.office c.in_ok-first.field-0.networks.items c.in_ok-book.book = search rules in
    let given = streams None (g.O.Write.contents c.args.output.now) (g.O.Write.contents c.feed_with_notes.new.output) in
    fed_by (g.R.FileSystem.bytes_at c.args.rt.now) (λ file. g.R.File.Read.remaining file.device) (λ file. file.has_failed) c.args.options.now c.in_ok-first.field-0.networks.items c.in_ok-book.book c.in-Ok.readers.items given c.feed_with_notes.result
    is_first
    (subst (λ (paths : List (Bor (List ℕ))). AllZip (λ path file. HasBytes (g.R.FileSystem.bytes_at c.args.rt.now path.now) (g.R.File.Read.remaining file.device)) paths c.in-Ok.readers.items) c.deref.ensures.value c.in-Ok.ensures.each)
    (without_notes c.in_ok-book.book.setting (λ file. g.R.File.Read.remaining file.device) (λ file. file.has_failed) g.R.File.Write.contents c.in-Ok.readers.items given c.feed_with_notes.result c.feed_with_notes.ensures.ok)
