use Rattle.office.proofs.Reviewed.{brought_in_part, reviewed}
use Rattle.office.proofs.reviewing.Review.take_line.Goals as goal

pub returns-in-Ok : goal.returns-in-Ok
returns-in-Ok c =
    reviewed c.args.line c.args.self.now c.bring.new.self c.args.bytes.now c.write_notes.new.notes c.read_line-read.result c.counts-before.result.entries c.counts-before.result.lines
    c.line_notes-said.result c.write_notes.result c.read_line-read.ensures c.line_notes-said.ensures.notes c.line_notes-said.ensures.is_read c.in-Ok.ensures.brought c.in-Ok.ensures.setting c.in-Ok.ensures.named
    c.in-Ok.ensures.line c.in-Ok.ensures.heard c.counts-before.ensures.entries c.counts-before.ensures.lines c.write_notes.ensures.said c.write_notes.ensures.notes

pub returns : goal.returns
returns c =
    brought_in_part c.args.line c.args.self.now c.bring.new.self c.args.bytes.now c.read_line-read.result c.read_line-read.ensures c.in-Err.ensures.brought c.in-Err.ensures.named c.in-Err.ensures.line c.in-Err.ensures.heard
