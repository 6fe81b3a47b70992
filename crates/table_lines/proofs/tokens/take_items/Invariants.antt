use Rattle.std.proofs.Common.{length}
use Rattle.table_lines.proofs.Spelled.{Continues}
use Rattle.table_lines.proofs.tokens.take_items.Given as goal

abbrev pub invariant-items : goal.invariant-items
invariant-items g l = Continues (g.K.TokenKind.nests l.kind) (g.K.TokenKind.reads l.kind) l.found.items l.initial.reader l.reader

abbrev pub decreases-items : goal.decreases-items
decreases-items g l = length l.reader
