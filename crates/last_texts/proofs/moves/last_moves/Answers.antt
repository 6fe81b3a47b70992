use Rattle.std.proofs.Common.{IfOk, subst, ℕ}
use Rattle.std.specs.Prelude.{Vec}
use Rattle.std.specs.declared.alloc.Global.{Global}
use Rattle.commit_book.specs.Books.{BookValue}
use Rattle.last_texts.specs.Fills.{fills_in}
use Rattle.last_texts.specs.MovesOfLast.{IsMovesTextOfLast}
use Rattle.last_texts.proofs.moves.last_moves.Goals as goal

-- the book is that of the journal
pub returns-clause-moves : goal.returns-clause-moves
returns-clause-moves c =
    subst
    (λ (book : BookValue). IfOk c.moves_of.result (λ (text : Vec ℕ Global). IsMovesTextOfLast book.setting book.state.history (fills_in c.args.journal.now) c.args.options.now c.args.places.now c.args.zone.now.bytes.items text.items))
    c.book-book.ensures c.moves_of.ensures.moves
