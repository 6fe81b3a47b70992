use Rattle.std.proofs.Common.{◌≡◌, ◌++◌, ◌∷◌, ap, sym, ◌∙◌, true}
use Rattle.std.specs.List.{slice_range}
use Rattle.line_engine.specs.Lines.{line_feed}
use Rattle.line_engine.proofs.Feeds.{moves_ended, on_success}
use Rattle.line_engine.proofs.window.Window.cut.Goals as goal

pub returns-clause-ok : goal.returns-clause-ok
returns-clause-ok c =
    let piece = c.self.inside.piece.items in
    let from = c.self.inside.start in
    let to = c.self.inside.end in
    let front = c.before_feed-is_ended.result.0.now in
    let is : slice_range piece from to ≡ c.args.self.now = c.self.view_is in
    let ended : c.before_feed-is_ended.result.1 ≡ true = c.if-not-is_ended.false in
    let found = c.before_feed-is_ended.ensures.feed ended in
    let seen : c.args.self.now ≡ front ++ line_feed ∷ found.0 = sym is ∙ ap (λ xs. slice_range xs from to) (sym c.deref.ensures.value) ∙ found.1 in
    let grew : c.push.new.self.bytes ≡ c.args.line.now.bytes ++ front = on_success c.push.result (sym c.is_err.ensures.value ∙ c.if-is_err.false) c.push.ensures.ok in
    moves_ended piece from to c.args.self.now front c.args.line.now.bytes c.push.new.self.bytes is (found.0, seen) c.before_feed-is_ended.ensures.free grew
