use Rattle.std.proofs.Common.{◌≡◌, length, take}
use Rattle.std.specs.Prelude.{vec_len, vec_capacity}
use Rattle.commit_book.specs.BookStep.{IsRun}
use Rattle.commit_book.proofs.book.Book.run.Given as goal

-- the calls made so far are a run, and there is room for the other answers
abbrev pub invariant-loop-call : goal.invariant-loop-call
invariant-loop-call l =
    IsRun l.fn.self.setting l.fn.self.state (take l.call-index l.calls) l.answers.items l.self.state
    × (l.self.setting ≡ l.fn.self.setting) × (vec_len l.answers ≡ l.call-index) × (vec_capacity l.answers ≡ length l.calls)
