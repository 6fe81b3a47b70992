use Rattle.std.proofs.Common.{◌≡◌, ◌∙◌, refl, subst}
use Rattle.commit_book.specs.BookStep.{IsCall}
use Rattle.commit_book.specs.inner.Entered.{answer_or}
use Rattle.commit_book.specs.Setting.{Setting}
use Rattle.commit_book.specs.declared.answer.Answer.{Answer}
use Rattle.commit_book.proofs.BookCalls.{run_step}
use Rattle.commit_book.proofs.book.Book.run.Goals as goal
use Rattle.commit_book.proofs.book.Book.run.Goals.{in-Ok, in-Err}

pub loop-call-preserved : goal.loop-call-preserved
loop-call-preserved c =
    let says : answer_or c.answer.result ≡ c.match-answer.answer = elim c.match-answer.branch [ in-Ok w ↦ rw (w.in-Ok.is, w.answer-is) refl | in-Err w ↦ rw (w.in-Err.is, w.answer-is) refl ] in
    let called = subst (λ (a : Answer). IsCall c.loop-call.self.setting c.loop-call.self.state c.call-item.result a c.answer.new.self.state) says c.answer.ensures.call in
    let step = subst (λ (s : Setting). IsCall s c.loop-call.self.state c.call-item.result c.match-answer.answer c.answer.new.self.state) c.loop-call.invariant.1 called in
    let run = run_step c.args.self.now.setting c.args.self.now.state c.args.calls.now c.loop-call.call-index c.call-item.result c.loop-call.answers.items c.loop-call.self.state c.match-answer.answer c.answer.new.self.state c.loop-call-test.true c.call-item.is c.loop-call.invariant.0 step in
    (rw c.push_reserved.ensures.items run, c.answer.ensures.setting ∙ c.loop-call.invariant.1, rw (c.push_reserved.ensures.len, c.loop-call.invariant.2) refl, rw (c.push_reserved.ensures.capacity) c.loop-call.invariant.3)
