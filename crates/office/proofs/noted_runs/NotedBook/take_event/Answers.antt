use Rattle.commit_book.specs.Books.{answer_of}
use Rattle.office.proofs.TakenLines.{took_event}
use Rattle.office.proofs.noted_runs.NotedBook.take_event.Goals as goal

pub returns : goal.returns
returns g c =
    took_event g.N.Sink c.args.number c.args.self.now c.take_event-answer.new.self c.write.new.self c.args.event.now (answer_of c.take_event-answer.result) c.take_event-answer.new.text c.begin_reply.new.reply
    c.push_answer-pushed.new.reply c.finish.new.reply c.push_answer-pushed.result c.finish.result
    c.take_event-answer.ensures.setting c.take_event-answer.ensures.call c.take_event-answer.ensures.notes (rw c.as_slice.ensures at c.write.ensures)
    c.begin_reply.ensures.text c.push_answer-pushed.ensures.text c.push_answer-pushed.ensures.mark c.push_answer-pushed.ensures.memory c.push_answer-pushed.ensures.refused c.finish.ensures
