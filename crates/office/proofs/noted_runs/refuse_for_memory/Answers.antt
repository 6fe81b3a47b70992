use Rattle.std.proofs.Common.{arith}
use Rattle.line_engine.specs.Replies.{out_of_memory_body}
use Rattle.office.proofs.TakenLines.{behind_head}
use Rattle.office.proofs.noted_runs.refuse_for_memory.Goals as goal

pub returns : goal.returns
returns c =
    behind_head c.push_bytes.result c.args.number c.begin_reply.new.reply c.push_bytes.new.self out_of_memory_body c.begin_reply.ensures.text c.begin_reply.ensures.short c.push_bytes.ensures.ok c.push_bytes.ensures.room (omega arith)
