use Rattle.std.proofs.Common.{◌∙◌, string_bytes, arith}
use Rattle.text_tables.proofs.Joined.{texts-more}
use Rattle.text_tables.proofs.row.words.Goals as goal

pub loop-k-preserved : goal.loop-k-preserved
loop-k-preserved g c =
    texts-more 32 c.args.codes.now c.loop-k.k c.index-codes-k.result (string_bytes c.loop-k.text) (string_bytes c.push_next_word.new.text) c.code_str.result.now (omega arith)
    (c.code_str.ensures.value ∙ c.index-codes-k.is) c.loop-k.invariant (c.in_ok-push_next_word.ensures {u = tt})
