use Rattle.std.proofs.Common.{get_or, take, arith, sym, ◌∙◌}
use Rattle.std.specs.List.{list_all}
use Rattle.std.proofs.lemmas.Bool.{and_from}
use Rattle.std.proofs.lemmas.List.Folds.{list_all_more}
use Rattle.line_fields.specs.inner.PlainTexts.{is_plain}
use Rattle.line_fields.proofs.PlainTexts.{escape-plain}
use Rattle.line_fields.proofs.plain_text.plain_len.Goals as goal

pub loop-len-preserved : goal.loop-len-preserved
loop-len-preserved c =
    let bytes = c.args.bytes.now in
    let i = c.loop-len.len in record {
      inside = omega arith;
      plain = list_all_more is_plain bytes i 0 c.loop-len-test.true ∙ and_from (list_all is_plain (take i bytes)) (is_plain (get_or bytes i 0)) c.loop-len.invariant.plain (sym c.is_plain_byte.ensures ∙ c.if-is_plain_byte.true);
    }

pub returns-after-loop-len : goal.returns-after-loop-len
returns-after-loop-len c = escape-plain (take c.loop-len.len c.args.bytes.now) c.loop-len.invariant.plain

pub returns-else-is_plain_byte : goal.returns-else-is_plain_byte
returns-else-is_plain_byte c = escape-plain (take c.loop-len.len c.args.bytes.now) c.loop-len.invariant.plain
