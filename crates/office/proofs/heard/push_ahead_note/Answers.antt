use Rattle.std.proofs.Common.{string_bytes}
use Rattle.std.proofs.lemmas.Result.{on_ok_weaker}
use Rattle.office.proofs.Adding.{ahead_added, ahead_noted}
use Rattle.office.proofs.heard.push_ahead_note.Goals as goal

pub returns : goal.returns
returns c =
    on_ok_weaker c.end_note.result
    (λ is. ahead_noted c.args.line c.args.heard.now c.in-Some.before c.in-Some-last.this c.args.after (string_bytes c.args.text.now) (string_bytes c.end_note.new.text) (cc) (cc) (cc)
    (ahead_added c.args.line c.in-Some-last.this _ _ _ _ _ _ c.in_ok-push_head.ensures c.in_ok-push_number.ensures (cc (c.in_ok-push_code.ensures, c.digits.ensures.value)) (c.in_ok-push_moment.ensures {u = tt}) is))
    c.end_note.ensures
