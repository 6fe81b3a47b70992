use Rattle.std.proofs.Common.{◌∙◌, sym, SFits, w64, rules, to_z-of_z}
use Rattle.rail_codes.proofs.Moments.{moment_of-err, moment_of-ok, moment_of_instant-fits, moment_of_instant-negative}
use Rattle.rail_codes.proofs.moment.Moment.read.Goals as goal

pub returns-in_default : goal.returns-in_default
returns-in_default c = sym (moment_of-err c.args.text.now c.in_default.field-0 c.in_default.ensures.value)

pub returns-in-Ok-try_from : goal.returns-in-Ok-try_from
returns-in-Ok-try_from c =
    let read = moment_of-ok c.args.text.now c.in-Ok.instant.nanosecond c.in-Ok.ensures.value in
    let fits : SFits w64 c.as_second.result = search rules in
    let told = simp to_z-of_z at c.in-Ok-try_from.ensures in
    c.from_seconds.ensures.meaning ∙ sym (read ∙ moment_of_instant-fits c.in-Ok.instant.nanosecond c.as_second.result c.in-Ok-try_from.seconds c.as_second.ensures told)

pub returns-in-Err : goal.returns-in-Err
returns-in-Err c =
    let read = moment_of-ok c.args.text.now c.in-Ok.instant.nanosecond c.in-Ok.ensures.value in
    let fits : SFits w64 c.as_second.result = search rules in
    let told = simp to_z-of_z at c.in-Err.ensures in
    sym (read ∙ moment_of_instant-negative c.in-Ok.instant.nanosecond c.as_second.result c.in-Ok.instant.in_range c.as_second.ensures told)
