use Rattle.std.proofs.Common.{arith, ◌<◌}
use Rattle.csv_records.proofs.FieldLemmas.{six_digits}
use Rattle.csv_records.proofs.fields.read_digits.Goals as goal

pub overflow_mul-number : goal.overflow_mul-number
overflow_mul-number c = let few : c.loop-digit.number < 1000000 = six_digits _ _ c.loop-digit.invariant.small (omega arith) in omega arith

pub overflow_add-number : goal.overflow_add-number
overflow_add-number c = let few : c.loop-digit.number < 1000000 = six_digits _ _ c.loop-digit.invariant.small (omega arith) in omega arith
