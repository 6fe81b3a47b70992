use Rattle.std.proofs.Common.{◌≡◌, false, arith}
use Rattle.std.specs.Prelude.{◌==◌, slice_index}
use Rattle.std.proofs.lemmas.Bool.Decides.{nat_tests}
use Rattle.table_lines.proofs.Spelled.{whole_is}
use Rattle.table_lines.proofs.tokens.whole_number.Goals as goal

pub returns : goal.returns
returns c =
    let plain : (slice_index c.args.text.now 0 == 45) ≡ false = grind (arith, nat_tests) in
    whole_is c.args.text.now c.to_u64.result plain (rw (c.scan.ensures.parts, c.as_bytes-bytes.ensures.value) at c.to_u64.ensures)
