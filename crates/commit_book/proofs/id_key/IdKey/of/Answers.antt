use Rattle.std.proofs.Common.{◌+◌, ◌*◌, arith, ◌∙◌}
use Rattle.commit_book.proofs.IdKeys.{ascii_read, id_read}
use Rattle.commit_book.proofs.id_key.IdKey.of.Goals as goal

pub returns : goal.returns
returns c =
    id_read c.args.id c.as_bytes.result.now c.in-Some.company.now c.from-upper.result c.from.result c.as_bytes.ensures.value c.as_bytes.ensures.valid c.as_bytes.ensures.ascii c.in-Some.ensures.cases
    (c.from-upper.ensures ∙ c.from_be_bytes.ensures) c.from.ensures (omega (arith, c.well_formed))

pub invariant_of-result : goal.invariant_of-result
invariant_of-result c =
    record {
      bits = omega (arith, c.from-upper.ensures, c.from_be_bytes.type_inv, c.from.ensures, c.well_formed);
      ascii = ascii_read (c.from-upper.result * 4294967296 + c.from.result) c.args.id c.as_bytes.result.now (returns c) c.as_bytes.ensures.value c.as_bytes.ensures.ascii;
    }
