use Rattle.std.proofs.Common.{◌∙◌, sym}
use Rattle.csv.specs.Records.{fields_of}
use Rattle.fleet_rows.proofs.ReadingLemmas.{IsNumberedSoFar-none}
use Rattle.fleet_rows.proofs.reading.RosterSoFarFromRecords.of_header.Goals as goal

pub returns-clause-made : goal.returns-clause-made
returns-clause-made c =
    IsNumberedSoFar-none c.empty.result (fields_of c.args.header.now) c.empty.ensures.roster c.empty.ensures.named (sym c.is_header.ensures ∙ c.if-not-is_header.false)
