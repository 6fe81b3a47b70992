use Rattle.std.proofs.Common.{sym}
use Rattle.csv.specs.Records.{fields_of}
use Rattle.fleet_rows.proofs.ReadingLemmas.{as_many, made_from, refused_from}
use Rattle.fleet_rows.proofs.reading.RosterSoFarFromRecords.with_record.Goals as goal

pub with_row-requires-clause-each : goal.with_row-requires-clause-each
with_row-requires-clause-each c =
    let (done, is, counted, few) = c.requires in
    as_many c.args.self done is

pub returns-clause-made : goal.returns-clause-made
returns-clause-made c =
    let (done, is, counted, few) = c.requires in
    made_from c.args.number c.args.self (fields_of c.args.fields.now) c.in-Some.row c.with_row.result few (sym c.in-Some.ensures.meaning)
    c.with_row.ensures.added c.with_row.ensures.named c.with_row.ensures.new c.with_row.ensures.roster

pub returns-clause-refused : goal.returns-clause-refused
returns-clause-refused c =
    let (done, is, counted, few) = c.requires in
    refused_from c.args.number c.args.self (fields_of c.args.fields.now) c.in-Some.row c.with_row.result few (sym c.in-Some.ensures.meaning) c.with_row.ensures.refused c.with_row.ensures.first
