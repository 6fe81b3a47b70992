use Rattle.std.proofs.Common.{◌+◌, ◌-◌, arith, refl}
use Rattle.std.proofs.lemmas.Result.{err_from_is_err_and}
use Rattle.csv.specs.Records.{fields_of}
use Rattle.csv_records.proofs.Asking.{asks_more, asks_once}
use Rattle.csv_records.proofs.Collecting.{Answers-end, Answers-failure, Answers-first, Answers-later, Answers-none, HasRead-first, HasRead-more}
use Rattle.csv_records.proofs.reading.collect.Goals as goal

-- the first record
pub returns-in_err-next_record-clause-meaning : goal.returns-in_err-next_record-clause-meaning
returns-in_err-next_record-clause-meaning g c =
    Answers-failure g.R.Read.remaining g.T.Fault.From.from_gives g.T.FromRecords.made_of g.T.FromRecords.refuses c.args.reader.now c.in_err-next_record.field-0.0 c.from_residual.result _ c.from_residual.ensures.1 (g.met.T.FromRecords.failures c.in_err-next_record.field-0.0)

pub returns-in_err-next_record-clause-asked : goal.returns-in_err-next_record-clause-asked
returns-in_err-next_record-clause-asked g c =
    asks_once g.R.Read.remaining c.args.reader.now (g.T.FromRecords.MOST_RECORDS + 2) c.next_record.new.reader (omega arith) c.next_record.ensures.asked

pub returns-then-not-branch-clause-meaning : goal.returns-then-not-branch-clause-meaning
returns-then-not-branch-clause-meaning g c =
    Answers-none g.R.Read.remaining g.T.Fault.From.from_gives g.T.FromRecords.made_of g.T.FromRecords.refuses c.args.reader.now c.next_record.new.reader (fields_of c.next_record.new.fields) _ _ c.requires.reader
    (rw c.if-not-branch.true at c.in_ok-next_record.ensures.reads) c.no_header.ensures.refused c.requires.first c.clear.ensures.fields

pub returns-then-not-branch-clause-asked : goal.returns-then-not-branch-clause-asked
returns-then-not-branch-clause-asked g c =
    asks_once g.R.Read.remaining c.args.reader.now (g.T.FromRecords.MOST_RECORDS + 2) c.next_record.new.reader (omega arith) c.next_record.ensures.asked

pub returns-in_err-made-clause-meaning : goal.returns-in_err-made-clause-meaning
returns-in_err-made-clause-meaning g c =
    let p = err_from_is_err_and c.from_residual-in_err-made.result c.from_residual-in_err-made.ensures.1 in
    Answers-first g.R.Read.remaining g.T.Fault.From.from_gives g.T.FromRecords.made_of g.T.FromRecords.refuses c.args.reader.now c.next_record.new.reader
    c.from_residual-in_err-made.result c.in_err-made.field-0.0 _ c.requires.reader (rw c.if-not-branch.false at c.in_ok-next_record.ensures.reads) (rw p.2 at p.1) c.in_err-made.ensures.refused c.requires.first

pub returns-in_err-made-clause-asked : goal.returns-in_err-made-clause-asked
returns-in_err-made-clause-asked g c =
    asks_once g.R.Read.remaining c.args.reader.now (g.T.FromRecords.MOST_RECORDS + 2) c.next_record.new.reader (omega arith) c.next_record.ensures.asked

pub loop-number-init : goal.loop-number-init
loop-number-init g c = record {
  set_up = c.in_ok-next_record.ensures.still;
  read = HasRead-first g.R.Read.remaining g.T.FromRecords.made_of c.args.reader.now c.next_record.new.reader (fields_of c.next_record.new.fields) c.in_ok-made.made
      c.requires.reader (rw c.if-not-branch.false at c.in_ok-next_record.ensures.reads) c.in_ok-made.ensures.made;
  asked = asks_once g.R.Read.remaining c.args.reader.now 1 c.next_record.new.reader (omega arith) c.next_record.ensures.asked;
}

pub next_record-requires-in-loop-number : goal.next_record-requires-in-loop-number
next_record-requires-in-loop-number g c = c.loop-number.invariant.set_up

-- a record below the header
pub returns-in_err-next_record-2-clause-meaning : goal.returns-in_err-next_record-2-clause-meaning
returns-in_err-next_record-2-clause-meaning g c =
    Answers-failure g.R.Read.remaining g.T.Fault.From.from_gives g.T.FromRecords.made_of g.T.FromRecords.refuses c.args.reader.now c.in_err-next_record-2.field-0.0 c.from_residual-in_err-next_record-2.result _ c.from_residual-in_err-next_record-2.ensures.1 (g.met.T.FromRecords.failures c.in_err-next_record-2.field-0.0)

pub returns-in_err-next_record-2-clause-asked : goal.returns-in_err-next_record-2-clause-asked
returns-in_err-next_record-2-clause-asked g c =
    asks_more g.R.Read.remaining c.args.reader.now (c.loop-number.number - 1) (g.T.FromRecords.MOST_RECORDS + 2) c.loop-number.reader c.next_record-in-loop-number.new.reader (omega arith)
    c.loop-number.invariant.asked c.next_record-in-loop-number.ensures.asked

pub returns-then-not-branch-2-clause-meaning : goal.returns-then-not-branch-2-clause-meaning
returns-then-not-branch-2-clause-meaning g c =
    Answers-end g.R.Read.remaining g.T.Fault.From.from_gives g.T.FromRecords.made_of g.T.FromRecords.refuses c.args.reader.now c.loop-number.reader c.next_record-in-loop-number.new.reader c.loop-number.number c.loop-number.made
    (fields_of c.next_record-in-loop-number.new.fields) c.args.at.now c.loop-number.invariant.read c.loop-number.invariant.set_up (rw c.if-not-branch-2.true at c.in_ok-next_record-2.ensures.reads)

pub returns-then-not-branch-2-clause-asked : goal.returns-then-not-branch-2-clause-asked
returns-then-not-branch-2-clause-asked g c =
    asks_more g.R.Read.remaining c.args.reader.now (c.loop-number.number - 1) (g.T.FromRecords.MOST_RECORDS + 2) c.loop-number.reader c.next_record-in-loop-number.new.reader (omega arith)
    c.loop-number.invariant.asked c.next_record-in-loop-number.ensures.asked

pub with_record-requires : goal.with_record-requires
with_record-requires g c =
    let h = c.loop-number.invariant.read in
    (h.done, h.is_made, h.counted, omega (arith, c.MOST_RECORDS-number-end.ensures))

pub returns-in_err-made-2-clause-meaning : goal.returns-in_err-made-2-clause-meaning
returns-in_err-made-2-clause-meaning g c =
    let p = err_from_is_err_and c.from_residual-in_err-made-2.result c.from_residual-in_err-made-2.ensures.1 in
    Answers-later g.R.Read.remaining g.T.Fault.From.from_gives g.T.FromRecords.made_of g.T.FromRecords.refuses c.args.reader.now c.loop-number.reader c.next_record-in-loop-number.new.reader c.loop-number.number c.loop-number.made
    c.from_residual-in_err-made-2.result c.in_err-made-2.field-0.0 _ c.loop-number.invariant.read c.loop-number.invariant.set_up
    (rw c.if-not-branch-2.false at c.in_ok-next_record-2.ensures.reads) (rw p.2 at p.1) c.in_err-made-2.ensures.refused refl

pub returns-in_err-made-2-clause-asked : goal.returns-in_err-made-2-clause-asked
returns-in_err-made-2-clause-asked g c =
    asks_more g.R.Read.remaining c.args.reader.now (c.loop-number.number - 1) (g.T.FromRecords.MOST_RECORDS + 2) c.loop-number.reader c.next_record-in-loop-number.new.reader (omega arith)
    c.loop-number.invariant.asked c.next_record-in-loop-number.ensures.asked

pub loop-number-preserved : goal.loop-number-preserved
loop-number-preserved g c =
    record {
      set_up = c.in_ok-next_record-2.ensures.still;
      read = HasRead-more g.R.Read.remaining g.T.FromRecords.made_of c.args.reader.now c.loop-number.reader c.next_record-in-loop-number.new.reader c.loop-number.number c.loop-number.made c.in_ok-made-2.made
          (fields_of c.next_record-in-loop-number.new.fields) c.loop-number.invariant.read c.loop-number.invariant.set_up
          (rw c.if-not-branch-2.false at c.in_ok-next_record-2.ensures.reads) c.in_ok-made-2.ensures.made;
      asked = asks_more g.R.Read.remaining c.args.reader.now (c.loop-number.number - 1) (c.loop-number.number + 1 - 1) c.loop-number.reader c.next_record-in-loop-number.new.reader (omega arith)
          c.loop-number.invariant.asked c.next_record-in-loop-number.ensures.asked;
    }

-- the record past the last that may be
pub next_record-requires-2 : goal.next_record-requires-2
next_record-requires-2 g c = c.loop-number.invariant.set_up

pub returns-in_err-next_record-3-clause-meaning : goal.returns-in_err-next_record-3-clause-meaning
returns-in_err-next_record-3-clause-meaning g c =
    Answers-failure g.R.Read.remaining g.T.Fault.From.from_gives g.T.FromRecords.made_of g.T.FromRecords.refuses c.args.reader.now c.in_err-next_record-3.field-0.0 c.from_residual-in_err-next_record-3.result _ c.from_residual-in_err-next_record-3.ensures.1 (g.met.T.FromRecords.failures c.in_err-next_record-3.field-0.0)

pub returns-in_err-next_record-3-clause-asked : goal.returns-in_err-next_record-3-clause-asked
returns-in_err-next_record-3-clause-asked g c =
    asks_more g.R.Read.remaining c.args.reader.now (c.loop-number.number - 1) (g.T.FromRecords.MOST_RECORDS + 2) c.loop-number.reader c.next_record-2.new.reader
    (omega (arith, c.MOST_RECORDS-number-end.ensures, g.met.T.FromRecords.counted)) c.loop-number.invariant.asked c.next_record-2.ensures.asked

pub returns-then-branch-clause-meaning : goal.returns-then-branch-clause-meaning
returns-then-branch-clause-meaning g c =
    Answers-later g.R.Read.remaining g.T.Fault.From.from_gives g.T.FromRecords.made_of g.T.FromRecords.refuses c.args.reader.now c.loop-number.reader c.next_record-2.new.reader c.loop-number.number c.loop-number.made
    _ c.too_many.result _ c.loop-number.invariant.read c.loop-number.invariant.set_up
    (rw c.if-branch.true at c.in_ok-next_record-3.ensures.reads) refl
    (λ done rest is counted. c.too_many.ensures.refused c.loop-number.made done rest (fields_of c.next_record-2.new.fields) is (omega (arith, c.MOST_RECORDS-number-end.ensures)))
    (omega (arith, c.MOST_RECORDS-number-end.ensures, c.MOST_RECORDS.ensures))

pub returns-then-branch-clause-asked : goal.returns-then-branch-clause-asked
returns-then-branch-clause-asked g c =
    asks_more g.R.Read.remaining c.args.reader.now (c.loop-number.number - 1) (g.T.FromRecords.MOST_RECORDS + 2) c.loop-number.reader c.next_record-2.new.reader
    (omega (arith, c.MOST_RECORDS-number-end.ensures, g.met.T.FromRecords.counted)) c.loop-number.invariant.asked c.next_record-2.ensures.asked

pub returns-clause-meaning : goal.returns-clause-meaning
returns-clause-meaning g c =
    Answers-end g.R.Read.remaining g.T.Fault.From.from_gives g.T.FromRecords.made_of g.T.FromRecords.refuses c.args.reader.now c.loop-number.reader c.next_record-2.new.reader c.loop-number.number c.loop-number.made
    (fields_of c.next_record-2.new.fields) c.args.at.now c.loop-number.invariant.read c.loop-number.invariant.set_up (rw c.if-branch.false at c.in_ok-next_record-3.ensures.reads)

pub returns-clause-asked : goal.returns-clause-asked
returns-clause-asked g c =
    asks_more g.R.Read.remaining c.args.reader.now (c.loop-number.number - 1) (g.T.FromRecords.MOST_RECORDS + 2) c.loop-number.reader c.next_record-2.new.reader
    (omega (arith, c.MOST_RECORDS-number-end.ensures, g.met.T.FromRecords.counted)) c.loop-number.invariant.asked c.next_record-2.ensures.asked
