use Rattle.std.proofs.Common.{◌≡◌, ℕ, ◌+◌, ◌≤◌, List, [], ◌∷◌, ◌++◌, length, Some, Result, Ok, Err, IfOk, length-append, arith, sym, ◌∙◌}
use Rattle.csv_records.specs.Fields.{Record}
use Rattle.csv_records.specs.Reading.{Gives}
use Rattle.csv_records.proofs.Saying.{SaysSoFar-more, with_record-known}
use Rattle.line_network.specs.Network.{NetworkValue}
use Rattle.line_network.specs.Reading.{is_failure, max_line_records, network_rule, with_record}
use Rattle.line_network.specs.Records.{line_record}
use Rattle.line_network.specs.declared.line_record.LineRecord.{LineRecord}
use Rattle.faults.specs.declared.faults.NetworkFault.{NetworkFault}
use Rattle.line_network.specs.inner.Reading.{IsReadSoFar}
use Rattle.line_network.proofs.reading.NetworkFromRecords.with_record.Goals as goal

-- a record more is read
one_more : (result : Result NetworkValue NetworkFault) (network : NetworkValue) (number : ℕ) (fields : Record) (read : LineRecord) → line_record fields ≡ Some read → number ≤ max_line_records + 1
    → Gives is_failure result (with_record network read) → IfOk result (λ made. length made.lines ≤ length network.lines + 2)
    → IfOk result (λ made. (done : List Record) → IsReadSoFar network done → length done + 1 ≡ number → IsReadSoFar made (done ++ fields ∷ []))
one_more (Err fault) network number fields read is few gives longer = tt
one_more (Ok made) network number fields read is few gives longer = λ done before numbered.
    let within : length done + 1 ≤ max_line_records + 1 = omega arith in
    record {
      so_far = SaysSoFar-more network_rule network made done fields before.so_far (with_record-known network_rule (length done + 1) network fields read within is ∙ gives);
      few = omega (arith, before.few, longer, length-append done (fields ∷ []));
    }

pub returns-clause-made : goal.returns-clause-made
returns-clause-made c =
    one_more c.with_line_record.result c.args.self c.args.number _ c.in-Some.read (sym c.in-Some.ensures.meaning) c.requires.3 c.with_line_record.ensures.meaning c.with_line_record.ensures.longer
