use Rattle.operating_db.proofs.CompactEvents.{alike_answer}
use Rattle.operating_db.proofs.CompactOffices.{alike_show, compact_agrees, compact_alike, compact_begins}
use Rattle.operating_db.proofs.CompactRuns.{closed_stay, no_answer_changes, nothing_added, nothing_lost}
use Rattle.operating_db.proofs.laws.nothing_is_lost.Goals as goal

pub returns : goal.returns
returns c = record {
  agrees = compact_agrees;
  begins = compact_begins;
  alike = compact_alike;
  shown = alike_show;
  answers = alike_answer;
  closed = closed_stay;
  runs = nothing_lost;
  back = nothing_added;
  refused = no_answer_changes;
}
