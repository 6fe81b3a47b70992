use Rattle.std.proofs.Common.{take, string_bytes}
use Rattle.faults.specs.Manual.{HasEntries}
use Rattle.faults.specs.RefusalNumbers.{refusals}
use Rattle.faults.proofs.manual.manual_text.Given as goal

abbrev pub invariant-loop-entry : goal.invariant-loop-entry
invariant-loop-entry l = HasEntries (take l.entry-index refusals) (string_bytes l.text)
