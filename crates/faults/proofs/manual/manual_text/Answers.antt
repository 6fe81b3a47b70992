use Rattle.std.proofs.Common.{string_bytes, arith}
use Rattle.faults.proofs.EntryLemmas.{HasEntries-end, HasEntries-more, HasEntries-start}
use Rattle.faults.proofs.manual.manual_text.Goals as goal

pub loop-entry-init : goal.loop-entry-init
loop-entry-init c = HasEntries-start (string_bytes c.in_ok-text.text) c.in_ok-text.ensures.ok

pub loop-entry-preserved : goal.loop-entry-preserved
loop-entry-preserved c =
    HasEntries-more c.entries-entries.result c.entries-entries.ensures c.loop-entry.entry-index _ (string_bytes c.loop-entry.text) (string_bytes c.push_str.new.self) _
    (omega arith) c.loop-entry.invariant (c.in_ok-push_str.ensures {u = tt}).bytes (c.in_ok-push_str-2.ensures {u = tt}).bytes

pub returns : goal.returns
returns c = HasEntries-end c.entries-entries.result c.entries-entries.ensures c.loop-entry.entry-index (string_bytes c.loop-entry.text) (omega arith) c.loop-entry.invariant
