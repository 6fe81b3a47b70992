use Rattle.std.proofs.Common.{◌≡◌, All, false, vec_len}
use Rattle.run_tests.proofs.tests.feeding.feeds.readers_of.Given as goal

abbrev pub invariant-loop-text : goal.invariant-loop-text
invariant-loop-text l = record {
  count : vec_len l.readers ≡ l.text-index;
  fresh : All (λ reader. reader.has_failed ≡ false) l.readers.items;
}
