use Rattle.std.proofs.Common.{refl}
use Rattle.std.specs.Fmt.{digits}
use Rattle.faults.specs.RefusalNumbers.{refusals}
use Rattle.faults.proofs.entries.entries.Goals as goal

-- each number is that of its refusal, and each entry begins with its heading
pub returns : goal.returns
unfolding refusals digits
returns c = refl
