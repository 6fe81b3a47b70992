-- For which place a gate was entered.
use Rattle.std.specs.Prelude.{ℕ}
use Rattle.line_network.specs.declared.gate.Entered.{Entered}

abbrev pub place_of : Entered → ℕ
place_of entered = entered.origin
