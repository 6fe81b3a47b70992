-- What makes the line of a commit read as that commit.
use Rattle.std.specs.Prelude.{◌≡◌, ◌<◌, ◌≤◌, ◌^◌, ℕ, List, All, Ok}
use Rattle.line_fields.specs.Values.{wagon_and_order}
use Rattle.line_fields.specs.Written.{pair_data}
use Rattle.line_fields.specs.Commands.{max_version}
use Rattle.move_messages.specs.declared.commit_text.CommitText.{CommitText}

-- a wagon and an order that are read as themselves
abbrev pub IsReadablePair : List ℕ × List ℕ → Type 0
IsReadablePair pair = wagon_and_order (pair_data pair) ≡ Ok pair

-- prices that fit 64 bits
abbrev pub AreReadablePrices : List ℕ → Type 0
AreReadablePrices prices = All (λ price. price < 2 ^ 64) prices

-- a commit whose version, pairs and prices are read as themselves
pub record IsReadable (commit : CommitText) : Type 0 where
  pub version : commit.version ≤ max_version
  pub pairs : All IsReadablePair commit.pairs
  pub u : AreReadablePrices commit.u
  pub v : AreReadablePrices commit.v
