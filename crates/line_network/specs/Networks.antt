-- Several networks: how many there may be, and their numbers.
use Rattle.std.specs.Prelude.{ℕ, zero, suc, List, Option, None, slice_get}
use Rattle.line_network.specs.Network.{NetworkValue}

-- the networks are numbered from 1
abbrev pub network_at : List NetworkValue → ℕ → Option NetworkValue
network_at networks zero = None
network_at networks (suc k) = slice_get networks k
