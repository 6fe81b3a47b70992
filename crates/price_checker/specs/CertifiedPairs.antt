-- Pairs by name that are certified.
use Rattle.std.specs.Prelude.{◌≡◌, ℕ, List, Ok}
use Rattle.cost_table.specs.Table.{Table}
use Rattle.cost_table.specs.Plan.{IsOptimal, cost_of}
use Rattle.cost_table.specs.Names.{NameLists}
use Rattle.price_checker.specs.Certificate.{IsCertificate}
use Rattle.price_checker.specs.NamedPairs.{NamedPair, positions_of}

-- the pairs have positions, which with the prices are a certificate of the table: no plan costs less than this
abbrev pub CertifiesPairs : NameLists → Table → List NamedPair → List ℕ → List ℕ → ℕ → Type 0
CertifiesPairs names table pairs u v cost =
    (positions : List (ℕ × ℕ)) × (positions_of names pairs ≡ Ok positions) × IsCertificate table positions u v × IsOptimal table positions × (cost ≡ cost_of table positions)
