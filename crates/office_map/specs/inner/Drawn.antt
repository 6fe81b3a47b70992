-- A map by the parts that are drawn.
use Rattle.std.specs.Prelude.{ℕ, List}
use Rattle.line_network.specs.Network.{NetworkValue}
use Rattle.operating_db.specs.Office.{Office}
use Rattle.office_map.specs.Map.{edges_of, IsDrawn}
use Rattle.office_map.specs.declared.map.Parts.{Parts}

-- the map of these parts
abbrev pub IsDrawnOf : Office → NetworkValue → Parts → (text : List ℕ) → Type 0
IsDrawnOf office network parts text =
    IsDrawn office network parts.named.now parts.wagons.now parts.orders.now parts.shown.now parts.places.now parts.outside.now text

-- its lines, its promises, and its end
abbrev pub edges_of_parts : Office → NetworkValue → Parts → List ℕ
edges_of_parts office network parts = edges_of parts.named.now network parts.shown.now office.orders parts.wagons.now
