-- What a book is made from.
use Rattle.std.specs.Prelude.{ℕ, List}
use Rattle.line_network.specs.Network.{NetworkValue}
use Rattle.operating_db.specs.Office.{Office}

-- What a book is given: the office that it begins with; the networks, numbered from 1; how many entries it may have, and
-- how many problems it keeps.
pub record Setting : Type 0 where
  pub first : Office
  pub networks : List NetworkValue
  pub entries : ℕ
  pub kept : ℕ
