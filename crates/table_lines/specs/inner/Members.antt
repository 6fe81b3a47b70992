-- The members of a table, solved or without a plan, while they are written.
use Rattle.std.specs.Prelude.{◌≡◌, ◌^◌, ◌<◌, ℕ, List, [], ◌∷◌, Option, Some, None, Ok, All, codes}
use Rattle.json.specs.Token.{Token, begin_object}
use Rattle.serde_json.specs.Data.{string}
use Rattle.line_fields.specs.Values.{order_id_from, wagon_and_order, wagon_number_from}
use Rattle.line_fields.specs.Written.{list_data, number_data, number_or_null, pair_data}
use Rattle.line_fields.specs.WrittenTokens.{member_tokens}
use Rattle.price_checker.specs.declared.prices.Prices.{Prices}
use Rattle.table_lines.specs.declared.table_line.TableLine.{TableLine}

-- the beginning of an object, and a table's rows of costs
abbrev pub opening_tokens : (cells : List (List (Option ℕ))) → List Token
opening_tokens cells = begin_object ∷ member_tokens (codes "cells") (list_data (list_data number_or_null) cells)

-- what the orders lack, where the table says it
abbrev pub lacks_tokens : Option (List ℕ) → List Token
lacks_tokens None = []
lacks_tokens (Some lacks) = member_tokens (codes "lacks") (list_data number_data lacks)

-- the names of a table read as themselves
pub record HasWritableNames (table : TableLine) : Type 0 where
  pub wagons : All (λ number. wagon_number_from (string number) ≡ Ok number) table.wagons.items
  pub orders : All (λ id. order_id_from (string id) ≡ Ok id) table.orders.items

-- the names of a table and the pairs of a plan read as themselves, and the prices are numbers of 64 bits
pub record AreWritable (table : TableLine) (plan : List (List ℕ × List ℕ)) (prices : Prices) : Type 0 where
  pub names : HasWritableNames table
  pub pairs : All (λ pair. wagon_and_order (pair_data pair) ≡ Ok pair) plan
  pub u : All (λ price. price < 2 ^ 64) prices.u.items
  pub v : All (λ price. price < 2 ^ 64) prices.v.items
