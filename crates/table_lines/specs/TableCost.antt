-- What a table line is answered: the cost of its plan in km where its pairs and prices are a certificate of its
-- table, else the first refusal.
use Rattle.std.specs.Prelude.{◌≡◌, ◌≢◌, ℕ, Bool, ◌&&◌, ◌||◌, ◌==◌, nat_lt, if◌then◌else◌, List, length, replicate, sum, Option, unwrap_or, Result, Ok, Err, MatchResult}
use Rattle.std.specs.List.{list_all}
use Rattle.cost_table.specs.Table.{Table}
use Rattle.cost_table.specs.TableLimits.{max_table_lack, max_table_orders, max_table_wagons}
use Rattle.cost_table.specs.Plan.{IsOptimal, cost_of}
use Rattle.cost_table.specs.Names.{NameLists}
use Rattle.cost_table.specs.DistinctNames.{names_or_fault}
use Rattle.faults.specs.declared.faults.TableFault.{TableFault}
use Rattle.faults.specs.declared.faults.TableFault.TheVariants.{TooLarge, UnevenRows}
use Rattle.price_checker.specs.Certificate.{IsCertificate}
use Rattle.price_checker.specs.NamedPairs.{checked, positions_of}
use Rattle.faults.specs.declared.faults.NamedFault.{NamedFault}
use Rattle.line_fields.specs.Values.{◌>>=◌}
use Rattle.line_fields.specs.declared.fault.LineFault.{LineFault}
use Rattle.table_lines.specs.TableLine.{TableText, table_line_of}
use Rattle.table_lines.specs.TableRefusals.{refusal_of_check, refusal_of_line, refusal_of_table}
use Rattle.table_lines.specs.declared.table_refusal.TableRefusal.{TableRefusal}
use Rattle.table_lines.specs.declared.table_refusal.TableRefusal.TheVariants.{OutOfMemory, Table as OfTable}

-- What a call returned, seen by view, is what reading gives, unless memory ran out.
abbrev pub Yields : {X Y : Type 0} → (X → Y) → Result X TableRefusal → Result Y TableRefusal → Type 0
Yields view result meaning = MatchResult result (λ x. meaning ≡ Ok (view x)) (λ refusal. refusal ≢ OutOfMemory → meaning ≡ Err refusal)

-- how many wagons each order lacks: one where the line doesn't say
abbrev pub lacks_in : TableText → List ℕ
lacks_in t = unwrap_or t.lacks (replicate (length t.orders) 1)

abbrev pub is_too_large : TableText → Bool
is_too_large t = nat_lt max_table_wagons (length t.wagons) || nat_lt max_table_orders (length t.orders) || nat_lt max_table_lack (sum (lacks_in t))

-- a row for each wagon, and in each row, in penalties and in lacks a number for each order
abbrev pub is_even : ℕ → ℕ → List (List (Option ℕ)) → List ℕ → List ℕ → Bool
is_even wagons orders cells penalties lacks =
    length cells == wagons && (length penalties == orders) && (list_all (λ row. length row == length penalties) cells && (length lacks == length penalties))

-- the table of these cells, if they are even
abbrev pub even_table : ℕ → ℕ → List (List (Option ℕ)) → List ℕ → List ℕ → Result Table TableRefusal
even_table wagons orders cells penalties lacks =
    if is_even wagons orders cells penalties lacks then Ok (record { costs = cells; penalties = penalties; lacks = lacks }) else Err (OfTable UnevenRows)

-- the table of a line's cells, if they are even
abbrev pub even_table_of : TableText → Result Table TableRefusal
even_table_of t = even_table (length t.wagons) (length t.orders) t.cells t.penalties (lacks_in t)

-- the table that a line states
abbrev pub table_in : TableText → Table
table_in t = record { costs = t.cells; penalties = t.penalties; lacks = lacks_in t }

-- ---- the answer

abbrev pub with_table_fault : {A : Type 0} → Result A TableFault → Result A TableRefusal
with_table_fault (Ok x) = Ok x
with_table_fault (Err fault) = Err (refusal_of_table fault)

abbrev pub with_line_fault : {A : Type 0} → Result A LineFault → Result A TableRefusal
with_line_fault (Ok x) = Ok x
with_line_fault (Err fault) = Err (refusal_of_line fault)

abbrev pub with_check_fault : {A : Type 0} → Result A NamedFault → Result A TableRefusal
with_check_fault (Ok x) = Ok x
with_check_fault (Err fault) = Err (refusal_of_check fault)

unfoldable pub cost_of_text : TableText → Result ℕ TableRefusal
cost_of_text t =
    if is_too_large t then Err (OfTable TooLarge)
    else (with_table_fault (names_or_fault t.wagons t.orders) >>= λ names.
    even_table_of t >>= λ table.
    with_check_fault (checked names table t.pairs t.u t.v))

unfoldable pub cost_of_line : List ℕ → Result ℕ TableRefusal
cost_of_line bytes = with_line_fault (table_line_of bytes) >>= cost_of_text

-- A stated table whose pairs and prices are a certificate: its plan is an optimal one, of this cost.
pub record IsCertified (t : TableText) (cost : ℕ) : Type 0 where
  pub names : NameLists
  pub positions : List (ℕ × ℕ)
  pub named : names_or_fault t.wagons t.orders ≡ Ok names
  pub found : positions_of names t.pairs ≡ Ok positions
  pub certificate : IsCertificate (table_in t) positions t.u t.v
  pub optimal : IsOptimal (table_in t) positions
  pub least : cost ≡ cost_of (table_in t) positions

-- the line states such a table
abbrev pub CertifiesLine : List ℕ → ℕ → Type 0
CertifiesLine line cost = (t : TableText) × (table_line_of line ≡ Ok t) × IsCertified t cost
