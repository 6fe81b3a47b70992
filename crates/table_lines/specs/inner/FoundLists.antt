-- The lists of a table line that have been read so far.
use Rattle.std.specs.Prelude.{◌≡◌, ◌-◌, ◌^◌, ℕ, suc, Bool, false, List, length, Option, Some, None, Ok, codes}
use Rattle.std.specs.Bool.{OnFalse}
use Rattle.std.specs.Global.{Vec}
use Rattle.json.specs.Token.{Token}
use Rattle.json.specs.Json.{members, value}
use Rattle.serde_json.specs.Data.{Data, Items, Members, array, no_members, put}
use Rattle.serde_json.specs.Find.{get_member}
use Rattle.serde_json.specs.Read.{of_json, of_members, converted}
use Rattle.move_messages.specs.OrderLimits.{max_order_wagons}
use Rattle.line_fields.specs.Values.{number_within, wagon_number_from, order_id_from, wagon_and_order}
use Rattle.cost_table.specs.TableLimits.{max_cost}
use Rattle.table_lines.specs.TableLine.{row_of}
use Rattle.table_lines.specs.inner.Tokens.{AreRead, IsListOf, Spells}
use Rattle.table_lines.specs.declared.found_lists.FoundLists.{FoundLists}

-- the member of that name is read as this list, or isn't there
abbrev pub IsMember : {A : Type 0} → (Data → A → Type 0) → (name : List ℕ) → Option (Vec A) → Members → Type 0
IsMember reads name None ms = get_member name ms ≡ None
IsMember reads name (Some list) ms = (ds : Items) × (get_member name ms ≡ Some (array ds)) × AreRead reads ds list.items

-- the lists are those of an object with these members, but for the lists whose names are left out
abbrev pub HoldBut : (left_out : List ℕ → Bool) → FoundLists → Members → Type 0
HoldBut left_out lists ms =
    OnFalse (left_out (codes "wagons")) (IsMember (λ d x. wagon_number_from d ≡ Ok x) (codes "wagons") lists.wagons ms)
    × OnFalse (left_out (codes "orders")) (IsMember (λ d x. order_id_from d ≡ Ok x) (codes "orders") lists.orders ms)
    × OnFalse (left_out (codes "cells")) (IsMember (λ d row. row_of d ≡ Ok row.items) (codes "cells") lists.cells ms)
    × OnFalse (left_out (codes "penalties")) (IsMember (λ d x. number_within 0 max_cost d ≡ Ok x) (codes "penalties") lists.penalties ms)
    × OnFalse (left_out (codes "lacks")) (IsMember (λ d x. number_within 1 max_order_wagons d ≡ Ok x) (codes "lacks") lists.lacks ms)
    × OnFalse (left_out (codes "pairs")) (IsMember (λ d x. wagon_and_order d ≡ Ok x) (codes "pairs") lists.pairs ms)
    × OnFalse (left_out (codes "u")) (IsMember (λ d x. number_within 0 (2 ^ 64 - 1) d ≡ Ok x) (codes "u") lists.u ms)
    × OnFalse (left_out (codes "v")) (IsMember (λ d x. number_within 0 (2 ^ 64 - 1) d ≡ Ok x) (codes "v") lists.v ms)

-- the lists are those of an object with these members
abbrev pub Hold : FoundLists → Members → Type 0
Hold lists ms = HoldBut (λ name. false) lists ms

-- The tokens begin with a list, and where there was none before stands what it is read as.
abbrev pub IsFilled : {A : Type 0} → ℕ → (Data → A → Type 0) → (old new : Option (Vec A)) → List Token → List Token → Type 0
IsFilled {A} nests reads old new ts rest =
    (old ≡ None) × (list : Vec A) × (new ≡ Some list) × Spells (suc nests) (IsListOf reads list.items) ts rest

-- The tokens begin with a value, and the lists hold it as the member of that name.
abbrev pub TakesMember : (name : List ℕ) → (old new : FoundLists) → List Token → List Token → Type 0
TakesMember name old new ts rest =
    (d : Data) × (converted of_json (value 126 ts) ≡ Some (d, rest)) × ((ms : Members) → Hold old ms → Hold new (put name d ms))

-- The tokens begin with an object's members and the brace behind them, and the lists are those of that object.
abbrev pub TakesMembers : List Token → List Token → FoundLists → Type 0
TakesMembers ts rest lists =
    (ms : Members) × Hold lists ms × (converted (λ read. of_members read no_members) (members (value 126) (length ts) ts) ≡ Some (ms, rest))
