-- Where a line can't be read, it is the line of that number.
use Rattle.std.proofs.Common.{◌≡◌, ◌∙◌, ℕ, ◌+◌, Bool, true, false, cond, not, List, [], ◌∷◌, ◌++◌, length, refl, ap, Option, Some, None, is_some, Result, Ok, Err, arith, inl, inr}
use Rattle.std.specs.Prelude.{nat_le}
use Rattle.std.proofs.lemmas.Bool.{cases_Bool}
use Rattle.faults.specs.declared.faults.CheckpointFault.{CheckpointFault}
use Rattle.faults.specs.declared.faults.CheckpointFault.TheVariants.{BadCheckpointLine, DuplicateWagon, TooLarge}
use Rattle.line_fields.specs.declared.fault.LineFault.{LineFault}
use Rattle.line_engine.specs.Lines.{is_blank}
use Rattle.wagons_and_orders.specs.declared.wagon_row.WagonRow.{WagonRow}
use Rattle.wagons_and_orders.specs.OrderRow.{OrderRowValue}
use Rattle.wagons_and_orders.specs.RowParts.{row_of_parts}
use Rattle.fleet_rows.specs.Kept.{max_roster_wagons}
use Rattle.fleet_rows.specs.Rows.{order_in}
use Rattle.fleet_rows.specs.SameWagons.{has_wagon}
use Rattle.checkpoint.specs.LineReading.{checkpoint_line_of}
use Rattle.checkpoint.specs.OrderLine.{OrderLineValue}
use Rattle.checkpoint.specs.declared.line.CheckpointLine.{CheckpointLine}
use Rattle.checkpoint.specs.declared.line.CheckpointLine.TheVariants.{Head, Wagon, Order, End}
use Rattle.checkpoint.specs.OfficeOf.{closed, office_of_lines, office_of_taken, with_lines}
use Rattle.checkpoint.specs.Parts.{PartsValue, no_parts}
use Rattle.checkpoint.specs.Reads.{IsUnread}
use Rattle.checkpoint.specs.Taking.{Taken, is_above_last, may_follow, take_end, take_line, take_next, take_order, take_read, take_said, take_wagon, with_order}
use Rattle.checkpoint.specs.declared.read_fault.ReadFault.{ReadFault}
use Rattle.checkpoint.specs.declared.read_fault.ReadFault.TheVariants.{Line, Unread}
use Rattle.checkpoint.proofs.Sound.{fault_stays}

-- ---- what a line says is never refused as a line that can't be read

record IsOther (taken : Taken) : Type 0 where
  pub never : (n : ℕ) (fault : LineFault) → taken ≡ Err (Unread n fault) → ⊥

by_line : (fault : CheckpointFault) → IsOther (Err (Line fault))
by_line fault = record { never = λ n why is. cc }

taken : (parts : PartsValue) → IsOther (Ok parts)
taken parts = record { never = λ n why is. cc }

either : (b : Bool) (x y : Taken) → IsOther x → IsOther y → IsOther (cond b x y)
either true x y hx hy = hx
either false x y hx hy = hy

wagon_other : (n : ℕ) (parts : PartsValue) (row : WagonRow) → IsOther (take_wagon n parts row)
unfolding take_wagon
wagon_other n parts row =
    let known = either (has_wagon parts.wagons row.number) _ _ (by_line (DuplicateWagon n)) (by_line (BadCheckpointLine n)) in
    let above = either (is_above_last parts.wagons row.number) _ _ (taken (record parts { wagons = parts.wagons ++ row ∷ [] })) known in
    let few = either (nat_le max_roster_wagons (length parts.wagons)) _ _ (by_line (TooLarge n)) above in
    either (not (may_follow parts.orders row)) _ _ (by_line (BadCheckpointLine n)) few

row_other : (n : ℕ) (parts : PartsValue) (o : Option OrderRowValue) → IsOther (with_order n parts o)
row_other n parts None = by_line _
row_other n parts (Some row) = either _ _ _ (by_line _) (either _ _ _ (taken _) (by_line _))

order_other : (n : ℕ) (parts : PartsValue) (order : OrderLineValue) → IsOther (take_order n parts order)
unfolding take_order
order_other n parts order = either (is_some (order_in parts.orders order.text.id)) _ _ (by_line _) (either _ _ _ (by_line _) (row_other n parts (row_of_parts order.text order.promised order.filled)))

end_other : (n : ℕ) (parts : PartsValue) (lines : ℕ) → IsOther (take_end n parts lines)
unfolding take_end
end_other n parts lines = either _ _ _ (by_line _) (either _ _ _ (taken _) (by_line _))

said_other : (networks n : ℕ) (parts : PartsValue) (o : Option ℕ) (said : CheckpointLine) → IsOther (take_said networks n parts o said)
said_other networks n parts None (Head k) = either _ _ _ (by_line _) (taken _)
said_other networks n parts None (Wagon row) = by_line _
said_other networks n parts None (Order order) = by_line _
said_other networks n parts None (End lines) = by_line _
said_other networks n parts (Some known) (Head k) = by_line _
said_other networks n parts (Some known) (Wagon row) = wagon_other n parts row
said_other networks n parts (Some known) (Order order) = order_other n parts order
said_other networks n parts (Some known) (End lines) = end_other n parts lines

next_other : (networks n : ℕ) (parts : PartsValue) (ended : Bool) (said : CheckpointLine) → IsOther (take_next networks n parts ended said)
next_other networks n parts true said = by_line _
next_other networks n parts false said = said_other networks n parts parts.network said

-- ---- one line

-- a line that can't be read, number n of its file
record IsUnreadLine (n m : ℕ) (line : List ℕ) (fault : LineFault) : Type 0 where
  pub number : m ≡ n
  pub reads : checkpoint_line_of line ≡ Err fault

read_line : (networks n m : ℕ) (parts : PartsValue) (line : List ℕ) (fault : LineFault) (r : Result CheckpointLine LineFault) → checkpoint_line_of line ≡ r → take_read networks n parts r ≡ Err (Unread m fault) → IsUnreadLine n m line fault
read_line networks n m parts line fault (Err why) is refused =
    let same : why ≡ fault = cc in
    record { number = cc; reads = is ∙ ap Err same }
read_line networks n m parts line fault (Ok said) is refused = absurd ((next_other networks n parts parts.ended said).never m fault refused)

one_line : (networks n m : ℕ) (parts : PartsValue) (line : List ℕ) (fault : LineFault) → take_line networks n parts line ≡ Err (Unread m fault) → IsUnreadLine n m line fault
unfolding take_line
one_line networks n m parts line fault refused = read_line networks n m parts line fault (checkpoint_line_of line) refl refused

-- ---- all lines

-- line m of a file is unread, where the first of these is its line n
record IsUnreadFrom (n : ℕ) (lines : List (List ℕ)) (m : ℕ) (fault : LineFault) : Type 0 where
  pub before : List (List ℕ)
  pub line : List ℕ
  pub later : List (List ℕ)
  pub whole : lines ≡ before ++ line ∷ later
  pub number : m ≡ length before + n
  pub reads : checkpoint_line_of line ≡ Err fault

after_line : (n m : ℕ) (line : List ℕ) (lines : List (List ℕ)) (fault : LineFault) → IsUnreadFrom (n + 1) lines m fault → IsUnreadFrom n (line ∷ lines) m fault
after_line n m line lines fault h = record {
  before = line ∷ h.before;
  line = h.line;
  later = h.later;
  whole = ap (λ (rest : List (List ℕ)). line ∷ rest) h.whole;
  number = let at = h.number in omega arith;
  reads = h.reads;
}

at_first : (networks n m : ℕ) (fault : LineFault) (why : ReadFault) (lines : List (List ℕ)) → with_lines networks n (Err why) lines ≡ Err (Unread m fault) → why ≡ Unread m fault
at_first networks n m fault why lines refused = let stays = fault_stays networks n why lines in cc

filled_from : (networks n m : ℕ) (parts : PartsValue) (line : List ℕ) (lines : List (List ℕ)) (fault : LineFault) (taken : Taken) → take_line networks n parts line ≡ taken → with_lines networks (n + 1) taken lines ≡ Err (Unread m fault)
    → ((mid : PartsValue) → with_lines networks (n + 1) (Ok mid) lines ≡ Err (Unread m fault) → IsUnreadFrom (n + 1) lines m fault) → IsUnreadFrom n (line ∷ lines) m fault
filled_from networks n m parts line lines fault (Ok mid) is refused later = after_line n m line lines fault (later mid refused)
filled_from networks n m parts line lines fault (Err why) is refused later =
    let here : IsUnreadLine n m line fault = one_line networks n m parts line fault (is ∙ ap Err (at_first networks (n + 1) m fault why lines refused)) in
    record { before = []; line = line; later = lines; whole = refl; number = (let at = here.number in omega arith); reads = here.reads }

from_line : (networks n m : ℕ) (parts : PartsValue) (lines : List (List ℕ)) (fault : LineFault) → with_lines networks n (Ok parts) lines ≡ Err (Unread m fault) → IsUnreadFrom n lines m fault
from_line networks n m parts [] fault refused = cc
from_line networks n m parts (line ∷ lines) fault refused = elim (cases_Bool (is_blank line)) [
  | inl blank ↦ after_line n m line lines fault (from_line networks (n + 1) m parts lines fault (rw blank at refused))
  | inr filled ↦
      filled_from networks n m parts line lines fault (take_line networks n parts line) refl (rw filled at refused) (λ mid later. from_line networks (n + 1) m mid lines fault later)
]

-- ---- the office

closed_other : (k m : ℕ) (fault : LineFault) (parts : PartsValue) (network : Option ℕ) (ended : Bool) → closed k parts network ended ≡ Err (Unread m fault) → ⊥
closed_other k m fault parts (Some network) true refused = cc
closed_other k m fault parts (Some network) false refused = cc
closed_other k m fault parts None ended refused = cc

of_taken : (k m : ℕ) (fault : LineFault) (taken : Taken) → office_of_taken k taken ≡ Err (Unread m fault) → taken ≡ Err (Unread m fault)
of_taken k m fault (Err why) refused = let same : why ≡ Unread m fault = cc in ap Err same
of_taken k m fault (Ok parts) refused = absurd (closed_other k m fault parts parts.network parts.ended refused)

pub unread : (networks n : ℕ) (lines : List (List ℕ)) (fault : LineFault) → office_of_lines networks lines ≡ Err (Unread n fault) → IsUnread lines n fault
unfolding office_of_lines
unread networks n lines fault refused =
    let h : IsUnreadFrom 1 lines n fault = from_line networks 1 n no_parts lines fault (of_taken (length lines + 1) n fault (with_lines networks 1 (Ok no_parts) lines) refused) in
    record { before = h.before; line = h.line; later = h.later; whole = h.whole; number = h.number; reads = h.reads }
