-- The lines of an office are taken, and say that office; and no others do.
use Rattle.std.proofs.Common.{◌≡◌, ◌∙◌, ℕ, ◌+◌, ◌≤◌, Bool, true, false, cond, not, ◌&&◌, nat_lt, List, [], ◌∷◌, ◌++◌, length, map, refl, sym, ap, subst, Option, Some, None, is_some, Result, Ok, Err, arith, inl, inr, append_assoc, length-append}
use Rattle.std.specs.Prelude.{◌==◌, nat_le, All}
use Rattle.std.specs.List.{AllByRecursion, IsDistinct, list_all}
use Rattle.std.specs.List.Sorted.{IsStrictlySortedBy}
use Rattle.std.proofs.lemmas.Bool.{cases_Bool}
use Rattle.std.proofs.lemmas.Bool.Decides.{nat_tests}
use Rattle.std.proofs.lemmas.List.{append-nil}
use Rattle.std.proofs.lemmas.List.Elements.{recursion_from_All}
use Rattle.std.proofs.lemmas.List.Sums.{AllPass-from_list_all, sum_by-append, sum_by-cons}
use Rattle.move_messages.specs.MaxLoad.{max_load}
use Rattle.line_fields.specs.declared.fault.LineFault.{LineFault}
use Rattle.line_engine.specs.Lines.{is_blank}
use Rattle.wagons_and_orders.specs.declared.wagon_row.WagonRow.{WagonRow}
use Rattle.wagons_and_orders.specs.Lack.{is_open}
use Rattle.wagons_and_orders.specs.OrderRow.{IsOrderRow, OrderRowValue}
use Rattle.wagons_and_orders.specs.PossibleRows.{IsPossibleRow, is_possible}
use Rattle.wagons_and_orders.specs.RowParts.{row_of_parts}
use Rattle.wagons_and_orders.proofs.Possible.{is_possible_by}
use Rattle.fleet_rows.specs.Kept.{by_number, max_roster_wagons}
use Rattle.fleet_rows.specs.Rows.{max_open_wagons, names_of, open_wagons, order_in, wanted_open}
use Rattle.fleet_rows.proofs.Named.{is_same, same_name}
use Rattle.faults.specs.declared.faults.CheckpointFault.TheVariants.{OrderFull, DuplicateOrder}
use Rattle.operating_db.specs.FirstOffice.{IsFirstOffice}
use Rattle.operating_db.specs.Office.{Office}
use Rattle.checkpoint.specs.LineReading.{checkpoint_line_of}
use Rattle.checkpoint.specs.OrderLine.{OrderLineValue, line_of_row}
use Rattle.checkpoint.specs.declared.line.CheckpointLine.{CheckpointLine}
use Rattle.checkpoint.specs.declared.line.CheckpointLine.TheVariants.{Wagon, End}
use Rattle.checkpoint.specs.Checkpoint.{IsCheckpointOf, lines_for, order_said, written_lines}
use Rattle.checkpoint.specs.OfficeOf.{closed, office_of_lines, office_of_taken, with_lines}
use Rattle.checkpoint.specs.Parts.{PartsValue, no_parts}
use Rattle.checkpoint.specs.Taking.{Taken, is_above_last, is_full, is_kept_by, lines_before_last, take_end, take_head, take_line, take_next, take_order, take_read, take_wagon, with_order}
use Rattle.checkpoint.specs.declared.read_fault.ReadFault.TheVariants.{Line}
use Rattle.checkpoint.specs.inner.IsParts.{has_its_wagons}
use Rattle.checkpoint.proofs.Above.{above_before}
use Rattle.checkpoint.proofs.Offices.{first_office, orders_have_their_wagons, wagons_are_kept}
use Rattle.checkpoint.proofs.RowParts.{parts_of}
use Rattle.checkpoint.proofs.Sound.{AreStepped, no_parts_valid, said_by, steps}
use Rattle.checkpoint.proofs.Tests.{and_right}

-- ---- what lines say is taken, one after the other, whatever their numbers

abbrev pub TakesAll : (networks : ℕ) → (old : PartsValue) → List CheckpointLine → (new : PartsValue) → Type 0
TakesAll networks old [] new = new ≡ old
TakesAll networks old (said ∷ more) new = (mid : PartsValue) × ((n : ℕ) → take_next networks n old old.ended said ≡ Ok mid) × TakesAll networks mid more new

takes_both : (networks : ℕ) (old mid new : PartsValue) (first second : List CheckpointLine) → TakesAll networks old first mid → TakesAll networks mid second new → TakesAll networks old (first ++ second) new
takes_both networks old mid new [] second is later = subst (λ (p : PartsValue). TakesAll networks p second new) is later
takes_both networks old mid new (said ∷ more) second takes later = (takes.0, takes.1, takes_both networks takes.0 mid new more second takes.2 later)

-- the parts before the last line
abbrev stage : (network : ℕ) → List WagonRow → List OrderRowValue → PartsValue
stage network wagons orders = record { network = Some network; wagons = wagons; orders = orders; ended = false }

-- ---- wagons

-- a wagon's row that may stand in a checkpoint
record MayStand (row : WagonRow) : Type 0 where
  pub few_kg : row.load_limit ≤ max_load
  pub possible : IsPossibleRow row

wagon_taken : (n network : ℕ) (rows : List WagonRow) (row : WagonRow) → nat_le row.load_limit max_load ≡ true → is_possible row ≡ true → nat_le max_roster_wagons (length rows) ≡ false → is_above_last rows row.number ≡ true
    → take_wagon n (stage network rows []) row ≡ Ok (stage network (rows ++ row ∷ []) [])
unfolding take_wagon
wagon_taken n network rows row light possible few above = rw (light, possible, few, above) refl

takes_wagons : (networks network : ℕ) (front back : List WagonRow) → IsStrictlySortedBy by_number (front ++ back) → length (front ++ back) ≤ max_roster_wagons → AllByRecursion MayStand back
    → TakesAll networks (stage network front []) (map Wagon back) (stage network (front ++ back) [])
takes_wagons networks network front [] sorted few stand = ap (λ (rows : List WagonRow). stage network rows []) (append-nil front)
takes_wagons networks network front (row ∷ back) sorted few stand =
    let regrouped : (front ++ row ∷ []) ++ back ≡ front ++ row ∷ back = append_assoc front (row ∷ []) back in
    let within : nat_le row.load_limit max_load ≡ true = let most = stand.0.few_kg in grind (arith, nat_tests) in
    let room : nat_le max_roster_wagons (length front) ≡ false =
    (let counted : length front + (1 + length back) ≤ max_roster_wagons = omega (arith, length-append front (row ∷ back)) in grind (arith, nat_tests)) in (
      stage network (front ++ row ∷ []) [],
      λ n. wagon_taken n network front row within (is_possible_by row stand.0.possible) room (above_before front row back sorted),
      subst (λ (rows : List WagonRow). TakesAll networks (stage network (front ++ row ∷ []) []) (map Wagon back) (stage network rows [])) regrouped
          (takes_wagons networks network (front ++ row ∷ []) back (subst (IsStrictlySortedBy by_number) (sym regrouped) sorted) (subst (λ (rows : List WagonRow). length rows ≤ max_roster_wagons) (sym regrouped) few) stand.1),
    )

-- ---- orders

-- an order that may stand in a checkpoint with these wagons
record Fits (wagons : List WagonRow) (row : OrderRowValue) : Type 0 where
  pub valid : IsOrderRow row
  pub opened : is_open row ≡ true
  pub its_wagons : has_its_wagons wagons row ≡ true

stays : (b c : Bool) → (not b && c) ≡ true → b ≡ false
stays true c h = cc
stays false c h = refl

order_taken : (n network : ℕ) (wagons : List WagonRow) (orders : List OrderRowValue) (row : OrderRowValue) → Fits wagons row → order_in orders row.text.id ≡ None → open_wagons orders + row.text.wagons ≤ max_open_wagons
    → take_order n (stage network wagons orders) (line_of_row row) ≡ Ok (stage network wagons (orders ++ row ∷ []))
unfolding take_order
order_taken n network wagons orders row h new few =
    let parts : PartsValue = stage network wagons orders in
    let order : OrderLineValue = line_of_row row in
    let fresh : is_some (order_in orders row.text.id) ≡ false = ap is_some new in
    let some_left : nat_lt (length row.filled) row.text.wagons ≡ true = and_right (not row.withdrawn) (nat_lt (length row.filled) row.text.wagons) h.opened in
    let no_more : length row.promised + length row.filled ≤ row.text.wagons = h.valid.no_more in
    let not_over : nat_lt row.text.wagons (length row.promised + length row.filled) ≡ false = grind (arith, nat_tests) in
    let unfilled : nat_le row.text.wagons (length row.filled) ≡ false = grind (arith, nat_tests) in
    let full : is_full order ≡ false = rw (not_over, unfilled) refl in
    let within : nat_lt max_open_wagons (open_wagons orders + row.text.wagons) ≡ false = grind (arith, nat_tests) in
    let made : with_order n parts (Some row) ≡ Ok (stage network wagons (orders ++ row ∷ [])) = (let its = h.its_wagons in rw (within, its) refl) in
    ap (λ (b : Bool). cond b (Err (Line (DuplicateOrder n))) (cond (is_full order) (Err (Line (OrderFull n))) (with_order n parts (row_of_parts row.text row.promised row.filled)))) fresh
    ∙ (ap (λ (b : Bool). cond b (Err (Line (OrderFull n))) (with_order n parts (row_of_parts row.text row.promised row.filled))) full
    ∙ (ap (λ (o : Option OrderRowValue). with_order n parts o) (parts_of row h.valid (stays row.withdrawn (nat_lt (length row.filled) row.text.wagons) h.opened)) ∙ made))

in_middle : (P : List ℕ → Type 0) (front : List OrderRowValue) (row : OrderRowValue) (back : List OrderRowValue) → AllByRecursion P (names_of (front ++ row ∷ back)) → P row.text.id
in_middle P [] row back all = all.0
in_middle P (first ∷ front) row back all = in_middle P front row back all.1

new_name : (front : List OrderRowValue) (row : OrderRowValue) (back : List OrderRowValue) → IsDistinct is_same (names_of (front ++ row ∷ back)) → order_in front row.text.id ≡ None
unfolding IsDistinct
new_name [] row back h = refl
new_name (first ∷ front) row back h =
    let apart : is_same first.text.id row.text.id ≡ false = in_middle (λ (name : List ℕ). is_same first.text.id name ≡ false) front row back h.0 in
    let other : is_same row.text.id first.text.id ≡ false = same_name.symm row.text.id first.text.id ∙ apart in
    rw other (new_name front row back h.1)

wanted_while_open : (b : Bool) (n : ℕ) → b ≡ true → cond b n 0 ≡ n
wanted_while_open true n h = refl
wanted_while_open false n h = cc

takes_orders : (networks network : ℕ) (wagons : List WagonRow) (front back : List OrderRowValue) → IsDistinct is_same (names_of (front ++ back)) → open_wagons (front ++ back) ≤ max_open_wagons → AllByRecursion (Fits wagons) back
    → TakesAll networks (stage network wagons front) (map order_said back) (stage network wagons (front ++ back))
takes_orders networks network wagons front [] distinct few fits = ap (λ (rows : List OrderRowValue). stage network wagons rows) (append-nil front)
takes_orders networks network wagons front (row ∷ back) distinct few fits =
    let regrouped : (front ++ row ∷ []) ++ back ≡ front ++ row ∷ back = append_assoc front (row ∷ []) back in
    let wanted : wanted_open row ≡ row.text.wagons = wanted_while_open (is_open row) row.text.wagons fits.0.opened in
    let sum : open_wagons (front ++ row ∷ back) ≡ open_wagons front + open_wagons (row ∷ back) = sum_by-append wanted_open front (row ∷ back) in
    let first : open_wagons (row ∷ back) ≡ wanted_open row + open_wagons back = sum_by-cons wanted_open row back in
    let room : open_wagons front + row.text.wagons ≤ max_open_wagons = omega arith in (
      stage network wagons (front ++ row ∷ []),
      λ n. order_taken n network wagons front row fits.0 (new_name front row back distinct) room,
      subst (λ (rows : List OrderRowValue). TakesAll networks (stage network wagons (front ++ row ∷ [])) (map order_said back) (stage network wagons rows)) regrouped
          (takes_orders networks network wagons (front ++ row ∷ []) back (subst (λ (rows : List OrderRowValue). IsDistinct is_same (names_of rows)) (sym regrouped) distinct)
          (subst (λ (rows : List OrderRowValue). open_wagons rows ≤ max_open_wagons) (sym regrouped) few) fits.1),
    )

-- ---- the head and the last line

head_taken : (networks n network : ℕ) → 1 ≤ network → network ≤ networks → take_head networks n no_parts network ≡ Ok (stage network [] [])
head_taken networks n network from_one within =
    let some : (network == 0) ≡ false = grind (arith, nat_tests) in
    let known : nat_lt networks network ≡ false = grind (arith, nat_tests) in
    rw (some, known) refl

last_taken : (n network : ℕ) (wagons : List WagonRow) (orders : List OrderRowValue) → list_all (is_kept_by orders) wagons ≡ true
    → take_end n (stage network wagons orders) (lines_before_last wagons orders) ≡ Ok (record { network = Some network; wagons = wagons; orders = orders; ended = true })
unfolding take_end
last_taken n network wagons orders kept =
    let counted : (lines_before_last wagons orders == lines_before_last wagons orders) ≡ true = grind (arith, nat_tests) in
    rw (counted, kept) refl

-- ---- an office

all_fit : (office : Office) → All IsOrderRow office.orders → list_all is_open office.orders ≡ true → list_all (has_its_wagons office.wagons) office.orders ≡ true → AllByRecursion (Fits office.wagons) office.orders
all_fit office each opened its =
    recursion_from_All (Fits office.wagons) office.orders (λ k d below.
    record {
      valid = each k d below;
      opened = AllPass-from_list_all is_open office.orders opened k d below;
      its_wagons = AllPass-from_list_all (has_its_wagons office.wagons) office.orders its k d below;
    })

-- the parts of a whole file that says an office
abbrev whole_parts : Office → PartsValue
whole_parts office = record { network = Some office.network; wagons = office.wagons; orders = office.orders; ended = true }

takes_office : (networks : ℕ) (office : Office) → IsFirstOffice networks office → list_all is_open office.orders ≡ true → TakesAll networks no_parts (lines_for office) (whole_parts office)
takes_office networks office first opened =
    let stand : AllByRecursion MayStand office.wagons =
    recursion_from_All MayStand office.wagons (λ k d below. record { few_kg = first.wagons.few_kg k d below; possible = first.wagons.possible k d below }) in
    let valid : All IsOrderRow office.orders = λ k d below. (first.promises.orders k d below).valid in
    let fit = all_fit office valid opened (orders_have_their_wagons office first.promises) in
    let wagons = takes_wagons networks office.network [] office.wagons first.wagons.ascending first.wagons.few stand in
    let orders = takes_orders networks office.network office.wagons [] office.orders first.promises.names first.few_open fit in
    let last : TakesAll networks (stage office.network office.wagons office.orders) (End (lines_before_last office.wagons office.orders) ∷ []) (whole_parts office) =
    (whole_parts office, λ n. last_taken n office.network office.wagons office.orders (wagons_are_kept networks office first), refl) in (
      stage office.network [] [],
      λ n. head_taken networks n office.network first.from_one first.in_force,
      takes_both networks (stage office.network [] []) (stage office.network office.wagons []) (whole_parts office) (map Wagon office.wagons) (map order_said office.orders ++ End (lines_before_last office.wagons office.orders) ∷ []) wagons
          (takes_both networks (stage office.network office.wagons []) (stage office.network office.wagons office.orders) (whole_parts office) (map order_said office.orders) (End (lines_before_last office.wagons office.orders) ∷ []) orders last),
    )

-- ---- lines that say what is taken

abbrev read_as : List CheckpointLine → List (Result CheckpointLine LineFault)
read_as said = map Ok said

line_taken : (networks n : ℕ) (old mid : PartsValue) (line : List ℕ) (said : CheckpointLine) → checkpoint_line_of line ≡ Ok said → take_next networks n old old.ended said ≡ Ok mid → take_line networks n old line ≡ Ok mid
unfolding take_line
line_taken networks n old mid line said reads takes = ap (take_read networks n old) reads ∙ takes

takes_filled : (networks n : ℕ) (old new : PartsValue) (line : List ℕ) (lines : List (List ℕ)) (said : List CheckpointLine) → is_blank line ≡ false → checkpoint_line_of line ∷ map checkpoint_line_of (written_lines lines) ≡ read_as said
    → TakesAll networks old said new → ((mid : PartsValue) (more : List CheckpointLine) → map checkpoint_line_of (written_lines lines) ≡ read_as more → TakesAll networks mid more new → with_lines networks (n + 1) (Ok mid) lines ≡ Ok new)
    → with_lines networks n (Ok old) (line ∷ lines) ≡ Ok new
takes_filled networks n old new line lines [] filled reads takes later = absurd cc
takes_filled networks n old new line lines (said ∷ more) filled reads takes later =
    let here : checkpoint_line_of line ≡ Ok said = cc in
    let rest : map checkpoint_line_of (written_lines lines) ≡ read_as more = cc in
    let taken : take_line networks n old line ≡ Ok takes.0 = line_taken networks n old takes.0 line said here (takes.1 n) in
    rw (filled, taken) (later takes.0 more rest takes.2)

none_said : (said : List CheckpointLine) → [] ≡ read_as said → said ≡ []
none_said [] h = refl
none_said (said ∷ more) h = cc

takes_lines : (networks n : ℕ) (old new : PartsValue) (lines : List (List ℕ)) (said : List CheckpointLine) → map checkpoint_line_of (written_lines lines) ≡ read_as said → TakesAll networks old said new
    → with_lines networks n (Ok old) lines ≡ Ok new
takes_lines networks n old new [] said reads takes =
    let none : said ≡ [] = none_said said reads in
    let is : new ≡ old = subst (λ (s : List CheckpointLine). TakesAll networks old s new) none takes in
    ap (λ (p : PartsValue). Ok p) (sym is)
takes_lines networks n old new (line ∷ lines) said reads takes = elim (cases_Bool (is_blank line)) [
  | inl blank ↦ rw blank (takes_lines networks (n + 1) old new lines said (rw blank at reads) takes)
  | inr filled ↦ takes_filled networks n old new line lines said filled (rw filled at reads) takes (λ mid more rest later. takes_lines networks (n + 1) mid new lines more rest later)
]

-- the lines of an office say that office
pub complete : (networks : ℕ) (lines : List (List ℕ)) (office : Office) → IsCheckpointOf networks lines office → office_of_lines networks lines ≡ Ok office
unfolding office_of_lines
complete networks lines office h =
    let taken : with_lines networks 1 (Ok no_parts) lines ≡ Ok (whole_parts office) = takes_lines networks 1 no_parts (whole_parts office) lines (lines_for office) h.said (takes_office networks office h.first h.all_open) in
    ap (office_of_taken (length lines + 1)) taken

-- ---- and no others do

record IsWhole (n : ℕ) (parts : PartsValue) (office : Office) : Type 0 where
  pub network : ℕ
  pub known : parts.network ≡ Some network
  pub ended : parts.ended ≡ true
  pub office_is : office ≡ record { wagons = parts.wagons; orders = parts.orders; network = network }

is_whole : (n : ℕ) (parts : PartsValue) (office : Office) (o : Option ℕ) (ended : Bool) → parts.network ≡ o → parts.ended ≡ ended → closed n parts o ended ≡ Ok office → IsWhole n parts office
is_whole n parts office None ended known is h = cc
is_whole n parts office (Some network) true known is h = record { network = network; known = known; ended = is; office_is = cc }
is_whole n parts office (Some network) false known is h = cc

exact_by : (networks n : ℕ) (lines : List (List ℕ)) (office : Office) (taken : Taken) → with_lines networks 1 (Ok no_parts) lines ≡ taken → office_of_taken n taken ≡ Ok office → IsCheckpointOf networks lines office
exact_by networks n lines office (Err fault) is h = cc
exact_by networks n lines office (Ok parts) is h =
    let stepped : AreStepped networks no_parts parts lines = steps networks 1 no_parts parts lines (no_parts_valid networks) is in
    let whole : IsWhole n parts office = is_whole n parts office parts.network parts.ended refl refl h in
    let same : parts ≡ whole_parts (record { wagons = parts.wagons; orders = parts.orders; network = whole.network }) = parts_are parts whole.network whole.known whole.ended in
    let says : stepped.said ≡ lines_for (record { wagons = parts.wagons; orders = parts.orders; network = whole.network }) = sym stepped.more ∙ ap said_by same in
    subst (IsCheckpointOf networks lines) (sym whole.office_is) (record {
      said = stepped.reads ∙ ap read_as says;
      first = first_office networks parts whole.network stepped.valid whole.known whole.ended;
      all_open = stepped.valid.all_open;
    })
  where
    parts_are : (parts : PartsValue) (network : ℕ) → parts.network ≡ Some network → parts.ended ≡ true → parts ≡ record { network = Some network; wagons = parts.wagons; orders = parts.orders; ended = true }
    parts_are parts network known ended =
        ap (λ (o : Option ℕ). record { network = o; wagons = parts.wagons; orders = parts.orders; ended = parts.ended }) known
        ∙ ap (λ (b : Bool). record { network = Some network; wagons = parts.wagons; orders = parts.orders; ended = b }) ended

pub exact : (networks : ℕ) (lines : List (List ℕ)) (office : Office) → office_of_lines networks lines ≡ Ok office → IsCheckpointOf networks lines office
unfolding office_of_lines
exact networks lines office h = exact_by networks (length lines + 1) lines office (with_lines networks 1 (Ok no_parts) lines) refl h
