-- Lines that are taken say the parts that they make, and those are as they must be.
use Rattle.std.proofs.Common.{◌≡◌, ◌∙◌, ℕ, ◌+◌, ◌<◌, ◌≤◌, Bool, true, false, cond, not, ◌||◌, nat_lt, List, [], ◌∷◌, ◌++◌, length, map, refl, sym, ap, subst, Option, Some, None, is_some, Result, Ok, Err, arith, inl, inr, append_assoc, length-append, zero-add}
use Rattle.std.specs.Prelude.{◌==◌, nat_le}
use Rattle.std.specs.List.{IsDistinct, list_all}
use Rattle.std.specs.List.Sorted.{IsStrictlySortedBy}
use Rattle.std.proofs.lemmas.Bool.{cases_Bool}
use Rattle.std.proofs.lemmas.Bool.Decides.{nat_tests}
use Rattle.std.proofs.lemmas.List.{append-nil, map-append}
use Rattle.std.proofs.lemmas.List.Elements.{All-nil, All-push}
use Rattle.std.proofs.lemmas.List.Sums.{sum_by-append}
use Rattle.std.proofs.lemmas.Map.Keys.{IsDistinct-push}
use Rattle.move_messages.specs.MaxLoad.{max_load}
use Rattle.line_fields.specs.declared.fault.LineFault.{LineFault}
use Rattle.line_engine.specs.Lines.{is_blank}
use Rattle.wagons_and_orders.specs.declared.wagon_row.WagonRow.{WagonRow}
use Rattle.wagons_and_orders.specs.Lack.{is_open}
use Rattle.wagons_and_orders.specs.OrderRow.{IsOrderRow, OrderRowValue}
use Rattle.wagons_and_orders.specs.PossibleRows.{IsPossibleRow, is_possible}
use Rattle.wagons_and_orders.specs.RowParts.{row_of_parts}
use Rattle.wagons_and_orders.proofs.Possible.{possible_is}
use Rattle.fleet_rows.specs.Kept.{max_roster_wagons}
use Rattle.fleet_rows.specs.Rows.{max_open_wagons, names_of, open_wagons, order_in, wanted_open}
use Rattle.fleet_rows.specs.SameWagons.{has_wagon}
use Rattle.fleet_rows.proofs.Named.{is_same, nothing_named, same_name}
use Rattle.checkpoint.specs.LineReading.{checkpoint_line_of}
use Rattle.checkpoint.specs.OrderLine.{OrderLineValue, line_of_row}
use Rattle.checkpoint.specs.declared.line.CheckpointLine.{CheckpointLine}
use Rattle.checkpoint.specs.declared.line.CheckpointLine.TheVariants.{Head, Wagon, Order, End}
use Rattle.checkpoint.specs.Checkpoint.{order_said, written_lines}
use Rattle.checkpoint.specs.OfficeOf.{with_lines}
use Rattle.checkpoint.specs.Parts.{PartsValue, no_parts}
use Rattle.checkpoint.specs.Taking.{Taken, is_above_last, is_full, is_kept_by, lines_before_last, may_follow, take_end, take_head, take_line, take_next, take_order, take_read, take_said, take_wagon, with_order}
use Rattle.checkpoint.specs.declared.read_fault.ReadFault.{ReadFault}
use Rattle.checkpoint.specs.inner.IsParts.{IsParts, has_its_wagons}
use Rattle.checkpoint.proofs.Above.{ascending_push}
use Rattle.checkpoint.proofs.RowParts.{OfParts, of_parts}
use Rattle.checkpoint.proofs.Tests.{all_push, and_left, and_right}

-- ---- what parts say, line by line

abbrev pub head_said : Option ℕ → List CheckpointLine
head_said None = []
head_said (Some network) = Head network ∷ []

abbrev pub end_said : (ended : Bool) → (lines : ℕ) → List CheckpointLine
end_said true lines = End lines ∷ []
end_said false lines = []

abbrev pub said_in : (head : List CheckpointLine) → List WagonRow → List OrderRowValue → (last : List CheckpointLine) → List CheckpointLine
said_in head wagons orders last = head ++ (map Wagon wagons ++ (map order_said orders ++ last))

abbrev pub said_by : PartsValue → List CheckpointLine
said_by parts = said_in (head_said parts.network) parts.wagons parts.orders (end_said parts.ended (lines_before_last parts.wagons parts.orders))

said_wagon : (head : List CheckpointLine) (wagons : List WagonRow) (row : WagonRow) → said_in head (wagons ++ row ∷ []) [] [] ≡ said_in head wagons [] [] ++ Wagon row ∷ []
said_wagon head wagons row = simp (map-append, append_assoc, append-nil)

said_order : (head : List CheckpointLine) (wagons : List WagonRow) (orders : List OrderRowValue) (row : OrderRowValue)
    → said_in head wagons (orders ++ row ∷ []) [] ≡ said_in head wagons orders [] ++ order_said row ∷ []
said_order head wagons orders row = simp (map-append, append_assoc, append-nil)

said_last : (head : List CheckpointLine) (wagons : List WagonRow) (orders : List OrderRowValue) (lines : ℕ) → said_in head wagons orders (End lines ∷ []) ≡ said_in head wagons orders [] ++ End lines ∷ []
said_last head wagons orders lines = simp (append_assoc, append-nil)

-- ---- the tests that a taken line has passed

not_refused : {A E : Type 0} (b : Bool) (e : E) (r : Result A E) (x : A) → cond b (Err e) r ≡ Ok x → (b ≡ false) × (r ≡ Ok x)
not_refused true e r x h = cc
not_refused false e r x h = (refl, h)

accepted : {A E : Type 0} (b : Bool) (x y : A) (e : E) → cond b (Ok x) (Err e) ≡ Ok y → (b ≡ true) × (y ≡ x)
accepted true x y e h = (refl, cc)
accepted false x y e h = cc

accepted_else : {A E : Type 0} (b c : Bool) (x y : A) (e f : E) → cond b (Ok x) (cond c (Err e) (Err f)) ≡ Ok y → (b ≡ true) × (y ≡ x)
accepted_else true c x y e f h = (refl, cc)
accepted_else false true x y e f h = cc
accepted_else false false x y e f h = cc

not_not : (b : Bool) → not b ≡ false → b ≡ true
not_not true h = refl
not_not false h = cc

neither : (a b : Bool) → (a || b) ≡ false → (a ≡ false) × (b ≡ false)
neither true b h = cc
neither false b h = (refl, h)

not_there : {A : Type 0} (o : Option A) → is_some o ≡ false → o ≡ None
not_there None h = refl
not_there (Some x) h = cc

-- ---- one line

-- what a line said that was taken
pub record HasMore (networks : ℕ) (parts new : PartsValue) (said : CheckpointLine) : Type 0 where
  pub more : said_by new ≡ said_by parts ++ said ∷ []
  pub valid : IsParts networks new

with_head : (networks k : ℕ) → (k == 0) ≡ false → nat_lt networks k ≡ false → IsParts networks (record no_parts { network = Some k })
unfolding IsStrictlySortedBy IsDistinct
with_head networks k some within = record {
  head = λ e. cc e;
  in_force = (grind (arith, nat_tests), grind (arith, nat_tests));
  few = omega arith;
  ascending = tt;
  few_kg = All-nil (λ (row : WagonRow). row.load_limit ≤ max_load);
  possible = All-nil IsPossibleRow;
  distinct = tt;
  each = All-nil IsOrderRow;
  few_open = omega arith;
  all_open = refl;
  promised = refl;
  known = λ e. refl;
}

head_step : (networks n : ℕ) (parts new : PartsValue) (k : ℕ) → IsParts networks parts → parts.network ≡ None → take_head networks n parts k ≡ Ok new → HasMore networks parts new (Head k)
head_step networks n parts new k h none taken =
    let (tested, done) = not_refused (k == 0 || nat_lt networks k) _ _ new taken in
    let (some, within) = neither (k == 0) (nat_lt networks k) tested in
    let empty : parts ≡ no_parts = h.head none in
    let is : new ≡ record no_parts { network = Some k } = cc in
    record {
      more = ap said_by is ∙ sym (ap (λ (p : PartsValue). said_by p ++ Head k ∷ []) empty);
      valid = subst (IsParts networks) (sym is) (with_head networks k some within);
    }

no_orders : (orders : List OrderRowValue) (row : WagonRow) → may_follow orders row ≡ true → (orders ≡ []) × (nat_le row.load_limit max_load ≡ true) × (is_possible row ≡ true)
no_orders [] row h = (refl, and_left (nat_le row.load_limit max_load) (is_possible row) h, and_right (nat_le row.load_limit max_load) (is_possible row) h)
no_orders (order ∷ orders) row h = cc

wagon_more : (parts : PartsValue) (row : WagonRow) (orders : List OrderRowValue) (ended : Bool) → orders ≡ [] → ended ≡ false
    → said_in (head_said parts.network) (parts.wagons ++ row ∷ []) orders (end_said ended (lines_before_last (parts.wagons ++ row ∷ []) orders))
    ≡ said_in (head_said parts.network) parts.wagons orders (end_said ended (lines_before_last parts.wagons orders)) ++ Wagon row ∷ []
wagon_more parts row orders ended none opened = rw (none, opened) (said_wagon (head_said parts.network) parts.wagons row)

with_wagon : (networks known : ℕ) (parts : PartsValue) (row : WagonRow) → IsParts networks parts → parts.network ≡ Some known → parts.ended ≡ false → parts.orders ≡ [] → nat_le row.load_limit max_load ≡ true → is_possible row ≡ true
    → nat_le max_roster_wagons (length parts.wagons) ≡ false → is_above_last parts.wagons row.number ≡ true → IsParts networks (record parts { wagons = parts.wagons ++ row ∷ [] })
with_wagon networks known parts row h there opened none light possible few above = record {
  head = λ e. cc;
  in_force = h.in_force;
  few = let short : length parts.wagons < max_roster_wagons = grind (arith, nat_tests) in omega (arith, length-append parts.wagons (row ∷ []));
  ascending = ascending_push parts.wagons row h.ascending above;
  few_kg = All-push (λ (row : WagonRow). row.load_limit ≤ max_load) parts.wagons row h.few_kg (grind (arith, nat_tests));
  possible = All-push IsPossibleRow parts.wagons row h.possible (possible_is row possible);
  distinct = h.distinct;
  each = h.each;
  few_open = h.few_open;
  all_open = h.all_open;
  promised = ap (λ (os : List OrderRowValue). list_all (has_its_wagons (parts.wagons ++ row ∷ [])) os) none;
  known = λ e. cc;
}

wagon_step : (networks n known : ℕ) (parts new : PartsValue) (row : WagonRow) → IsParts networks parts → parts.network ≡ Some known → parts.ended ≡ false → take_wagon n parts row ≡ Ok new → HasMore networks parts new (Wagon row)
unfolding take_wagon
wagon_step networks n known parts new row h there opened taken =
    let (stands, rest) = not_refused (not (may_follow parts.orders row)) _ _ new taken in
    let (few, last) = not_refused (nat_le max_roster_wagons (length parts.wagons)) _ _ new rest in
    let (above, is) = accepted_else (is_above_last parts.wagons row.number) (has_wagon parts.wagons row.number) _ new _ _ last in
    let (none, light, possible) = no_orders parts.orders row (not_not (may_follow parts.orders row) stands) in
    record {
      more = ap said_by is ∙ wagon_more parts row parts.orders parts.ended none opened;
      valid = subst (IsParts networks) (sym is) (with_wagon networks known parts row h there opened none light possible few above);
    }

order_more : (parts : PartsValue) (row : OrderRowValue) (ended : Bool) → ended ≡ false
    → said_in (head_said parts.network) parts.wagons (parts.orders ++ row ∷ []) (end_said ended (lines_before_last parts.wagons (parts.orders ++ row ∷ [])))
    ≡ said_in (head_said parts.network) parts.wagons parts.orders (end_said ended (lines_before_last parts.wagons parts.orders)) ++ order_said row ∷ []
order_more parts row ended opened = rw opened (said_order (head_said parts.network) parts.wagons parts.orders row)

wanted_most : (b : Bool) (n : ℕ) → cond b n 0 ≤ n
wanted_most true n = omega arith
wanted_most false n = omega arith

with_row : (networks known : ℕ) (parts : PartsValue) (row : OrderRowValue) → IsParts networks parts → parts.network ≡ Some known → parts.ended ≡ false → order_in parts.orders row.text.id ≡ None
    → IsOrderRow row → is_open row ≡ true → nat_lt max_open_wagons (open_wagons parts.orders + row.text.wagons) ≡ false → has_its_wagons parts.wagons row ≡ true
    → IsParts networks (record parts { orders = parts.orders ++ row ∷ [] })
with_row networks known parts row h there unended new valid opened few its = record {
  head = λ e. cc;
  in_force = h.in_force;
  few = h.few;
  ascending = h.ascending;
  few_kg = h.few_kg;
  possible = h.possible;
  distinct = subst (IsDistinct is_same) (sym (map-append (λ (row : OrderRowValue). row.text.id) parts.orders (row ∷ [])))
      (IsDistinct-push same_name (names_of parts.orders) row.text.id h.distinct (nothing_named (λ (row : OrderRowValue). row.text.id) row.text.id parts.orders new));
  each = All-push IsOrderRow parts.orders row h.each valid;
  few_open =
      let within : open_wagons parts.orders + row.text.wagons ≤ max_open_wagons = grind (arith, nat_tests) in
      let sum : open_wagons (parts.orders ++ row ∷ []) ≡ open_wagons parts.orders + wanted_open row =
      sum_by-append wanted_open parts.orders (row ∷ []) ∙ ap (λ n. open_wagons parts.orders + n) (zero-add (wanted_open row)) in
      let most : wanted_open row ≤ row.text.wagons = wanted_most (is_open row) row.text.wagons in
      omega arith;
  all_open = all_push is_open parts.orders row h.all_open opened;
  promised = all_push (has_its_wagons parts.wagons) parts.orders row h.promised its;
  known = λ e. cc;
}

row_step : (networks n known : ℕ) (parts new : PartsValue) (order : OrderLineValue) (o : Option OrderRowValue) → IsParts networks parts → parts.network ≡ Some known → parts.ended ≡ false
    → order_in parts.orders order.text.id ≡ None → is_full order ≡ false → row_of_parts order.text order.promised order.filled ≡ o → with_order n parts o ≡ Ok new → HasMore networks parts new (Order order)
row_step networks n known parts new order None h there unended fresh full is taken = cc
row_step networks n known parts new order (Some row) h there unended fresh full is taken =
    let of : OfParts order.text order.promised order.filled row = of_parts order.text order.promised order.filled row is in
    let (few, last) = not_refused (nat_lt max_open_wagons (open_wagons parts.orders + row.text.wagons)) _ _ new taken in
    let (its, made) = accepted (has_its_wagons parts.wagons row) _ new _ last in
    let same : line_of_row row ≡ order = ap line_of_row of.is in
    let text : row.text ≡ order.text = ap (λ (r : OrderRowValue). r.text) of.is in
    let unfilled : nat_le order.text.wagons (length order.filled) ≡ false = (neither (nat_lt order.text.wagons (length order.promised + length order.filled)) (nat_le order.text.wagons (length order.filled)) full).1 in
    let more : nat_lt (length order.filled) order.text.wagons ≡ true = grind (arith, nat_tests) in
    let opened : is_open row ≡ true = ap is_open of.is ∙ more in
    let new_name : order_in parts.orders row.text.id ≡ None = ap (λ t. order_in parts.orders t.id) text ∙ fresh in
    record {
      more = ap said_by made ∙ (order_more parts row parts.ended unended ∙ ap (λ (o : OrderLineValue). said_by parts ++ Order o ∷ []) same);
      valid = subst (IsParts networks) (sym made) (with_row networks known parts row h there unended new_name of.valid opened few its);
    }

order_step : (networks n known : ℕ) (parts new : PartsValue) (order : OrderLineValue) → IsParts networks parts → parts.network ≡ Some known → parts.ended ≡ false → take_order n parts order ≡ Ok new → HasMore networks parts new (Order order)
unfolding take_order
order_step networks n known parts new order h there opened taken =
    let (fresh, rest) = not_refused (is_some (order_in parts.orders order.text.id)) _ _ new taken in
    let (full, last) = not_refused (is_full order) _ _ new rest in
    row_step networks n known parts new order (row_of_parts order.text order.promised order.filled) h there opened (not_there (order_in parts.orders order.text.id) fresh) full refl last

last_more : (parts : PartsValue) (ended : Bool) (lines : ℕ) → ended ≡ false → lines ≡ lines_before_last parts.wagons parts.orders
    → said_in (head_said parts.network) parts.wagons parts.orders (End (lines_before_last parts.wagons parts.orders) ∷ [])
    ≡ said_in (head_said parts.network) parts.wagons parts.orders (end_said ended (lines_before_last parts.wagons parts.orders)) ++ End lines ∷ []
last_more parts ended lines opened count = rw (opened, count) (said_last (head_said parts.network) parts.wagons parts.orders (lines_before_last parts.wagons parts.orders))

end_step : (networks n known : ℕ) (parts new : PartsValue) (lines : ℕ) → IsParts networks parts → parts.network ≡ Some known → parts.ended ≡ false → take_end n parts lines ≡ Ok new → HasMore networks parts new (End lines)
unfolding take_end
end_step networks n known parts new lines h there opened taken =
    let (counted, last) = not_refused (not (lines == lines_before_last parts.wagons parts.orders)) _ _ new taken in
    let (kept, is) = accepted (list_all (is_kept_by parts.orders) parts.wagons) _ new _ last in
    let equal : (lines == lines_before_last parts.wagons parts.orders) ≡ true = not_not (lines == lines_before_last parts.wagons parts.orders) counted in
    let count : lines ≡ lines_before_last parts.wagons parts.orders = grind (arith, nat_tests) in
    record {
      more = ap said_by is ∙ last_more parts parts.ended lines opened count;
      valid = subst (IsParts networks) (sym is) (record {
        head = λ e. cc;
        in_force = h.in_force;
        few = h.few;
        ascending = h.ascending;
        few_kg = h.few_kg;
        possible = h.possible;
        distinct = h.distinct;
        each = h.each;
        few_open = h.few_open;
        all_open = h.all_open;
        promised = h.promised;
        known = λ e. kept;
      });
    }

said_step : (networks n : ℕ) (parts new : PartsValue) (o : Option ℕ) (said : CheckpointLine) → IsParts networks parts → parts.ended ≡ false → parts.network ≡ o → take_said networks n parts o said ≡ Ok new → HasMore networks parts new said
said_step networks n parts new None (Head k) h opened is taken = head_step networks n parts new k h is taken
said_step networks n parts new None (Wagon row) h opened is taken = cc
said_step networks n parts new None (Order order) h opened is taken = cc
said_step networks n parts new None (End lines) h opened is taken = cc
said_step networks n parts new (Some known) (Head k) h opened is taken = cc
said_step networks n parts new (Some known) (Wagon row) h opened is taken = wagon_step networks n known parts new row h is opened taken
said_step networks n parts new (Some known) (Order order) h opened is taken = order_step networks n known parts new order h is opened taken
said_step networks n parts new (Some known) (End lines) h opened is taken = end_step networks n known parts new lines h is opened taken

next_step : (networks n : ℕ) (parts new : PartsValue) (ended : Bool) (said : CheckpointLine) → IsParts networks parts → parts.ended ≡ ended → take_next networks n parts ended said ≡ Ok new → HasMore networks parts new said
next_step networks n parts new true said h is taken = cc
next_step networks n parts new false said h is taken = said_step networks n parts new parts.network said h is refl taken

-- a line that was taken, what it said, and what it made
pub record Stepped (networks : ℕ) (parts new : PartsValue) (line : List ℕ) : Type 0 where
  pub said : CheckpointLine
  pub reads : checkpoint_line_of line ≡ Ok said
  pub more : HasMore networks parts new said

read_step : (networks n : ℕ) (parts new : PartsValue) (line : List ℕ) (r : Result CheckpointLine LineFault) → IsParts networks parts → checkpoint_line_of line ≡ r → take_read networks n parts r ≡ Ok new → Stepped networks parts new line
read_step networks n parts new line (Err fault) h is taken = cc
read_step networks n parts new line (Ok said) h is taken = record { said = said; reads = is; more = next_step networks n parts new parts.ended said h refl taken }

pub step : (networks n : ℕ) (parts new : PartsValue) (line : List ℕ) → IsParts networks parts → take_line networks n parts line ≡ Ok new → Stepped networks parts new line
unfolding take_line
step networks n parts new line h taken = read_step networks n parts new line (checkpoint_line_of line) h refl taken

-- ---- all lines

pub fault_stays : (networks n : ℕ) (fault : ReadFault) (lines : List (List ℕ)) → with_lines networks n (Err fault) lines ≡ Err fault
fault_stays networks n fault [] = refl
fault_stays networks n fault (line ∷ lines) = fault_stays networks (n + 1) fault lines

-- lines that were taken, what those said that aren't blank, and what they made
pub record AreStepped (networks : ℕ) (parts new : PartsValue) (lines : List (List ℕ)) : Type 0 where
  pub said : List CheckpointLine
  pub reads : map checkpoint_line_of (written_lines lines) ≡ map Ok said
  pub more : said_by new ≡ said_by parts ++ said
  pub valid : IsParts networks new

filled_step : (networks n : ℕ) (parts new : PartsValue) (line : List ℕ) (lines : List (List ℕ)) (taken : Taken) → IsParts networks parts → is_blank line ≡ false → take_line networks n parts line ≡ taken
    → with_lines networks (n + 1) taken lines ≡ Ok new → ((mid : PartsValue) → IsParts networks mid → with_lines networks (n + 1) (Ok mid) lines ≡ Ok new → AreStepped networks mid new lines)
    → AreStepped networks parts new (line ∷ lines)
filled_step networks n parts new line lines (Err fault) h filled is all later = absurd (let stays = fault_stays networks (n + 1) fault lines in cc)
filled_step networks n parts new line lines (Ok mid) h filled is all later =
    let first : Stepped networks parts mid line = step networks n parts mid line h is in
    let rest : AreStepped networks mid new lines = later mid first.more.valid all in
    record {
      said = first.said ∷ rest.said;
      reads = rw filled (ap (λ (r : Result CheckpointLine LineFault). r ∷ map checkpoint_line_of (written_lines lines)) first.reads ∙ ap (λ (rs : List (Result CheckpointLine LineFault)). Ok first.said ∷ rs) rest.reads);
      more = rest.more ∙ (ap (λ (said : List CheckpointLine). said ++ rest.said) first.more.more ∙ append_assoc (said_by parts) (first.said ∷ []) rest.said);
      valid = rest.valid;
    }

pub steps : (networks n : ℕ) (parts new : PartsValue) (lines : List (List ℕ)) → IsParts networks parts → with_lines networks n (Ok parts) lines ≡ Ok new → AreStepped networks parts new lines
steps networks n parts new [] h all =
    let is : new ≡ parts = cc in
    record {
      said = [];
      reads = refl;
      more = ap said_by is ∙ sym (append-nil (said_by parts));
      valid = subst (IsParts networks) (sym is) h;
    }
steps networks n parts new (line ∷ lines) h all = elim (cases_Bool (is_blank line)) [
  | inl blank ↦
      let same : with_lines networks (n + 1) (Ok parts) lines ≡ Ok new = rw blank at all in
      let rest : AreStepped networks parts new lines = steps networks (n + 1) parts new lines h same in
      record { said = rest.said; reads = rw blank rest.reads; more = rest.more; valid = rest.valid }
  | inr filled ↦
      let taken : with_lines networks (n + 1) (take_line networks n parts line) lines ≡ Ok new = rw filled at all in
      filled_step networks n parts new line lines (take_line networks n parts line) h filled refl taken (λ mid valid later. steps networks (n + 1) mid new lines valid later)
]

pub no_parts_valid : (networks : ℕ) → IsParts networks no_parts
unfolding IsStrictlySortedBy IsDistinct
no_parts_valid networks = record {
  head = λ e. refl;
  in_force = tt;
  few = omega arith;
  ascending = tt;
  few_kg = All-nil (λ (row : WagonRow). row.load_limit ≤ max_load);
  possible = All-nil IsPossibleRow;
  distinct = tt;
  each = All-nil IsOrderRow;
  few_open = omega arith;
  all_open = refl;
  promised = refl;
  known = λ e. refl;
}
