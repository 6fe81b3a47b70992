-- Lines that are written one after the other, and what the text says that they make.
use Rattle.std.proofs.Common.{◌≡◌, ◌∙◌, ℕ, suc, ◌+◌, ◌<◌, ◌≤◌, Bool, true, false, cond, not, ◌&&◌, nat_lt, List, [], ◌∷◌, ◌++◌, length, map, take, get_or, refl, sym, ap, ap₂, subst, Result, Ok, arith, inl, inr, append_assoc, append-nil}
use Rattle.std.specs.Prelude.{Option}
use Rattle.std.specs.List.{AllByRecursion, filter, list_all}
use Rattle.std.proofs.lemmas.Bool.{cases_Bool}
use Rattle.std.proofs.lemmas.Bool.Decides.{nat_tests}
use Rattle.std.proofs.lemmas.List.{take_more}
use Rattle.std.proofs.lemmas.List.Concat.{flat_map-append, flat_map-cons}
use Rattle.std.proofs.lemmas.List.Elements.{filter-append}
use Rattle.std.proofs.lemmas.List.Sums.{sum_by-cons}
use Rattle.line_engine.proofs.Running.{lines_of-with_feeds}
use Rattle.line_engine.specs.Lines.{IsWithin, has_feed, is_blank, line_feed, lines_of, max_line_bytes, with_feeds}
use Rattle.line_fields.specs.declared.fault.LineFault.{LineFault}
use Rattle.wagons_and_orders.specs.declared.wagon_row.WagonRow.{WagonRow}
use Rattle.wagons_and_orders.specs.Lack.{is_open}
use Rattle.wagons_and_orders.specs.OrderRow.{OrderRowValue}
use Rattle.fleet_rows.specs.Rows.{open_wagons, wanted_open}
use Rattle.operating_db.proofs.CompactOffices.{compact_begins}
use Rattle.operating_db.specs.Compact.{compact}
use Rattle.operating_db.specs.FirstOffice.{IsFirstOffice}
use Rattle.operating_db.specs.Office.{Office}
use Rattle.checkpoint.specs.LineReading.{checkpoint_line_of}
use Rattle.checkpoint.specs.LineWriting.{IsEndLine, IsHeadLine, IsOrderLine, IsWagonLine}
use Rattle.checkpoint.specs.declared.line.CheckpointLine.{CheckpointLine}
use Rattle.checkpoint.specs.declared.line.CheckpointLine.TheVariants.{Head, Wagon, End}
use Rattle.checkpoint.specs.Checkpoint.{lines_for, order_said, written_lines}
use Rattle.checkpoint.specs.OfficeOf.{office_of_lines}
use Rattle.checkpoint.specs.Taking.{lines_before_last}
use Rattle.checkpoint.specs.Written.{AreLinesOf, IsCheckpointText, newest_of}
use Rattle.checkpoint.specs.inner.Lines.{AddsLines, IsLineOf, SaysLine}
use Rattle.checkpoint.proofs.Complete.{complete}
use Rattle.checkpoint.proofs.Tests.{and_right}

-- ---- lines for a list

pub are_lines_append : {A : Type 0} (is_line : A → List ℕ → Type 0) (xs ys : List A) (lines more : List (List ℕ)) → AreLinesOf is_line xs lines → AreLinesOf is_line ys more → AreLinesOf is_line (xs ++ ys) (lines ++ more)
are_lines_append is_line [] ys [] more first second = second
are_lines_append is_line [] ys (line ∷ lines) more first second = absurd first
are_lines_append is_line (x ∷ xs) ys [] more first second = absurd first
are_lines_append is_line (x ∷ xs) ys (line ∷ lines) more first second = (first.0, are_lines_append is_line xs ys lines more first.1 second)

-- the lines are what they must be, and what they say
pub are_texts : {A : Type 0} (is_line : A → List ℕ → Type 0) (say : A → CheckpointLine) (xs : List A) (lines : List (List ℕ)) → AreLinesOf (IsLineOf is_line say) xs lines → AreLinesOf is_line xs lines
are_texts is_line say [] [] h = tt
are_texts is_line say [] (line ∷ lines) h = absurd h
are_texts is_line say (x ∷ xs) [] h = absurd h
are_texts is_line say (x ∷ xs) (line ∷ lines) h = (h.0.text, are_texts is_line say xs lines h.1)

pub they_say : {A : Type 0} (is_line : A → List ℕ → Type 0) (say : A → CheckpointLine) (xs : List A) (lines : List (List ℕ)) → AreLinesOf (IsLineOf is_line say) xs lines → AreLinesOf SaysLine (map say xs) lines
they_say is_line say [] [] h = tt
they_say is_line say [] (line ∷ lines) h = absurd h
they_say is_line say (x ∷ xs) [] h = absurd h
they_say is_line say (x ∷ xs) (line ∷ lines) h = (h.0.says, they_say is_line say xs lines h.1)

-- ---- what lines say

no_feeds : (said : List CheckpointLine) (lines : List (List ℕ)) → AreLinesOf SaysLine said lines → AllByRecursion (λ (line : List ℕ). has_feed line ≡ false) lines
no_feeds [] [] h = tt
no_feeds [] (line ∷ lines) h = absurd h
no_feeds (x ∷ said) [] h = absurd h
no_feeds (x ∷ said) (line ∷ lines) h = (h.0.one.0, no_feeds said lines h.1)

all_written : (said : List CheckpointLine) (lines : List (List ℕ)) → AreLinesOf SaysLine said lines → written_lines lines ≡ lines
all_written [] [] h = refl
all_written [] (line ∷ lines) h = absurd h
all_written (x ∷ said) [] h = absurd h
all_written (x ∷ said) (line ∷ lines) h = let filled : is_blank line ≡ false = h.0.one.1 in rw filled (ap (λ (ls : List (List ℕ)). line ∷ ls) (all_written said lines h.1))

read_back : (said : List CheckpointLine) (lines : List (List ℕ)) → AreLinesOf SaysLine said lines → map checkpoint_line_of lines ≡ map Ok said
read_back [] [] h = refl
read_back [] (line ∷ lines) h = absurd h
read_back (x ∷ said) [] h = absurd h
read_back (x ∷ said) (line ∷ lines) h =
    ap (λ (r : Result CheckpointLine LineFault). r ∷ map checkpoint_line_of lines) h.0.reads ∙ ap (λ (rs : List (Result CheckpointLine LineFault)). Ok x ∷ rs) (read_back said lines h.1)

-- the lines of a text are those of which it was made
lines_of_text : (lines : List (List ℕ)) → AllByRecursion (λ (line : List ℕ). has_feed line ≡ false) lines → lines_of (with_feeds lines) ≡ lines
lines_of_text lines free = ap lines_of (sym (append-nil (with_feeds lines))) ∙ (lines_of-with_feeds lines [] free ∙ append-nil lines)

all_short : (said : List CheckpointLine) (lines : List (List ℕ)) → AreLinesOf SaysLine said lines → AllByRecursion (IsWithin max_line_bytes) lines
all_short [] [] h = tt
all_short [] (line ∷ lines) h = absurd h
all_short (x ∷ said) [] h = absurd h
all_short (x ∷ said) (line ∷ lines) h = (h.0.one.2, all_short said lines h.1)

-- each line of a text is short
short_lines : (said : List CheckpointLine) (lines : List (List ℕ)) (text : List ℕ) → text ≡ with_feeds lines → AreLinesOf SaysLine said lines → AllByRecursion (IsWithin max_line_bytes) (lines_of text)
short_lines said lines text whole say =
    let same : lines_of text ≡ lines = ap lines_of whole ∙ lines_of_text lines (no_feeds said lines say) in
    subst (AllByRecursion (IsWithin max_line_bytes)) (sym same) (all_short said lines say)

reads_back : (networks : ℕ) (office : Office) (lines : List (List ℕ)) (text : List ℕ) → text ≡ with_feeds lines → AreLinesOf SaysLine (lines_for office) lines → IsFirstOffice networks office → list_all is_open office.orders ≡ true
    → office_of_lines networks (lines_of text) ≡ Ok office
reads_back networks office lines text whole say first opened =
    let same : lines_of text ≡ lines = ap lines_of whole ∙ lines_of_text lines (no_feeds (lines_for office) lines say) in
    ap (office_of_lines networks) same ∙ complete networks lines office (record {
      said = ap (map checkpoint_line_of) (all_written (lines_for office) lines say) ∙ read_back (lines_for office) lines say;
      first = first;
      all_open = opened;
    })

-- ---- a text that grows

with_feeds-append : (lines more : List (List ℕ)) → with_feeds (lines ++ more) ≡ with_feeds lines ++ with_feeds more
with_feeds-append lines more = flat_map-append (λ (line : List ℕ). line ++ line_feed ∷ []) lines more

one_feed : (line : List ℕ) → with_feeds (line ∷ []) ≡ line ++ line_feed ∷ []
one_feed line = flat_map-cons (λ (line : List ℕ). line ++ line_feed ∷ []) line [] ∙ append-nil (line ++ line_feed ∷ [])

pub adds_none : {A : Type 0} (is_line : A → List ℕ → Type 0) (say : A → CheckpointLine) (text : List ℕ) → AddsLines is_line say [] text text
adds_none is_line say text = ([], tt, sym (append-nil text))

pub adds_line : {A : Type 0} (is_line : A → List ℕ → Type 0) (say : A → CheckpointLine) (xs : List A) (x : A) (old mid new line : List ℕ) → AddsLines is_line say xs old mid → IsLineOf is_line say x line → new ≡ mid ++ (line ++ line_feed ∷ [])
    → AddsLines is_line say (xs ++ x ∷ []) old new
adds_line is_line say xs x old mid new line so one is = (
  so.0 ++ line ∷ [],
  are_lines_append (IsLineOf is_line say) xs (x ∷ []) so.0 (line ∷ []) so.1 (one, tt),
  is ∙ (ap₂ (λ (t u : List ℕ). t ++ u) so.2 (sym (one_feed line)) ∙ (append_assoc old (with_feeds so.0) (with_feeds (line ∷ [])) ∙ ap (λ (t : List ℕ). old ++ t) (sym (with_feeds-append so.0 (line ∷ []))))),
)

pub adds_along : {A : Type 0} (is_line : A → List ℕ → Type 0) (say : A → CheckpointLine) (xs ys : List A) (old new : List ℕ) → xs ≡ ys → AddsLines is_line say xs old new → AddsLines is_line say ys old new
adds_along is_line say xs ys old new e h = subst (λ (zs : List _). AddsLines is_line say zs old new) e h

pub taken_more : {A : Type 0} (xs : List A) (i : ℕ) (x d : A) → i < length xs → x ≡ get_or xs i d → take i xs ++ x ∷ [] ≡ take (i + 1) xs
taken_more xs i x d lt is = ap (λ y. take i xs ++ y ∷ []) is ∙ sym (take_more xs i d lt)

-- one row more among those that pass a test
pub filter_more : {A : Type 0} (p : A → Bool) (xs : List A) (i : ℕ) (x d : A) → i < length xs → x ≡ get_or xs i d → filter p (take (i + 1) xs) ≡ filter p (take i xs) ++ cond (p x) (x ∷ []) []
filter_more p xs i x d lt is = ap (filter p) (sym (taken_more xs i x d lt is)) ∙ filter-append p (take i xs) (x ∷ [])

-- ---- open orders

some_wanted : (b : Bool) (n m : ℕ) → (b && nat_lt n m) ≡ true → 1 ≤ m
some_wanted b n m h = let less : nat_lt n m ≡ true = and_right b (nat_lt n m) h in grind (arith, nat_tests)

one_kept : (kept total wanted all : ℕ) → kept ≤ total → 1 ≤ wanted → all ≡ wanted + total → 1 + kept ≤ all
one_kept kept total wanted all few one sum = omega arith

none_kept : (kept total wanted all : ℕ) → kept ≤ total → all ≡ wanted + total → kept ≤ all
none_kept kept total wanted all few sum = omega arith

-- each open order wants a wagon
pub few_open : (orders : List OrderRowValue) → length (filter is_open orders) ≤ open_wagons orders
few_open [] = omega arith
few_open (row ∷ orders) =
    let sum : open_wagons (row ∷ orders) ≡ wanted_open row + open_wagons orders = sum_by-cons wanted_open row orders in
    elim (cases_Bool (is_open row)) [
      | inl opened ↦
          let wanted : wanted_open row ≡ row.text.wagons = ap (λ (b : Bool). cond b row.text.wagons 0) opened in
          let one : 1 ≤ wanted_open row = subst (λ (n : ℕ). 1 ≤ n) (sym wanted) (some_wanted (not row.withdrawn) (length row.filled) row.text.wagons opened) in
          let kept : filter is_open (row ∷ orders) ≡ row ∷ filter is_open orders = ap (λ (b : Bool). cond b (row ∷ filter is_open orders) (filter is_open orders)) opened in
          let counted : length (filter is_open (row ∷ orders)) ≡ 1 + length (filter is_open orders) = ap length kept ∙ one_more (length (filter is_open orders)) in
          subst (λ (n : ℕ). n ≤ open_wagons (row ∷ orders)) (sym counted) (one_kept (length (filter is_open orders)) (open_wagons orders) (wanted_open row) (open_wagons (row ∷ orders)) (few_open orders) one sum)
      | inr closed ↦
          let kept : filter is_open (row ∷ orders) ≡ filter is_open orders = ap (λ (b : Bool). cond b (row ∷ filter is_open orders) (filter is_open orders)) closed in
          subst (λ (rows : List OrderRowValue). length rows ≤ open_wagons (row ∷ orders)) (sym kept) (none_kept (length (filter is_open orders)) (open_wagons orders) (wanted_open row) (open_wagons (row ∷ orders)) (few_open orders) sum)
    ]
  where
    one_more : (n : ℕ) → suc n ≡ 1 + n
    one_more n = omega arith

all_pass : {A : Type 0} (p : A → Bool) (xs : List A) → list_all p (filter p xs) ≡ true
all_pass p [] = refl
all_pass p (x ∷ xs) = elim (cases_Bool (p x)) [ inl passes ↦ rw (passes, passes) (all_pass p xs) | inr fails ↦ rw fails (all_pass p xs) ]

-- ---- a whole text

-- the head, the wagons, the orders and the last line, one after the other
pub record IsWritten (networks : ℕ) (office : Office) (text : List ℕ) : Type 0 where
  pub is_text : IsCheckpointText office text
  pub reads : office_of_lines networks (lines_of text) ≡ Ok (compact office)
  pub short : AllByRecursion (IsWithin max_line_bytes) (lines_of text)

grown : (a b c d e head last : List ℕ) (wagons orders : List (List ℕ)) → a ≡ [] → b ≡ a ++ (head ++ line_feed ∷ []) → c ≡ b ++ with_feeds wagons → d ≡ c ++ with_feeds orders → e ≡ d ++ (last ++ line_feed ∷ [])
    → e ≡ with_feeds (head ∷ (wagons ++ (orders ++ last ∷ [])))
grown a b c d e head last wagons orders none first second third fourth =
    let tail : with_feeds (orders ++ last ∷ []) ≡ with_feeds orders ++ (last ++ line_feed ∷ []) = with_feeds-append orders (last ∷ []) ∙ ap (λ (t : List ℕ). with_feeds orders ++ t) (one_feed last) in
    let behind : with_feeds (wagons ++ (orders ++ last ∷ [])) ≡ with_feeds wagons ++ (with_feeds orders ++ (last ++ line_feed ∷ [])) = with_feeds-append wagons (orders ++ last ∷ []) ∙ ap (λ (t : List ℕ). with_feeds wagons ++ t) tail in
    let all : with_feeds (head ∷ (wagons ++ (orders ++ last ∷ []))) ≡ (head ++ line_feed ∷ []) ++ (with_feeds wagons ++ (with_feeds orders ++ (last ++ line_feed ∷ []))) =
    flat_map-cons (λ (line : List ℕ). line ++ line_feed ∷ []) head (wagons ++ (orders ++ last ∷ [])) ∙ ap (λ (t : List ℕ). (head ++ line_feed ∷ []) ++ t) behind in
    let start : b ≡ head ++ line_feed ∷ [] = first ∙ ap (λ (t : List ℕ). t ++ (head ++ line_feed ∷ [])) none in
    let whole : e ≡ (((head ++ line_feed ∷ []) ++ with_feeds wagons) ++ with_feeds orders) ++ (last ++ line_feed ∷ []) =
    fourth ∙ ap (λ (t : List ℕ). t ++ (last ++ line_feed ∷ [])) (third ∙ ap (λ (t : List ℕ). t ++ with_feeds orders) (second ∙ ap (λ (t : List ℕ). t ++ with_feeds wagons) start)) in
    let regrouped : (((head ++ line_feed ∷ []) ++ with_feeds wagons) ++ with_feeds orders) ++ (last ++ line_feed ∷ []) ≡ (head ++ line_feed ∷ []) ++ (with_feeds wagons ++ (with_feeds orders ++ (last ++ line_feed ∷ []))) =
    append_assoc ((head ++ line_feed ∷ []) ++ with_feeds wagons) (with_feeds orders) (last ++ line_feed ∷ []) ∙ append_assoc (head ++ line_feed ∷ []) (with_feeds wagons) (with_feeds orders ++ (last ++ line_feed ∷ [])) in
    whole ∙ (regrouped ∙ sym all)

written : (networks : ℕ) (office : Office) (a b c d e head last : List ℕ) (lines : ℕ) → IsFirstOffice networks office → a ≡ [] → b ≡ a ++ (head ++ line_feed ∷ [])
    → AddsLines IsWagonLine Wagon office.wagons b c → AddsLines IsOrderLine order_said (filter is_open office.orders) c d → e ≡ d ++ (last ++ line_feed ∷ [])
    → IsHeadLine office.network (newest_of office.wagons) head → SaysLine (Head office.network) head → IsEndLine lines last → SaysLine (End lines) last → lines ≡ lines_before_last office.wagons (filter is_open office.orders)
    → IsWritten networks office e
written networks office a b c d e head last lines begins none first wagons orders fourth is_head says_head is_last says_last count =
    let whole : e ≡ with_feeds (head ∷ (wagons.0 ++ (orders.0 ++ last ∷ []))) = grown a b c d e head last wagons.0 orders.0 none first wagons.2 orders.2 fourth in
    let before : ℕ = lines_before_last office.wagons (filter is_open office.orders) in
    let says_end : SaysLine (End before) last = subst (λ (n : ℕ). SaysLine (End n) last) count says_last in
    let say : AreLinesOf SaysLine (lines_for (compact office)) (head ∷ (wagons.0 ++ (orders.0 ++ last ∷ []))) = (
      says_head,
      are_lines_append SaysLine (map Wagon office.wagons) (map order_said (filter is_open office.orders) ++ End before ∷ []) wagons.0 (orders.0 ++ last ∷ []) (they_say IsWagonLine Wagon office.wagons wagons.0 wagons.1)
          (are_lines_append SaysLine (map order_said (filter is_open office.orders)) (End before ∷ []) orders.0 (last ∷ []) (they_say IsOrderLine order_said (filter is_open office.orders) orders.0 orders.1) (says_end, tt)),
    ) in
    record {
      is_text = record {
        head = head;
        wagons = wagons.0;
        orders = orders.0;
        last = last;
        is_head = is_head;
        are_wagons = are_texts IsWagonLine Wagon office.wagons wagons.0 wagons.1;
        are_orders = are_texts IsOrderLine order_said (filter is_open office.orders) orders.0 orders.1;
        is_last = subst (λ (n : ℕ). IsEndLine n last) count is_last;
        whole = whole;
      };
      reads = reads_back networks (compact office) (head ∷ (wagons.0 ++ (orders.0 ++ last ∷ []))) e whole say (compact_begins networks office begins) (all_pass is_open office.orders);
      short = short_lines (lines_for (compact office)) (head ∷ (wagons.0 ++ (orders.0 ++ last ∷ []))) e whole say;
    }

-- how few lines a checkpoint has
pub few_lines : (wagons : ℕ) (orders : List OrderRowValue) (opened : ℕ) → wagons ≤ 1000 → open_wagons orders ≤ 500 → opened ≡ length (filter is_open orders) → 1 + wagons + opened ≤ 1501
few_lines wagons orders opened few wanted counted = let most = few_open orders in omega arith

-- a text whose parts were written one after the other, each of what is known to be the office's
pub whole : (networks : ℕ) (office : Office) (rows : List WagonRow) (orders : List OrderRowValue) (network : ℕ) (newest : Option ℕ) (opened : ℕ) (a b c d e head last : List ℕ) → IsFirstOffice networks office
    → rows ≡ office.wagons → orders ≡ office.orders → network ≡ office.network → newest ≡ newest_of rows → opened ≡ length (filter is_open orders)
    → a ≡ [] → b ≡ a ++ (head ++ line_feed ∷ []) → AddsLines IsWagonLine Wagon rows b c → AddsLines IsOrderLine order_said (filter is_open orders) c d → e ≡ d ++ (last ++ line_feed ∷ [])
    → IsHeadLine network newest head → SaysLine (Head network) head → IsEndLine (1 + length rows + opened) last → SaysLine (End (1 + length rows + opened)) last → IsWritten networks office e
whole networks office rows orders network newest opened a b c d e head last begins rows_are orders_are network_is newest_is counted none first wagons open_orders fourth is_head says_head is_last says_last =
    let newest_moment : newest ≡ newest_of office.wagons = newest_is ∙ ap newest_of rows_are in
    let count : 1 + length rows + opened ≡ lines_before_last office.wagons (filter is_open office.orders) =
    ap₂ (λ (ws : List WagonRow) (n : ℕ). 1 + length ws + n) rows_are (counted ∙ ap (λ (os : List OrderRowValue). length (filter is_open os)) orders_are) in
    written networks office a b c d e head last (1 + length rows + opened) begins none first
    (subst (λ (ws : List WagonRow). AddsLines IsWagonLine Wagon ws b c) rows_are wagons)
    (subst (λ (os : List OrderRowValue). AddsLines IsOrderLine order_said (filter is_open os) c d) orders_are open_orders) fourth
    (subst (λ (n : ℕ). IsHeadLine n (newest_of office.wagons) head) network_is (subst (λ (o : Option ℕ). IsHeadLine network o head) newest_moment is_head))
    (subst (λ (n : ℕ). SaysLine (Head n) head) network_is says_head) is_last says_last count
