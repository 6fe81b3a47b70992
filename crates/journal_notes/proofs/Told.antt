-- A note tells of each promise that changes.
use Rattle.std.proofs.Common.{◌≡◌, ◌≢◌, ◌∙◌, ◌⊎◌, ℕ, Bool, true, false, cond, ◌&&◌, ◌||◌, List, [], ◌∷◌, ◌++◌, length, map, Option, Some, None, Result, Ok, Err, refl, sym, ap, subst, inl, inr, true≢false}
use Rattle.std.specs.Prelude.{option_map}
use Rattle.std.specs.List.{flat_map, list_any}
use Rattle.std.specs.Option.{option_or}
use Rattle.std.specs.Result.{result_unwrap_or}
use Rattle.std.proofs.lemmas.List.Folds.{list_any-append}
use Rattle.std.proofs.lemmas.List.Sums.{fold-append}
use Rattle.commit_book.specs.BookStep.{BookState, entered}
use Rattle.commit_book.specs.Books.{BookValue}
use Rattle.commit_book.specs.History.{after, replay}
use Rattle.commit_book.specs.Setting.{Setting}
use Rattle.commit_book.specs.declared.answer.Answer.{Answer}
use Rattle.commit_book.specs.declared.answer.Answer.TheVariants.{Done, Begun, Refused}
use Rattle.commit_book.specs.declared.reply.Reply.TheVariants.{Accepted, Repeated}
use Rattle.faults.specs.declared.faults.ApplyFault.{ApplyFault}
use Rattle.faults.specs.declared.faults.ApplyFault.TheVariants.{OrderClosed, OrderKnown, SameNetwork, TooManyOpen, UnknownNetwork}
use Rattle.faults.specs.declared.faults.StepFault.{StepFault}
use Rattle.fleet_rows.specs.Rows.{at_order, at_wagon, order_in, taken_back, wagon_in}
use Rattle.fleet_rows.proofs.Wagons.{number-wagon_in}
use Rattle.line_network.specs.Network.{NetworkValue}
use Rattle.move_messages.specs.declared.event.Event.{Event}
use Rattle.move_messages.specs.declared.event.Event.TheVariants as event
use Rattle.move_messages.specs.declared.message.Message as movement
use Rattle.operating_db.specs.After.{after_call, moved, message_to, order_place, orders_after, unpromised, withdrawn_from}
use Rattle.operating_db.specs.Commits.{Pair, given_to, promise_all, promise_pair}
use Rattle.operating_db.specs.Office.{Office}
use Rattle.operating_db.specs.Promises.{PromisesAgree, SidesAgree, is_among, is_promise_to, promise_of, promised_of}
use Rattle.operating_db.proofs.Agree.{number-unpromised}
use Rattle.operating_db.proofs.Events.{KeepsRow, step_keeps}
use Rattle.operating_db.proofs.Lookups.{promise-at, wagon_in-at, wagon_in-mapped}
use Rattle.operating_db.proofs.Names.{same, same_is, same_self, same_sym}
use Rattle.wagons_and_orders.specs.Lack.{is_open}
use Rattle.wagons_and_orders.specs.OrderRow.{OrderRowValue}
use Rattle.wagons_and_orders.specs.StatusTable.{promise_after, step_of}
use Rattle.wagons_and_orders.specs.declared.change.Change.{Change}
use Rattle.wagons_and_orders.specs.declared.change.Effect.{Effect}
use Rattle.wagons_and_orders.specs.declared.change.Effect.TheVariants as effect
use Rattle.wagons_and_orders.specs.declared.wagon_row.WagonRow.{WagonRow}
use Rattle.journal_notes.specs.EventNotes.{event_notes, office_of}
use Rattle.journal_notes.specs.Laws.{IsTold, PromisesAreNoted, promise_in, tells_of}
use Rattle.journal_notes.specs.MessageNotes.{accepted_notes, cause_of, filled_notes, filled_of, known_in, known_of, promise_notes}
use Rattle.journal_notes.specs.OfficeNotes.{commit_notes, complete_notes, promised_note, waiting_names, withdrawn_note}
use Rattle.journal_notes.specs.OverdueNotes.{overdue_notes}
use Rattle.journal_notes.specs.Streaks.{StreaksValue}
use Rattle.journal_notes.specs.declared.note.Note.{Note}
use Rattle.journal_notes.specs.declared.note.Note.TheVariants.{Delivered, Ended}

same_ok : {A E : Type 0} (x y : A) → let r : Result A E = Ok x in r ≡ Ok y → x ≡ y
same_ok x y h = cc

both_self : (q n id : List ℕ) (b : Bool) → same q n ≡ b → (same q n && same id id) ≡ b
both_self q n id true is = rw (is, same_self id) refl
both_self q n id false is = rw is refl

-- the promise of this wagon is told of, where it has changed
abbrev ToldIfChanged : (number : List ℕ) → (before now : Option (List ℕ)) → List Note → Type 0
ToldIfChanged number before now notes = before ≢ now → IsTold number (option_or now before) notes

unchanged : (number : List ℕ) (before now : Option (List ℕ)) (notes : List Note) → now ≡ before → ToldIfChanged number before now notes
unchanged number before now notes is differs = absurd (differs (sym is))

-- notes behind those that tell of it
or_left : (a b : Bool) → a ≡ true → (a || b) ≡ true
or_left true b is = refl
or_left false b is = absurd (true≢false (sym is))

is_told_more : (number : List ℕ) (promise : Option (List ℕ)) (notes more : List Note) → IsTold number promise notes → IsTold number promise (notes ++ more)
is_told_more number None notes more told = told
is_told_more number (Some order) notes more told = list_any-append (tells_of number order) notes more ∙ or_left _ _ told

told_more : (number : List ℕ) (before now : Option (List ℕ)) (notes more : List Note) → ToldIfChanged number before now notes → ToldIfChanged number before now (notes ++ more)
told_more number before now notes more told differs = is_told_more number (option_or now before) notes more (told differs)

-- ---- messages

-- a wagon that is no longer promised was delivered, or its promise ended
ended_told : (message : movement.Message) (order : List ℕ) (now : Option OrderRowValue) (rest : List Note) (more : Bool)
    → list_any (tells_of message.wagon order)
    (cond more (Delivered (record { wagon = message.wagon; order = order }) ∷ filled_notes message.moment now)
    (Ended (record { wagon = message.wagon; order = order; cause = cause_of message.kind }) ∷ rest)) ≡ true
ended_told message order now rest true = rw (same_self message.wagon, same_self order) refl
ended_told message order now rest false = rw (same_self message.wagon, same_self order) refl

promise_told : (message : movement.Message) (order : List ℕ) (filled : ℕ) (office : Office) → promise_of (wagon_in office.wagons message.wagon) ≡ None
    → list_any (tells_of message.wagon order) (promise_notes message (Some order) filled office) ≡ true
promise_told message order filled office none = rw none (ended_told message order (order_in office.orders order) _ _)

-- by what becomes of the promise of a row
by_effect : (e : Effect) (promise : Option (List ℕ)) (message : movement.Message) (filled : ℕ) (office : Office) → promise_of (wagon_in office.wagons message.wagon) ≡ promise_after e promise
    → ToldIfChanged message.wagon promise (promise_after e promise) (promise_notes message promise filled office)
by_effect effect.None promise message filled office now = unchanged message.wagon promise promise (promise_notes message promise filled office) refl
by_effect effect.Fills None message filled office now = unchanged message.wagon None None (promise_notes message None filled office) refl
by_effect effect.Ends None message filled office now = unchanged message.wagon None None (promise_notes message None filled office) refl
by_effect effect.Fills (Some order) message filled office now = λ differs. promise_told message order filled office now
by_effect effect.Ends (Some order) message filled office now = λ differs. promise_told message order filled office now

abbrev after_change : Office → List ℕ → Option (List ℕ) → Change → Office
after_change office w promise change = record office { wagons = at_wagon w (λ _. change.row) office.wagons; orders = orders_after change.effect promise w office.orders }

changed_number : (office : Office) (w : List ℕ) (row : WagonRow) (change : Change) → wagon_in office.wagons w ≡ Some row → KeepsRow row change → (other : WagonRow) → other.number ≡ w → change.row.number ≡ other.number
changed_number office w row change found keeps other is = keeps.number ∙ number-wagon_in office.wagons w row found ∙ sym is

promise_then : (office : Office) (w : List ℕ) (row : WagonRow) (change : Change) → wagon_in office.wagons w ≡ Some row → KeepsRow row change → (q : List ℕ)
    → promise_in (after_change office w row.promise change) q ≡ cond (same w q) change.row.promise (promise_in office q)
promise_then office w row change found keeps q = promise-at w (λ _. change.row) (changed_number office w row change found keeps) office.wagons row found q

-- the wagon of the message, or another
message_at : (office : Office) (message : movement.Message) (row : WagonRow) (change : Change) → wagon_in office.wagons message.wagon ≡ Some row → KeepsRow row change → (q : List ℕ) (here : Bool) → same message.wagon q ≡ here
    → ToldIfChanged q (promise_in office q) (promise_in (after_change office message.wagon row.promise change) q) (accepted_notes message (known_in office message.wagon) (after_change office message.wagon row.promise change))
message_at office message row change found keeps q false is =
    let new = after_change office message.wagon row.promise change in
    unchanged q (promise_in office q) (promise_in new q) (accepted_notes message (known_in office message.wagon) new)
    (promise_then office message.wagon row change found keeps q ∙ ap (λ (b : Bool). cond b change.row.promise (promise_in office q)) is)
message_at office message row change found keeps q true is =
    let new = after_change office message.wagon row.promise change in
    let w = message.wagon in
    let notes = promise_notes message row.promise (filled_of office.orders row.promise) new in
    let here : promise_in new w ≡ promise_after change.effect row.promise = promise_then office w row change found keeps w ∙ ap (λ (b : Bool). cond b change.row.promise (promise_in office w)) (same_self w) ∙ keeps.promise in
    let before : promise_in office w ≡ row.promise = ap promise_of found in
    let told : ToldIfChanged w row.promise (promise_after change.effect row.promise) notes = by_effect change.effect row.promise message (filled_of office.orders row.promise) new here in
    let at_w : ToldIfChanged w (promise_in office w) (promise_in new w) (accepted_notes message (known_in office w) new) =
    subst (λ (known : Option WagonRow). ToldIfChanged w (promise_in office w) (promise_in new w) (accepted_notes message (known_of office.orders known) new)) (sym found)
    (subst (λ (p : Option (List ℕ)). ToldIfChanged w p (promise_in new w) notes) (sym before) (subst (λ (p : Option (List ℕ)). ToldIfChanged w row.promise p notes) (sym here) told)) in
    subst (λ (n : List ℕ). ToldIfChanged n (promise_in office n) (promise_in new n) (accepted_notes message (known_in office w) new)) (same_is w q is) at_w

-- ---- withdrawals

withdrawn_tells : (q order : List ℕ) (numbers : List (List ℕ)) → list_any (tells_of q order) (map (withdrawn_note order) numbers) ≡ list_any (same q) numbers
withdrawn_tells q order [] = refl
withdrawn_tells q order (n ∷ numbers) =
    ap (λ (b : Bool). b || list_any (tells_of q order) (map (withdrawn_note order) numbers)) (both_self q n order (same q n) refl) ∙ ap (λ (b : Bool). same q n || b) (withdrawn_tells q order numbers)

promise_left : (b : Bool) (row : WagonRow) → (cond b (record row { promise = None }) row).promise ≡ cond b None row.promise
promise_left true row = refl
promise_left false row = refl

-- the row of a wagon, whose promise is to the order or not
withdrawn_row : (q order : List ℕ) (promise : Option (List ℕ)) (notes : List Note) (gone : Bool) → is_promise_to promise order ≡ gone → (gone ≡ true → list_any (tells_of q order) notes ≡ true)
    → ToldIfChanged q promise (cond gone None promise) notes
withdrawn_row q order promise notes false is told = unchanged q promise promise notes refl
withdrawn_row q order None notes true is told = absurd (true≢false (sym is))
withdrawn_row q order (Some other) notes true is told = λ differs. subst (λ (o : List ℕ). list_any (tells_of q o) notes ≡ true) (same_is order other is) (told refl)

withdrawn_at : (office : Office) (order q : List ℕ) (row : Option WagonRow) → wagon_in office.wagons q ≡ row → SidesAgree office
    → ToldIfChanged q (promise_of row) (promise_of (option_map (unpromised order) row)) (map (withdrawn_note order) (promised_of (order_in office.orders order)))
withdrawn_at office order q None is agree = unchanged q None None (map (withdrawn_note order) (promised_of (order_in office.orders order))) refl
withdrawn_at office order q (Some row) is agree =
    let numbers = promised_of (order_in office.orders order) in
    let notes = map (withdrawn_note order) numbers in
    let among : is_promise_to row.promise order ≡ is_among q numbers = sym (ap (λ (r : Option WagonRow). is_promise_to (promise_of r) order) is) ∙ agree q order in
    subst (λ (p : Option (List ℕ)). ToldIfChanged q row.promise p notes) (sym (promise_left (is_promise_to row.promise order) row))
    (withdrawn_row q order row.promise notes (is_promise_to row.promise order) refl (λ there. withdrawn_tells q order numbers ∙ sym among ∙ there))

withdrawn_told : (office : Office) (order q : List ℕ) (orders : List OrderRowValue) → SidesAgree office
    → ToldIfChanged q (promise_in office q) (promise_of (wagon_in (map (unpromised order) office.wagons) q)) (map (withdrawn_note order) (promised_of (order_in office.orders order)))
withdrawn_told office order q orders agree =
    subst (λ (r : Option WagonRow). ToldIfChanged q (promise_in office q) (promise_of r) (map (withdrawn_note order) (promised_of (order_in office.orders order))))
    (sym (wagon_in-mapped (unpromised order) (λ (r : WagonRow). number-unpromised (is_promise_to r.promise order) r) office.wagons q))
    (withdrawn_at office order q (wagon_in office.wagons q) refl agree)

-- ---- commits

-- a wagon has the promise that it had, or a pair says the one that it has
abbrev PairTells : (q : List ℕ) (before now : Option (List ℕ)) → List Pair → Type 0
PairTells q before now pairs = (now ≡ before) ⊎ ((order : List ℕ) × (now ≡ Some order) × (list_any (tells_of q order) (map promised_note pairs) ≡ true))

or_right : (a b : Bool) → b ≡ true → (a || b) ≡ true
or_right true b is = refl
or_right false b is = is

pair_row : (pair : Pair) (pairs : List Pair) (q : List ℕ) (row : Option WagonRow) (here : Bool) → same pair.0 q ≡ here → PairTells q (promise_of row) (promise_of (cond here (option_map (given_to pair.1) row) row)) (pair ∷ pairs)
pair_row pair pairs q row false is = inl refl
pair_row pair pairs q None true is = inl refl
pair_row pair pairs q (Some row) true is = inr (pair.1, refl, rw (same_sym q pair.0, is, same_self pair.1) refl)

pair_tells : (office : Office) (pair : Pair) (pairs : List Pair) (q : List ℕ) → PairTells q (promise_in office q) (promise_in (promise_pair office pair) q) (pair ∷ pairs)
pair_tells office pair pairs q =
    subst (λ (r : Option WagonRow). PairTells q (promise_in office q) (promise_of r) (pair ∷ pairs)) (sym (wagon_in-at pair.0 (given_to pair.1) (λ (r : WagonRow) e. refl) office.wagons q))
    (pair_row pair pairs q (wagon_in office.wagons q) (same pair.0 q) refl)

first_then : (pair : Pair) (pairs : List Pair) (q : List ℕ) (before mid now : Option (List ℕ)) → PairTells q before mid (pair ∷ pairs) → PairTells q mid now pairs → PairTells q before now (pair ∷ pairs)
first_then pair pairs q before mid now first rest = elim rest [
  | inl same_now ↦ subst (λ (p : Option (List ℕ)). PairTells q before p (pair ∷ pairs)) (sym same_now) first
  | inr found ↦ inr (found.0, found.1, or_right (tells_of q found.0 (promised_note pair)) _ found.2)
]

pairs_tell : (office : Office) (pairs : List Pair) (q : List ℕ) → PairTells q (promise_in office q) (promise_in (promise_all office pairs) q) pairs
pairs_tell office [] q = inl refl
pairs_tell office (pair ∷ pairs) q =
    first_then pair pairs q (promise_in office q) (promise_in (promise_pair office pair) q) (promise_in (promise_all (promise_pair office pair) pairs) q) (pair_tells office pair pairs q) (pairs_tell (promise_pair office pair) pairs q)

commit_told : (office : Office) (pairs : List Pair) (more : List Note) (q : List ℕ) → ToldIfChanged q (promise_in office q) (promise_in (promise_all office pairs) q) (map promised_note pairs ++ more)
commit_told office pairs more q differs =
    let before = promise_in office q in
    let notes = map promised_note pairs ++ more in
    elim (pairs_tell office pairs q) [
      | inl same_now ↦ absurd (differs (sym same_now))
      | inr found ↦ subst (λ (p : Option (List ℕ)). IsTold q (option_or p before) notes) (sym found.1) (list_any-append (tells_of q found.0) (map promised_note pairs) more ∙ or_left _ _ found.2)
    ]

-- ---- events

-- an accepted event
abbrev accepted_as : ℕ → Answer
accepted_as n = Done (Accepted n)

abbrev EventTold : List NetworkValue → (before : Office) → Event → (now : Office) → StreaksValue → ℕ → Type 0
EventTold networks office happens now streaks n = (q : List ℕ) → ToldIfChanged q (promise_in office q) (promise_in now q) (event_notes networks office happens (accepted_as n) now streaks)

same_wagons : (networks : List NetworkValue) (office : Office) (happens : Event) (now : Office) (streaks : StreaksValue) (n : ℕ) → now.wagons ≡ office.wagons → EventTold networks office happens now streaks n
same_wagons networks office happens now streaks n is q =
    unchanged q (promise_in office q) (promise_in now q) (event_notes networks office happens (accepted_as n) now streaks) (ap (λ (rows : List WagonRow). promise_of (wagon_in rows q)) is)

two_tests : (b c : Bool) (one other : ApplyFault) (made now : Office) → cond b (Err one) (cond c (Err other) (Ok made)) ≡ Ok now → made ≡ now
two_tests true c one other made now h = cc
two_tests false true one other made now h = cc
two_tests false false one other made now h = same_ok made now h

message_moved : (networks : List NetworkValue) (office : Office) (message : movement.Message) (row : WagonRow) (r : Result Change StepFault) (now : Office) (streaks : StreaksValue) (n : ℕ) → wagon_in office.wagons message.wagon ≡ Some row
    → ((change : Change) → r ≡ Ok change → KeepsRow row change) → moved office message.wagon row.promise r ≡ Ok now → EventTold networks office (event.Message message) now streaks n
message_moved networks office message row (Err fault) now streaks n found keeps h = cc
message_moved networks office message row (Ok change) now streaks n found keeps h = λ q.
    told_more q (promise_in office q) (promise_in now q) (accepted_notes message (known_in office message.wagon) now) (overdue_notes office now)
    (subst (λ (new : Office). ToldIfChanged q (promise_in office q) (promise_in new q) (accepted_notes message (known_in office message.wagon) new)) (same_ok (after_change office message.wagon row.promise change) now h)
    (message_at office message row change found (keeps change refl) q (same message.wagon q) refl))

message_told : (networks : List NetworkValue) (office : Office) (message : movement.Message) (row : Option WagonRow) (now : Office) (streaks : StreaksValue) (n : ℕ) → wagon_in office.wagons message.wagon ≡ row
    → message_to office message row ≡ Ok now → EventTold networks office (event.Message message) now streaks n
message_told networks office message None now streaks n found h = cc
message_told networks office message (Some row) now streaks n found h =
    message_moved networks office message row (step_of row message (order_place office.orders row.promise)) now streaks n found (λ change is. step_keeps row message (order_place office.orders row.promise) change is) h

withdrawal_by : (networks : List NetworkValue) (office : Office) (order : List ℕ) (opens : Bool) (now : Office) (streaks : StreaksValue) (n : ℕ) → PromisesAgree office
    → cond opens (Ok (record office { wagons = map (unpromised order) office.wagons; orders = at_order order taken_back office.orders })) (Err OrderClosed) ≡ Ok now → EventTold networks office (event.Withdraw order) now streaks n
withdrawal_by networks office order false now streaks n agree h = cc
withdrawal_by networks office order true now streaks n agree h = λ q.
    subst (λ (new : Office). ToldIfChanged q (promise_in office q) (promise_in new q) (map (withdrawn_note order) (promised_of (order_in office.orders order))))
    (same_ok (record office { wagons = map (unpromised order) office.wagons; orders = at_order order taken_back office.orders }) now h) (withdrawn_told office order q office.orders agree.agree)

withdrawal_told : (networks : List NetworkValue) (office : Office) (order : List ℕ) (row : Option OrderRowValue) (now : Office) (streaks : StreaksValue) (n : ℕ) → PromisesAgree office
    → withdrawn_from office order row ≡ Ok now → EventTold networks office (event.Withdraw order) now streaks n
withdrawal_told networks office order None now streaks n agree h = cc
withdrawal_told networks office order (Some row) now streaks n agree h = withdrawal_by networks office order (is_open row) now streaks n agree h

event_told : (networks : List NetworkValue) (count : ℕ) (office : Office) (happens : Event) (now : Office) (streaks : StreaksValue) (n : ℕ) → PromisesAgree office → after_call count office happens ≡ Ok now
    → EventTold networks office happens now streaks n
unfolding after_call
event_told networks count office (event.Message message) now streaks n agree h = message_told networks office message (wagon_in office.wagons message.wagon) now streaks n refl h
event_told networks count office (event.Place text) now streaks n agree h =
    same_wagons networks office (event.Place text) now streaks n (sym (ap (λ (o : Office). o.wagons) (two_tests _ _ OrderKnown TooManyOpen _ now h)))
event_told networks count office (event.Withdraw order) now streaks n agree h = withdrawal_told networks office order (order_in office.orders order) now streaks n agree h
event_told networks count office (event.Commit commit) now streaks n agree h = λ q.
    subst (λ (new : Office). ToldIfChanged q (promise_in office q) (promise_in new q) (commit_notes office new commit.pairs)) (same_ok (promise_all office commit.pairs) now h)
    (commit_told office commit.pairs (flat_map (complete_notes (promise_all office commit.pairs)) (waiting_names office)) q)
event_told networks count office (event.Revise network) now streaks n agree h =
    same_wagons networks office (event.Revise network) now streaks n (sym (ap (λ (o : Office). o.wagons) (two_tests _ _ UnknownNetwork SameNetwork _ now h)))

-- the office after an event, by what comes of it
entered_told : (networks : List NetworkValue) (count : ℕ) (office : Office) (happens : Event) (r : Result Office ApplyFault) (streaks : StreaksValue) (n : ℕ) → after_call count office happens ≡ r → PromisesAgree office
    → EventTold networks office happens (result_unwrap_or r office) streaks n
entered_told networks count office happens (Ok now) streaks n is agree = event_told networks count office happens now streaks n agree is
entered_told networks count office happens (Err fault) streaks n is agree = same_wagons networks office happens office streaks n refl

-- ---- books

office_stays : (setting other : Setting) (history : List Event) → other ≡ setting → replay other history ≡ replay setting history
office_stays setting other history is = ap (λ (s : Setting). replay s history) is

stays : (old new : BookValue) (notes : List Note) (q : List ℕ) → new.setting ≡ old.setting → new.state ≡ old.state → ToldIfChanged q (promise_in (office_of old) q) (promise_in (office_of new) q) notes
stays old new notes q setting state =
    unchanged q (promise_in (office_of old) q) (promise_in (office_of new) q) notes
    (ap (λ (s : Setting). promise_in (replay s new.state.history) q) setting ∙ ap (λ (b : BookState). promise_in (replay old.setting b.history) q) state)

by_answer : (old new : BookValue) (streaks : StreaksValue) (happens : Event) (answer : Answer) (q : List ℕ) → PromisesAgree (office_of old) → new.setting ≡ old.setting → new.state ≡ entered old.state happens answer
    → ToldIfChanged q (promise_in (office_of old) q) (promise_in (office_of new) q) (event_notes old.setting.networks (office_of old) happens answer (office_of new) streaks)
by_answer old new streaks happens (Done (Accepted n)) q agree setting state =
    let count = length old.setting.networks in
    let now : office_of new ≡ after count (office_of old) happens =
    office_stays old.setting new.setting new.state.history setting ∙ ap (λ (b : BookState). replay old.setting b.history) state ∙ fold-append (after count) old.setting.first old.state.history (happens ∷ []) in
    subst (λ (new_office : Office). ToldIfChanged q (promise_in (office_of old) q) (promise_in new_office q) (event_notes old.setting.networks (office_of old) happens (accepted_as n) new_office streaks)) (sym now)
    (entered_told old.setting.networks count (office_of old) happens (after_call count (office_of old) happens) streaks n refl agree q)
by_answer old new streaks happens (Done (Repeated n)) q agree setting state = stays old new (event_notes old.setting.networks (office_of old) happens (Done (Repeated n)) (office_of new) streaks) q setting state
by_answer old new streaks happens (Begun n) q agree setting state = stays old new (event_notes old.setting.networks (office_of old) happens (Begun n) (office_of new) streaks) q setting state
by_answer old new streaks happens (Refused refusal) q agree setting state = stays old new (event_notes old.setting.networks (office_of old) happens (Refused refusal) (office_of new) streaks) q setting state

pub told : PromisesAreNoted
told old before happens notes new after_streaks agree noted q =
    subst (λ (ns : List Note). ToldIfChanged q (promise_in (office_of old) q) (promise_in (office_of new) q) ns) (sym noted.are_notes)
    (by_answer old new before happens noted.answer q agree noted.setting noted.step.changed)
