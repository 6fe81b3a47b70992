-- Where there are as many entries as receipts, each receipt's event is the entry of its number, and no number stands on two
-- receipts, each entry has a receipt.
use Rattle.std.proofs.Common.{◌≡◌, ◌∙◌, ◌+◌, ◌*◌, ◌<◌, ◌≤◌, ℕ, zero, suc, Bool, true, false, cond, List, [], ◌∷◌, length, refl, sym, ap, arith, inl, inr}
use Rattle.std.specs.Prelude.{◌==◌, Option, Some, All}
use Rattle.std.specs.List.{sum_by}
use Rattle.std.proofs.Math.Nat.{eq-or-lt_of_le}
use Rattle.std.proofs.lemmas.Bool.Decides.{nat_tests}
use Rattle.std.proofs.lemmas.List.Elements.{All-head, All-tail}
use Rattle.std.proofs.lemmas.List.Sums.{sum_by-cons}
use Rattle.std.proofs.lemmas.Option.{slice_get_within}
use Rattle.cost_table.specs.Plan.{sum_below}
use Rattle.cost_table.proofs.Sums.{sum_below-add, sum_below-at, sum_below-same, sum_below-zero}
use Rattle.assignment.proofs.Placing.{sum_below-limit}
use Rattle.move_messages.specs.declared.event.Event.{Event}
use Rattle.commit_book.specs.Books.{entry_at}
use Rattle.sessions.specs.Closing.{HasEntries, HasEntry}
use Rattle.sessions.specs.OnlyReceipts.{IsReceived, IsReceivedAt, ReceiptsAgree, ReceiptsAreTheHistory, times_at_seats, times_of_entry}
use Rattle.sessions.specs.Seat.{SeatValue, count_of}
use Rattle.sessions.specs.declared.receipt.Receipt.{Receipt}

-- the number of an entry is one more than its index
in_range : (history : List Event) (n : ℕ) (event : Event) → entry_at history n ≡ Some event → (k : ℕ) × (n ≡ suc k) × (k < length history)
in_range history zero event h = absurd cc
in_range history (suc k) event h = (k, refl, slice_get_within history k event h)

same_test : (k i : ℕ) → ◌≡◌ {A = ℕ} (cond (suc k == i + 1) 1 0) (cond (k == i) 1 0 * 1)
same_test k i = grind (arith, nat_tests)

one_at : (n k : ℕ) → k < n → sum_below n (λ i. cond (suc k == i + 1) 1 0) ≡ 1
one_at n k l = sum_below-same n (λ i. cond (suc k == i + 1) 1 0) (λ i. cond (k == i) 1 0 * 1) (λ i m. same_test k i) ∙ sum_below-at n k (λ _. 1) l

-- the receipts of each entry are all receipts
counted : (history : List Event) (receipts : List Receipt) → All (HasEntry history) receipts → sum_below (length history) (λ i. times_of_entry (i + 1) receipts) ≡ length receipts
counted history [] all = sum_below-zero (length history) (λ i. times_of_entry (i + 1) []) (λ k l. refl)
counted history (r ∷ rs) all =
    let n = length history in
    let here = in_range history r.entry r.event (All-head (HasEntry history) r rs all) in
    let rest = counted history rs (All-tail (HasEntry history) r rs all) in
    let split = sum_below-same n (λ i. times_of_entry (i + 1) (r ∷ rs)) (λ i. cond (r.entry == i + 1) 1 0 + times_of_entry (i + 1) rs) (λ i l. sum_by-cons (λ (x : Receipt). cond (x.entry == i + 1) 1 0) r rs) in
    let both = sum_below-add n (λ i. cond (r.entry == i + 1) 1 0) (λ i. times_of_entry (i + 1) rs) in
    let one : sum_below n (λ i. cond (r.entry == i + 1) 1 0) ≡ 1 = ap (λ (k : ℕ). sum_below n (λ i. cond (k == i + 1) 1 0)) here.1 ∙ one_at n here.0 here.2 in
    omega (arith, split, both, one, rest)

-- where n numbers, each at most 1, add up to n, each is 1
each_one : (n : ℕ) (f : ℕ → ℕ) → ((k : ℕ) → f k ≤ 1) → n ≤ sum_below n f → (i : ℕ) → i < n → 1 ≤ f i
each_one zero f few all i l = omega arith
each_one (suc n) f few all i l =
    let limit = sum_below-limit n 1 f (λ k m. few k) in
    let last = few n in
    let rest : n ≤ sum_below n f = omega (arith, all, last) in
    let i_le : i ≤ n = omega (arith, l) in
    elim (eq-or-lt_of_le i_le) [
      | inl at ↦ let there : 1 ≤ f n = omega (arith, all, limit) in omega (arith, ap f at, there)
      | inr less ↦ each_one n f few rest i less
    ]

some_same : (a b : Event) → let o : Option Event = Some a in o ≡ Some b → a ≡ b
some_same a b h = cc

received_here : (history : List Event) (r : Receipt) (n : ℕ) (event : Event) → r.entry ≡ n → HasEntry history r → entry_at history n ≡ Some event → r.event ≡ event
received_here history r n event is has entry = some_same r.event event (sym has ∙ (ap (entry_at history) is ∙ entry))

later : (r : Receipt) (receipts : List Receipt) (n : ℕ) (event : Event) → IsReceived receipts n event → IsReceived (r ∷ receipts) n event
later r receipts n event h = record { index = suc h.index; receipt = h.receipt; is_receipt = h.is_receipt; its_entry = h.its_entry; its_event = h.its_event }

-- an entry that some receipt has the number of is that receipt's event; `rest` says so of the other receipts
received_by : (history : List Event) (r : Receipt) (rs : List Receipt) (n : ℕ) (event : Event) (b : Bool) → (r.entry == n) ≡ b → entry_at history n ≡ Some event → HasEntry history r
    → 1 ≤ times_of_entry n (r ∷ rs) → (1 ≤ times_of_entry n rs → IsReceived rs n event) → IsReceived (r ∷ rs) n event
received_by history r rs n event true is entry has some rest =
    let its : r.entry ≡ n = grind (arith, nat_tests, is) in
    record { index = zero; receipt = r; is_receipt = refl; its_entry = its; its_event = received_here history r n event its has entry }
received_by history r rs n event false is entry has some rest =
    let split = sum_by-cons (λ (x : Receipt). cond (x.entry == n) 1 0) r rs in
    let none : ◌≡◌ {A = ℕ} (cond (r.entry == n) 1 0) 0 = ap (λ b. cond b 1 0) is in
    later r rs n event (rest (omega (arith, some, split, none)))

received : (history : List Event) (receipts : List Receipt) (n : ℕ) (event : Event) → entry_at history n ≡ Some event → All (HasEntry history) receipts → 1 ≤ times_of_entry n receipts → IsReceived receipts n event
received history [] n event entry all some = absurd (omega (arith, some))
received history (r ∷ rs) n event entry all some =
    received_by history r rs n event (r.entry == n) refl entry (All-head (HasEntry history) r rs all) some
    (received history rs n event entry (All-tail (HasEntry history) r rs all))

-- ---- all seats

counted_seats : (history : List Event) (seats : List SeatValue) → All (HasEntries history) seats → sum_below (length history) (λ i. times_at_seats (i + 1) seats) ≡ sum_by count_of seats
counted_seats history [] all = sum_below-zero (length history) (λ i. times_at_seats (i + 1) []) (λ k l. refl)
counted_seats history (s ∷ ss) all =
    let n = length history in
    let split = sum_below-same n (λ i. times_at_seats (i + 1) (s ∷ ss)) (λ i. times_of_entry (i + 1) s.receipts + times_at_seats (i + 1) ss) (λ i l. sum_by-cons (λ (x : SeatValue). times_of_entry (i + 1) x.receipts) s ss) in
    let both = sum_below-add n (λ i. times_of_entry (i + 1) s.receipts) (λ i. times_at_seats (i + 1) ss) in
    let here = counted history s.receipts (All-head (HasEntries history) s ss all) in
    let rest = counted_seats history ss (All-tail (HasEntries history) s ss all) in
    let sum = sum_by-cons count_of s ss in
    omega (arith, split, both, here, rest, sum)

seat_later : (s : SeatValue) (ss : List SeatValue) (n : ℕ) (event : Event) → IsReceivedAt ss n event → IsReceivedAt (s ∷ ss) n event
seat_later s ss n event h = record { which = suc h.which; seat = h.seat; is_seat = h.is_seat; received = h.received }

-- the first seat has a receipt of this number, or one behind it has; `rest` says so of those
seat_by : (history : List Event) (s : SeatValue) (ss : List SeatValue) (n : ℕ) (event : Event) (k : ℕ) → times_of_entry n s.receipts ≡ k → entry_at history n ≡ Some event → HasEntries history s
    → 1 ≤ times_at_seats n (s ∷ ss) → (1 ≤ times_at_seats n ss → IsReceivedAt ss n event) → IsReceivedAt (s ∷ ss) n event
seat_by history s ss n event zero is entry has some rest =
    let split = sum_by-cons (λ (x : SeatValue). times_of_entry n x.receipts) s ss in
    seat_later s ss n event (rest (omega (arith, some, split, is)))
seat_by history s ss n event (suc k) is entry has some rest =
    record { which = zero; seat = s; is_seat = refl; received = received history s.receipts n event entry has (omega (arith, is)) }

at_seats : (history : List Event) (seats : List SeatValue) (n : ℕ) (event : Event) → entry_at history n ≡ Some event → All (HasEntries history) seats → 1 ≤ times_at_seats n seats → IsReceivedAt seats n event
at_seats history [] n event entry all some = absurd (omega (arith, some))
at_seats history (s ∷ ss) n event entry all some =
    seat_by history s ss n event (times_of_entry n s.receipts) refl entry (All-head (HasEntries history) s ss all) some
    (at_seats history ss n event entry (All-tail (HasEntries history) s ss all))

pub receipts_are_the_history : ReceiptsAreTheHistory
receipts_are_the_history history seats count all distinct n event entry =
    let here = in_range history n event entry in
    let sum = counted_seats history seats all in
    let one : 1 ≤ times_at_seats (here.0 + 1) seats = each_one (length history) (λ i. times_at_seats (i + 1) seats) (λ k. distinct (k + 1)) (omega (arith, sum, count)) here.0 here.2 in
    let number : here.0 + 1 ≡ n = omega (arith, here.1) in
    let there : 1 ≤ times_at_seats n seats = omega (arith, one, ap (λ (k : ℕ). times_at_seats k seats) number) in
    at_seats history seats n event entry all there

pub receipts_agree : ReceiptsAgree
receipts_agree history one other has its same = received_here history one other.entry other.event same has its
