-- The notes of an event that was answered.
use Rattle.std.proofs.Common.{◌≡◌, ◌∙◌, ◌≤◌, ℕ, Bool, true, false, cond, true≢false, List, [], ◌++◌, append-nil, length, Option, Result, Ok, Err, refl, ap, sym, arith}
use Rattle.std.specs.Prelude.{IfOk, IsOk, MatchBool, OnOk, if◌then◌else◌, nat_le}
use Rattle.std.specs.List.{IsDistinct, flat_map}
use Rattle.std.specs.declared.alloc.AllocError.{AllocError}
use Rattle.std.proofs.lemmas.Bool.Decides.{nat_tests}
use Rattle.commit_book.specs.History.{after}
use Rattle.commit_book.specs.declared.answer.Answer.{Answer}
use Rattle.fleet_rows.proofs.Named.{is_same}
use Rattle.fleet_rows.proofs.Wagons.{numbers_of}
use Rattle.move_messages.specs.declared.event.Event.{Event}
use Rattle.move_messages.specs.declared.event.Event.TheVariants as event
use Rattle.move_messages.specs.declared.message.Message as movement
use Rattle.operating_db.specs.Office.{Office}
use Rattle.wagons_and_orders.specs.OrderRow.{OrderRowValue}
use Rattle.journal_notes.specs.EventNotes.{is_accepted, message_notes}
use Rattle.journal_notes.specs.NotesOf.{AreNotesOf}
use Rattle.journal_notes.specs.OverdueNotes.{overdue_notes}
use Rattle.journal_notes.specs.Streaks.{StreaksValue, streak_of}
use Rattle.journal_notes.specs.Watches.{IsWatchOf, WatchValue}
use Rattle.journal_notes.specs.declared.event_before.EventBefore.{EventBefore}
use Rattle.journal_notes.specs.declared.known_wagon.KnownWagon.{KnownWagon}
use Rattle.journal_notes.specs.declared.note.Note.{Note}
use Rattle.journal_notes.specs.inner.Accepted.{commit_notes_for}
use Rattle.journal_notes.specs.inner.Advances.{Advances, Hears, Lowers, Stays}
use Rattle.journal_notes.specs.inner.Passed.{IsWithPassed, passed_notes_of}
use Rattle.journal_notes.specs.inner.Said.{AreSaid}
use Rattle.journal_notes.proofs.Overdue.{none_passed, overdue_none, overdue_passed}
use Rattle.journal_notes.proofs.Watched.{Moves, message_moves, moved_on}

-- ---- what was said before

said_by : {V : Type 0} (items : V → List Note) (accepted : Bool) (said : Result V AllocError) (wanted notes : List Note)
    → MatchBool accepted (IsOk said × IfOk said (λ some. notes ≡ items some)) (notes ≡ []) → IfOk said (λ some. items some ≡ wanted) → notes ≡ (if accepted then wanted else [])
said_by items true (Ok some) wanted notes h before = h.1 ∙ before
said_by items true (Err error) wanted notes h before = absurd (true≢false (sym h.0))
said_by items false said wanted notes h before = h

waited_by : {V : Type 0} (names : V → List (List ℕ)) (made : List (List ℕ) → List Note) (accepted : Bool) (waiting : Result V AllocError) (waited : List (List ℕ)) (notes : List Note)
    → MatchBool accepted (IsOk waiting × IfOk waiting (λ some. notes ≡ made (names some))) (notes ≡ []) → IfOk waiting (λ some. names some ≡ waited) → notes ≡ (if accepted then made waited else [])
waited_by names made true (Ok some) waited notes h before = h.1 ∙ ap made before
waited_by names made true (Err error) waited notes h before = absurd (true≢false (sym h.0))
waited_by names made false waiting waited notes h before = h

-- ---- what stands behind it

-- where the newest moment stays, nothing
same_notes : (beyond : Bool) (from until : ℕ) (orders : List OrderRowValue) (said notes : List Note) → until ≡ from → MatchBool beyond (notes ≡ said) (notes ≡ said ++ flat_map (passed_notes_of from until) orders) → notes ≡ said
same_notes true from until orders said notes same is = is
same_notes false from until orders said notes same is =
    is ∙ ap (λ (more : List Note). said ++ more) (ap (λ (n : ℕ). flat_map (passed_notes_of from n) orders) same ∙ none_passed from orders) ∙ append-nil said

-- at an accepted message, the orders that it makes overdue
within_bound : (a b : ℕ) → nat_le a b ≡ true → a ≤ b
within_bound a b is = grind (arith, nat_tests)

by_bound : (within : Bool) (office now : Office) (number : List ℕ) (old new : WatchValue) (said notes : List Note) → nat_le new.newest old.calm_until ≡ within → IsWatchOf office old → IsWatchOf now new → Moves office now number
    → MatchBool within (notes ≡ said) (notes ≡ said ++ flat_map (passed_notes_of old.newest new.newest) now.orders) → notes ≡ said ++ overdue_notes office now
by_bound true office now number old new said notes within is is_now moves h =
    h ∙ sym (append-nil said) ∙ ap (λ (more : List Note). said ++ more) (sym (overdue_none office now old new is is_now (moves.calm old.newest old.calm_until is.calm) (within_bound new.newest old.calm_until within)))
by_bound false office now number old new said notes within is is_now moves h = h ∙ ap (λ (more : List Note). said ++ more) (sym (overdue_passed office now old new is is_now))

message_overdue : (accepted : Bool) (networks : ℕ) (office now : Office) (message : movement.Message) (old new : WatchValue) (said notes : List Note) → IsDistinct is_same (numbers_of now.wagons) → IsWatchOf office old
    → now ≡ cond accepted (after networks office (event.Message message)) office → MatchBool accepted (Hears now message.wagon old new) (Stays old new)
    → IsWithPassed old.newest old.calm_until new.newest now.orders said notes → notes ≡ said ++ (if accepted then overdue_notes office now else [])
message_overdue true networks office now message old new said notes distinct is led hears h =
    let moves = message_moves networks office message now distinct led in
    by_bound (nat_le new.newest old.calm_until) office now message.wagon old new said notes refl is (moved_on office now message.wagon old new moves hears is) moves h
message_overdue false networks office now message old new said notes distinct is led stays h =
    same_notes (nat_le new.newest old.calm_until) old.newest new.newest now.orders said notes stays.newest h ∙ sym (append-nil said)

newest_stays : (accepted : Bool) (latest : ℕ) (old new : WatchValue) → MatchBool accepted (Lowers latest old new) (Stays old new) → new.newest ≡ old.newest
newest_stays true latest old new lowers = lowers.newest
newest_stays false latest old new stays = stays.newest

-- ---- all of an event's notes

pub noted : (before : EventBefore) (happens : Event) (answer : Answer) (now : Office) (old new : WatchValue) (said notes : List Note) → IsDistinct is_same (numbers_of now.wagons)
    → AreSaid before happens answer now old.streaks said → Advances happens answer now old new → IsWithPassed old.newest old.calm_until new.newest now.orders said notes → AreNotesOf before happens answer now old notes
noted before (event.Message message) answer now old new said notes distinct is_said hears h networks office is_before is_watch led =
    message_overdue (is_accepted answer) (length networks) office now message old new said notes distinct is_watch led hears h
    ∙ ap (λ (own : List Note). own ++ (if is_accepted answer then overdue_notes office now else []))
    (is_said ∙ ap (λ (known : Option KnownWagon). message_notes message answer known now (streak_of old.streaks message.wagon)) is_before)
noted before (event.Place order) answer now old new said notes distinct is_said lowers h networks office is_before is_watch led =
    same_notes (nat_le new.newest old.calm_until) old.newest new.newest now.orders said notes (newest_stays (is_accepted answer) order.latest old new lowers) h
    ∙ said_by (λ some. some.items) (is_accepted answer) before.said _ said is_said is_before
noted before (event.Withdraw id) answer now old new said notes distinct is_said stays h networks office is_before is_watch led =
    same_notes (nat_le new.newest old.calm_until) old.newest new.newest now.orders said notes stays.newest h
    ∙ said_by (λ some. some.items) (is_accepted answer) before.said _ said is_said is_before
noted before (event.Commit commit) answer now old new said notes distinct is_said stays h networks office is_before is_watch led =
    same_notes (nat_le new.newest old.calm_until) old.newest new.newest now.orders said notes stays.newest h
    ∙ waited_by (λ names. names.items) (λ names. commit_notes_for names now commit.pairs) (is_accepted answer) before.waiting _ said is_said is_before
noted before (event.Revise network) answer now old new said notes distinct is_said stays h networks office is_before is_watch led =
    same_notes (nat_le new.newest old.calm_until) old.newest new.newest now.orders said notes stays.newest h ∙ is_said

-- the streaks of the watch before play no part in how it goes on
heard_from : (accepted : Bool) (now : Office) (number : List ℕ) (old new : WatchValue) (streaks : StreaksValue) → MatchBool accepted (Hears now number (record old { streaks = streaks }) new) (Stays (record old { streaks = streaks }) new)
    → MatchBool accepted (Hears now number old new) (Stays old new)
heard_from true now number old new streaks h = record { newest = h.newest; below = h.below; above = h.above }
heard_from false now number old new streaks h = record { newest = h.newest; calm_until = h.calm_until }

lowered_from : (accepted : Bool) (latest : ℕ) (old new : WatchValue) (streaks : StreaksValue) → MatchBool accepted (Lowers latest (record old { streaks = streaks }) new) (Stays (record old { streaks = streaks }) new)
    → MatchBool accepted (Lowers latest old new) (Stays old new)
lowered_from true latest old new streaks h = record { newest = h.newest; lower = h.lower; under = h.under }
lowered_from false latest old new streaks h = record { newest = h.newest; calm_until = h.calm_until }

stayed_from : (old new : WatchValue) (streaks : StreaksValue) → Stays (record old { streaks = streaks }) new → Stays old new
stayed_from old new streaks h = record { newest = h.newest; calm_until = h.calm_until }

advances_from : (happens : Event) (answer : Answer) (now : Office) (old new : WatchValue) (streaks : StreaksValue) → Advances happens answer now (record old { streaks = streaks }) new → Advances happens answer now old new
advances_from (event.Message message) answer now old new streaks h = heard_from (is_accepted answer) now message.wagon old new streaks h
advances_from (event.Place order) answer now old new streaks h = lowered_from (is_accepted answer) order.latest old new streaks h
advances_from (event.Withdraw id) answer now old new streaks h = stayed_from old new streaks h
advances_from (event.Commit commit) answer now old new streaks h = stayed_from old new streaks h
advances_from (event.Revise network) answer now old new streaks h = stayed_from old new streaks h

pub with_noted : {V : Type 0} (items : V → List Note) (before : EventBefore) (happens : Event) (answer : Answer) (now : Office) (old new : WatchValue) (streaks : StreaksValue) (from bound until : ℕ) (orders : List OrderRowValue) (said result : Result V AllocError)
    → IsDistinct is_same (numbers_of now.wagons) → IfOk said (λ some. AreSaid before happens answer now old.streaks (items some)) → Advances happens answer now (record old { streaks = streaks }) new
    → from ≡ old.newest → bound ≡ old.calm_until → until ≡ new.newest → orders ≡ now.orders
    → IfOk result (λ notes. IfOk said (λ some. IsWithPassed from bound until orders (items some) (items notes))) → OnOk result (IsOk said)
    → IfOk result (λ notes. AreNotesOf before happens answer now old (items notes))
with_noted items before happens answer now old new streaks from bound until orders said (Err error) distinct is_said advances is_from is_bound is_until are_orders h is_ok = tt
with_noted items before happens answer now old new streaks from bound until orders (Err error) (Ok notes) distinct is_said advances is_from is_bound is_until are_orders h is_ok = absurd (true≢false (sym is_ok))
with_noted items before happens answer now old new streaks from bound until orders (Ok some) (Ok notes) distinct is_said advances is_from is_bound is_until are_orders h is_ok =
    noted before happens answer now old new (items some) (items notes) distinct is_said (advances_from happens answer now old new streaks advances) (rw (is_from, is_bound, is_until, are_orders) at h)
