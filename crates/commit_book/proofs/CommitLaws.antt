-- A commit that is not refused pays what it owes, and can be promised.
use Rattle.std.proofs.Common.{◌≡◌, ◌≢◌, ◌∙◌, ◌+◌, ◌<◌, ◌≤◌, ℕ, zero, suc, Bool, true, false, cond, ◌&&◌, List, [], ◌∷◌, ◌++◌, length, take, get_or, add-one, refl, sym, ap, arith, subst}
use Rattle.std.specs.Prelude.{◌==◌, Option, Some, None, is_some, Result, Ok, Err, All, option_and_then, slice_get}
use Rattle.std.proofs.lemmas.Bool.Decides.{nat_tests}
use Rattle.std.proofs.lemmas.List.Elements.{All-cons, All-head, All-nil, All-tail}
use Rattle.std.proofs.lemmas.List.Sums.{sum_by_push}
use Rattle.std.proofs.lemmas.Option.{slice_get-get_or}
use Rattle.std.proofs.Math.Seq.{take-length, take-suc}
use Rattle.move_messages.specs.declared.commit_text.CommitText.{CommitText}
use Rattle.wagons_and_orders.specs.declared.free_wagon.FreeWagon.{FreeWagon}
use Rattle.wagons_and_orders.specs.declared.wagon_row.WagonRow.{WagonRow}
use Rattle.wagons_and_orders.specs.Free.{free_of}
use Rattle.fleet_rows.specs.Rows.{order_in, wagon_in}
use Rattle.cost_table.specs.Problem.{ProblemValue, names_of_problem}
use Rattle.cost_table.specs.Table.{Table}
use Rattle.price_checker.specs.Faults.{first_fault}
use Rattle.price_checker.specs.NamedPairs.{checked, positions_of}
use Rattle.faults.specs.declared.faults.NamedFault.{NamedFault}
use Rattle.faults.specs.declared.faults.NamedFault.TheVariants as named
use Rattle.price_checker.proofs.Checked.{passes}
use Rattle.price_checker.proofs.Duality.{certificates_optimal}
use Rattle.price_checker.proofs.FaultFree.{in_range_certified}
use Rattle.price_checker.proofs.FirstBelow.{none_below, none_first, none_second}
use Rattle.operating_db.specs.Commits.{CanPromise, IsPromisable, Pair, is_free_row, lack_in, times_of_order, times_of_wagon}
use Rattle.operating_db.specs.Office.{Office}
use Rattle.move_messages.specs.declared.event.Event.{Event}
use Rattle.operating_db.proofs.Names.{same, same_is}
use Rattle.commit_book.specs.BookStep.{refusal_by, refusal_in}
use Rattle.commit_book.specs.Commits.{free_in, is_same_free, is_same_wagon, lacks_fewer, order_changed, order_changed_at, refusal_if_fewer, wagon_changed, wagon_of}
use Rattle.commit_book.specs.History.{IsLeast, IsTableAt, IsUnchanged, problem_at, replay}
use Rattle.faults.specs.Conversions.{refusal_of_fault}
use Rattle.commit_book.specs.Setting.{Setting}
use Rattle.faults.specs.declared.faults.Refusal.{Refusal}
use Rattle.faults.specs.declared.faults.Refusal.TheVariants.{OrderChanged, OutOfMemory, WagonChanged}
use Rattle.commit_book.proofs.Placed.{named_once, placed_in_range, placed_stand, positions_placed}

tail_allowed : {A : Type 0} (b : Bool) (rest : Option A) (x : A) → cond b rest (Some x) ≡ None → (b ≡ true) × (rest ≡ None)
tail_allowed true rest x h = (refl, h)
tail_allowed false rest x h = cc

-- ---- wagons

pub both_true : (a b : Bool) → (a && b) ≡ true → (a ≡ true) × (b ≡ true)
both_true true b h = (refl, h)
both_true false b h = cc

pub same_number : (a b : ℕ) → (a == b) ≡ true → a ≡ b
same_number a b h = grind (arith, nat_tests, h)

alike : (a b : FreeWagon) → a.number ≡ b.number → a.class ≡ b.class → a.load_limit ≡ b.load_limit → a.place ≡ b.place → a.ready ≡ b.ready → a ≡ b
alike a b number class load_limit place ready =
    let parts : ◌≡◌ {A = FreeWagon} (record { number = a.number; class = a.class; load_limit = a.load_limit; place = a.place; ready = a.ready }) (record { number = b.number; class = b.class; load_limit = b.load_limit; place = b.place; ready = b.ready }) = cc in
    parts

pub same_wagon : (a b : FreeWagon) → is_same_wagon a b ≡ true → a ≡ b
same_wagon a b h =
    let number = both_true (same a.number b.number) _ h in
    let class = both_true (same a.class b.class) _ number.1 in
    let load = both_true (a.load_limit == b.load_limit) _ class.1 in
    let place = both_true (same a.place b.place) _ load.1 in
    alike a b (same_is _ _ number.0) (same_is _ _ class.0) (same_number _ _ load.0) (same_is _ _ place.0) (same_number _ _ place.1)

-- both are there, and one
unchanged_by : (was is : Option FreeWagon) → is_same_free was is ≡ true → (wagon : FreeWagon) × (was ≡ Some wagon) × (is ≡ Some wagon)
unchanged_by None is h = cc
unchanged_by (Some a) None h = cc
unchanged_by (Some a) (Some b) h = (a, refl, ap (λ (w : FreeWagon). Some w) (sym (same_wagon a b h)))

-- where no wagon has changed, each is free now as it was
pub all_unchanged : (problem : ProblemValue) (now : Office) (pairs : List Pair) → wagon_changed problem now pairs ≡ None → All (IsUnchanged problem now) pairs
all_unchanged problem now [] h = All-nil (IsUnchanged problem now)
all_unchanged problem now (pair ∷ pairs) h =
    let f = tail_allowed (is_same_free (wagon_of problem pair.0) (free_in now pair.0)) (wagon_changed problem now pairs) (WagonChanged pair.0) h in
    All-cons (IsUnchanged problem now) pair pairs (unchanged_by (wagon_of problem pair.0) (free_in now pair.0) f.0) (all_unchanged problem now pairs f.1)

free_row : (o : Option WagonRow) (wagon : FreeWagon) → option_and_then free_of o ≡ Some wagon → is_free_row o ≡ true
free_row None wagon h = cc
free_row (Some row) wagon h = ap is_some h

-- ---- orders

-- no order is given more than it lacks
abbrev pub GivesWithin : Office → List Pair → Type 0
GivesWithin now pairs = (id : List ℕ) → times_of_order id pairs ≤ lack_in (order_in now.orders id)

times_push : (id : List ℕ) (pairs : List Pair) (pair : Pair) → times_of_order id (pairs ++ pair ∷ []) ≡ times_of_order id pairs + cond (same id pair.1) 1 0
times_push id pairs pair = sum_by_push (λ (p : Pair). cond (same id p.1) 1 0) pairs pair

at_most_one : (b : Bool) → cond b 1 0 ≤ 1
at_most_one true = omega arith
at_most_one false = omega arith

given_own : (now : Office) (pairs : List Pair) (id : List ℕ) → lacks_fewer now pairs id ≡ false → times_of_order id pairs ≤ lack_in (order_in now.orders id)
given_own now pairs id h = grind (arith, nat_tests, h)

given_push : (now : Office) (before : List Pair) (pair : Pair) (id : List ℕ) (b : Bool) → same id pair.1 ≡ b → times_of_order pair.1 (before ++ pair ∷ []) ≤ lack_in (order_in now.orders pair.1) → times_of_order id before ≤ lack_in (order_in now.orders id) → times_of_order id (before ++ pair ∷ []) ≤ lack_in (order_in now.orders id)
given_push now before pair id true is own k = subst (λ (x : List ℕ). times_of_order x (before ++ pair ∷ []) ≤ lack_in (order_in now.orders x)) (sym (same_is id pair.1 is)) own
given_push now before pair id false is own k =
    let e = times_push id before pair in
    let none : ◌≡◌ {A = ℕ} (cond (same id pair.1) 1 0) 0 = ap (λ b. cond b 1 0) is in
    omega (arith, e, none, k)

none_if : (b : Bool) (x : Refusal) → cond b (Some x) None ≡ None → b ≡ false
none_if true x h = cc
none_if false x h = refl

-- the pairs before a place give no order more than it lacks
given_before : (now : Office) (pairs : List Pair) → order_changed now pairs ≡ None → (id : List ℕ) (k : ℕ) → k ≤ length pairs → times_of_order id (take k pairs) ≤ lack_in (order_in now.orders id)
given_before now pairs h id zero le = omega arith
given_before now pairs h id (suc k) le =
    let lt : k < length pairs = omega (arith, le) in
    let pair = get_or pairs k ([], []) in
    let there : slice_get pairs k ≡ Some pair = slice_get-get_or pairs k ([], []) lt in
    let counted : take (k + 1) pairs ≡ take k pairs ++ pair ∷ [] = ap (λ (n : ℕ). take n pairs) (add-one k) ∙ take-suc pairs k ([], []) lt in
    let unrefused : order_changed_at now pairs k ≡ None = none_below (length pairs) (order_changed_at now pairs) h k lt in
    let here : refusal_if_fewer now (take (k + 1) pairs) pair ≡ None = ap (option_and_then (refusal_if_fewer now (take (k + 1) pairs))) (sym there) ∙ unrefused in
    let own = given_own now (take (k + 1) pairs) pair.1 (none_if (lacks_fewer now (take (k + 1) pairs) pair.1) (OrderChanged pair.1) here) in
    rw (take-suc pairs k ([], []) lt) (given_push now (take k pairs) pair id (same id pair.1) refl (rw counted at own) (given_before now pairs h id k (omega (arith, le))))

-- where no order has changed, none is given more than it lacks
pub gives_within : (now : Office) (pairs : List Pair) → order_changed now pairs ≡ None → GivesWithin now pairs
gives_within now pairs h id = rw (take-length pairs) at (given_before now pairs h id (length pairs) (omega arith))

-- ---- commits

promisable : (problem : ProblemValue) (now : Office) (pairs : List Pair) → ((number : List ℕ) → times_of_wagon number pairs ≤ 1) → GivesWithin now pairs → (some : List Pair) → All (IsUnchanged problem now) some → All (IsPromisable now pairs) some
promisable problem now pairs once within [] h = All-nil (IsPromisable now pairs)
promisable problem now pairs once within (pair ∷ some) h =
    let head = All-head (IsUnchanged problem now) pair some h in
    All-cons (IsPromisable now pairs) pair some (record { once = once pair.0; free = free_row (wagon_in now.wagons pair.0) head.0 head.2; lacking = within pair.1 })
    (promisable problem now pairs once within some (All-tail (IsUnchanged problem now) pair some h))

-- distinct wagons that have not changed, and no order with more than it lacks, can be promised
pub can_promise : (problem : ProblemValue) (now : Office) (pairs : List Pair) → ((number : List ℕ) → times_of_wagon number pairs ≤ 1) → GivesWithin now pairs → All (IsUnchanged problem now) pairs → CanPromise now pairs
can_promise problem now pairs once within h = promisable problem now pairs once within pairs h

-- what a commit says that has none of the refusals
pub record IsUnrefused (problem : ProblemValue) (now : Office) (commit : CommitText) (table : Table) : Type 0 where
  pub positions : List (ℕ × ℕ)
  pub are_positions : positions_of (names_of_problem problem) commit.pairs ≡ Ok positions
  pub no_fault : first_fault table positions commit.u commit.v ≡ None
  pub wagons : wagon_changed problem now commit.pairs ≡ None
  pub orders : order_changed now commit.pairs ≡ None

unrefused_by : (problem : ProblemValue) (now : Office) (commit : CommitText) (table : Table) (answer : Result ℕ NamedFault) → checked (names_of_problem problem) table commit.pairs commit.u commit.v ≡ answer → refusal_by problem now commit.pairs answer ≡ None → IsUnrefused problem now commit table
unrefused_by problem now commit table (Err fault) is h = cc
unrefused_by problem now commit table (Ok cost) is h =
    let passed = passes (names_of_problem problem) table commit.pairs commit.u commit.v cost is in
    record { positions = passed.positions; are_positions = passed.found; no_fault = passed.no_fault; wagons = none_first _ _ h; orders = none_second (wagon_changed problem now commit.pairs) _ h }

pub unrefused : (problem : ProblemValue) (now : Office) (commit : CommitText) (table : Table) → refusal_in problem now commit table ≡ None → IsUnrefused problem now commit table
unrefused problem now commit table h = unrefused_by problem now commit table (checked (names_of_problem problem) table commit.pairs commit.u commit.v) refl h

-- a commit that the price checker refuses
pub refused_check : (problem : ProblemValue) (now : Office) (commit : CommitText) (table : Table) (fault : NamedFault) (refusal : Refusal) → refusal ≡ refusal_of_fault fault
    → (fault ≢ named.OutOfMemory → checked (names_of_problem problem) table commit.pairs commit.u commit.v ≡ Err fault) → refusal ≢ OutOfMemory → refusal_in problem now commit table ≡ Some refusal
refused_check problem now commit table fault refusal is says other =
    ap (refusal_by problem now commit.pairs) (says (λ e. other (is ∙ ap refusal_of_fault e))) ∙ ap (λ (r : Refusal). Some r) (sym is)

pub commit_owed : (setting : Setting) (history : List Event) (commit : CommitText) (table : Table) → commit.version ≤ length history → IsTableAt setting history commit.version commit.at table
    → refusal_in (problem_at setting history commit.version commit.at) (replay setting history) commit table ≡ None → IsLeast setting history commit × CanPromise (replay setting history) commit.pairs
commit_owed setting history commit table had is_table h =
    let problem = problem_at setting history commit.version commit.at in
    let now = replay setting history in
    let un = unrefused problem now commit table h in
    let placed = positions_placed problem commit.pairs un.positions un.are_positions in
    let range = placed_in_range is_table.network problem table is_table.of_problem commit.pairs un.positions placed in
    let certificate = in_range_certified table un.positions commit.u commit.v range un.no_fault in
    let unchanged = all_unchanged problem now commit.pairs un.wagons in
    let once = named_once problem commit.pairs un.positions placed certificate.plan.once in (
      record {
        had = had;
        table = table;
        is_table = is_table;
        positions = un.positions;
        are_positions = placed_stand problem commit.pairs un.positions placed;
        certificate = certificate;
        optimal = certificates_optimal table un.positions commit.u commit.v certificate;
        unchanged = unchanged;
      },
      can_promise problem now commit.pairs once (gives_within now commit.pairs un.orders) unchanged,
    )
