-- A book's parts, when an event is entered and when a problem is kept.
use Rattle.std.proofs.lemmas.Bool.Decides.{nat_tests}
use Rattle.std.proofs.Common.{◌≡◌, ◌∙◌, ◌≤◌, ◌<◌, ℕ, Bool, true, ◌||◌, zero, suc, false, get_or, set, List, [], ◌∷◌, ◌++◌, length, map, Option, Some, None, is_some, refl, sym, ap, arith, subst}
use Rattle.std.specs.Prelude.{IfNone, IfSome, IsOk, IsSome, option_copied, option_map, position, slice_get}
use Rattle.std.specs.declared.alloc.Global.{Global}
use Rattle.std.specs.declared.sync.Arc.{Arc}
use denote.Bor.{Bor}
use Rattle.std.proofs.lemmas.List.{length-map}
use Rattle.std.proofs.Math.Seq.{map-set_same}
use Rattle.std.proofs.lemmas.List.Elements.{All-get_or}
use Rattle.std.proofs.lemmas.Option.{same_Some, slice_get-map, slice_get_read}
use Rattle.fleet_rows.proofs.Named.{found_at_place, not_found}
use Rattle.problem_table.proofs.AllowedLemmas.{some_at}
use Rattle.std.proofs.Math.Seq.{take-length}
use Rattle.line_network.specs.Network.{NetworkValue}
use Rattle.line_network.specs.Networks.{network_at}
use Rattle.problem_table.specs.Allowed.{IsTableOf}
use Rattle.cost_table.specs.Problem.{ProblemValue}
use Rattle.operating_db.specs.After.{after_call}
use Rattle.operating_db.specs.Office.{Office}
use Rattle.operating_db.specs.Problem.{problem_of}
use Rattle.operating_db.specs.Steps.{IsPromised}
use Rattle.move_messages.specs.declared.event.Event.{Event}
use Rattle.commit_book.specs.BookStep.{is_full, is_kept, is_this}
use Rattle.commit_book.specs.History.{IsEntry, Owes, after_all, problem_at, replay, version}
use Rattle.operating_db.specs.State.{IsState, StateValue}
use Rattle.commit_book.specs.Books.{BookValue}
use Rattle.commit_book.specs.Made.{IsMadeAmong, IsMadeOf}
use Rattle.commit_book.specs.inner.Kept.{IsBook, IsBookOf, IsIndexOfKept, IsKeptAt, IsNetworkOf, IsTabled, book_of, made_of, setting_of, which_of, with_kept}
use Rattle.commit_book.specs.inner.Ledger.{LedgerValue, office_of}
use Rattle.operating_db.proofs.Possible.{possible_by}
use Rattle.price_checker.specs.Limits.{LimitNumbers}
use Rattle.commit_book.specs.Setting.{Setting}
use Rattle.commit_book.specs.declared.kept_problems.KeptProblem.{KeptProblem}
use Rattle.commit_book.specs.declared.made_problem.MadeProblem.{MadeProblem}
use Rattle.commit_book.proofs.Books.{book_keep, book_push, kept_as, kept_is_found, kept_which}
use Rattle.commit_book.proofs.Runs.{IsLegalEntry, room_of}

abbrev pub shown : Setting → List Event → List (ℕ × ℕ) → BookValue
shown setting history kept = record { setting = setting; state = record { history = history; kept = kept } }

-- the office of a ledger is the replay
pub office_is : (ledger : LedgerValue) (networks : List NetworkValue) (limits : LimitNumbers) → ledger.networks ≡ length networks → office_of ledger ≡ replay (setting_of ledger networks limits) ledger.events
office_is ledger networks limits h = ap (λ (n : ℕ). after_all n ledger.first ledger.events) h

pub parts_pushed : (ledger : LedgerValue) (networks : List NetworkValue) (limits : LimitNumbers) (kept : List KeptProblem) (event : Event) → IsBookOf ledger networks limits kept
    → IsPromised (replay (setting_of ledger networks limits) ledger.events) event → Owes (setting_of ledger networks limits) ledger.events event → is_full (setting_of ledger networks limits) ledger.events ≡ false
    → IsOk (after_call ledger.networks (office_of ledger) event) → IsBookOf (record ledger { events = ledger.events ++ event ∷ [] }) networks limits kept
parts_pushed ledger networks limits kept event is promised owed unfilled possible =
    let setting = setting_of ledger networks limits in
    let there : IsOk (after_call (length networks) (replay setting ledger.events) event) =
    subst (λ (o : Office). IsOk (after_call (length networks) o event)) (office_is ledger networks limits is.counted) (subst (λ (n : ℕ). IsOk (after_call n (office_of ledger) event)) is.counted possible) in
    let entry : IsEntry setting ledger.events event = record { possible = possible_by (length networks) (replay setting ledger.events) event promised there; owed = owed } in
    let legal : IsLegalEntry setting ledger.events event = record { room = room_of limits.entries (length ledger.events) unfilled; is_entry = entry } in
    record { counted = is.counted; book = book_push setting ledger.events event kept is.book legal }

pub parts_kept : (ledger : LedgerValue) (networks : List NetworkValue) (limits : LimitNumbers) (kept : List KeptProblem) (most : ℕ) (one : KeptProblem) → IsBookOf ledger networks limits kept
    → IsKeptAt (setting_of ledger networks limits) ledger.events one → IsBookOf ledger networks limits (with_kept most kept one)
parts_kept ledger networks limits kept most one is h =
    record { counted = is.counted; book = book_keep (setting_of ledger networks limits) ledger.events most kept one is.book h }

-- the version of all entries is the replay of them
pub last_version : (setting : Setting) (history : List Event) → version setting history (length history) ≡ replay setting history
last_version setting history = ap (replay setting) (take-length history)

same_network : (a b : NetworkValue) (o : Option NetworkValue) → o ≡ Some a → o ≡ Some b → a ≡ b
same_network a b o h k = cc

-- what is made of the problem of a version over the network in force in it has its table
pub made_tabled : (setting : Setting) (history : List Event) (n number : ℕ) (problem : ProblemValue) (made : MadeProblem) (network : NetworkValue) → problem ≡ problem_at setting history n problem.at → IsNetworkOf setting history n number
    → network_at setting.networks number ≡ Some network → IsMadeOf network number problem made → IsTabled setting history n problem.at made
made_tabled setting history n number problem made network problem_is of_version numbered h =
    let same : made.problem ≡ problem_at setting history n made.problem.at = h.problem_is ∙ problem_is ∙ ap (λ (p : ProblemValue). problem_at setting history n p.at) (sym h.problem_is) in
    record {
      is_made = record {
        is_problem = same;
        is_table = λ m span.
            let moment : record problem { at = m } ≡ problem_at setting history n m = ap (λ (p : ProblemValue). record p { at = m }) problem_is in
            let first : problem.at ≤ m = subst (λ (p : ProblemValue). p.at ≤ m) h.problem_is span.first in
            record { network = network; in_force = rw of_version.in_force numbered; of_problem = subst (λ (p : ProblemValue). IsTableOf network p made.timed.cells) moment (h.lasts m first span.last) };
        lasting = λ net there.
            let same_number : network_at setting.networks number ≡ Some net = subst (λ (k : ℕ). network_at setting.networks k ≡ Some net) h.number_is there in
            rw (same_network net network _ same_number numbered, h.problem_is) h.by_wagon;
      };
      in_span = record { first = rw h.problem_is (omega arith); last = h.within };
    }

-- ---- kept problems by their index

-- the kept problem at an index
pub kept_there : (setting : Setting) (history : List Event) (kept : List KeptProblem) (index : ℕ) (one : KeptProblem) → IsBook setting history kept → index < length kept → one ≡ get_or kept index one → IsKeptAt setting history one
kept_there setting history kept index one book within is = subst (IsKeptAt setting history) (sym is) (All-get_or (IsKeptAt setting history) kept index one within book.problems)

-- of which version and moment it is
pub which_there : (kept : List KeptProblem) (index : ℕ) (one : KeptProblem) → index < length kept → one ≡ get_or kept index one → slice_get (map which_of kept) index ≡ Some (which_of one)
which_there kept index one within is = slice_get-map which_of kept index ∙ ap (option_map which_of) (slice_get_read kept (length kept) index one refl within is)

pub if_there : (P : ℕ × ℕ → Type 0) (kept : List KeptProblem) (index : ℕ) (one : KeptProblem) → index < length kept → one ≡ get_or kept index one → P (which_of one) → IfSome (slice_get (map which_of kept) index) P
if_there P kept index one within is h = subst (λ (o : Option (ℕ × ℕ)). IfSome o P) (sym (which_there kept index one within is)) h

pub from_there : (P : ℕ × ℕ → Type 0) (kept : List KeptProblem) (index : ℕ) (one : KeptProblem) → index < length kept → one ≡ get_or kept index one → IfSome (slice_get (map which_of kept) index) P → P (which_of one)
from_there P kept index one within is h = subst (λ (o : Option (ℕ × ℕ)). IfSome o P) (which_there kept index one within is) h

some_within : {A : Type 0} (xs : List A) (index : ℕ) → IsSome (slice_get xs index) → index < length xs
some_within [] index h = absurd cc
some_within (x ∷ xs) zero h = omega arith
some_within (x ∷ xs) (suc index) h = let before = some_within xs index h in omega (arith, before)

pub index_within : (kept : List KeptProblem) (index : ℕ) → IsSome (slice_get (map which_of kept) index) → index < length kept
index_within kept index h = let same = length-map kept which_of in let within = some_within (map which_of kept) index h in omega (arith, same, within)

pub put_kept : (setting : Setting) (history : List Event) (kept : List KeptProblem) (index : ℕ) (one new : KeptProblem) (made : MadeProblem) → IsBook setting history kept → index < length kept → one ≡ get_or kept index one
    → new.version ≡ one.version → new.network ≡ one.network → new.problem ≡ one.problem → made_of new ≡ Some made → IfSome (slice_get (map which_of kept) index) (λ which. IsTabled setting history which.0 which.1 made) → IsKeptAt setting history new
put_kept setting history kept index one new made book within is same_version same_network same_problem has h =
    let at = kept_there setting history kept index one book within is in
    let tabled : IsTabled setting history one.version one.problem.at made = from_there (λ which. IsTabled setting history which.0 which.1 made) kept index one within is h in
    record {
      had = rw same_version at.had;
      is_problem = rw (same_version, same_problem) at.is_problem;
      network = rw (same_version, same_network) at.network;
      made = rw has (rw (same_version, same_problem) tabled);
    }

pub same_kept : (kept : List KeptProblem) (index : ℕ) (one new : KeptProblem) → index < length kept → one ≡ get_or kept index one → which_of new ≡ which_of one → map which_of (set kept index new) ≡ map which_of kept
same_kept kept index one new within is same = map-set_same which_of kept index new one (same ∙ ap which_of is)

index_found : (kept : List KeptProblem) (which : ℕ × ℕ) (index : ℕ) (one : KeptProblem) → slice_get kept index ≡ Some one → kept_as kept which ≡ Some one → IsIndexOfKept (map which_of kept) which index
index_found kept which index one there found = record {
  is_among = kept_is_found kept which ∙ ap is_some found;
  there = slice_get-map which_of kept index ∙ ap (option_map which_of) there ∙ ap (λ (w : ℕ × ℕ). Some w) (kept_which kept which one found);
}

index_kept : (kept : List KeptProblem) (which : ℕ × ℕ) (index : ℕ) → position (λ one. is_this which (which_of one)) kept ≡ Some index → IsIndexOfKept (map which_of kept) which index
index_kept kept which index h =
    let (found, within) = found_at_place (λ (one : KeptProblem). is_this which (which_of one)) kept index h in
    let (one, there) = some_at kept index within in
    index_found kept which index one there (found ∙ there)

index_absent : (kept : List KeptProblem) (which : ℕ × ℕ) → position (λ one. is_this which (which_of one)) kept ≡ None → is_kept (map which_of kept) which ≡ false
index_absent kept which h = kept_is_found kept which ∙ ap is_some (not_found (λ (one : KeptProblem). is_this which (which_of one)) kept h)

-- so where one is looked for
pub index_found_there : (kept : List KeptProblem) (which : ℕ × ℕ) (o : Option ℕ) → o ≡ position (λ one. is_this which (which_of one)) kept → IfSome o (IsIndexOfKept (map which_of kept) which)
index_found_there kept which None h = tt
index_found_there kept which (Some index) h = index_kept kept which index (sym h)

pub index_not_found : (kept : List KeptProblem) (which : ℕ × ℕ) (o : Option ℕ) → o ≡ position (λ one. is_this which (which_of one)) kept → IfNone o (is_kept (map which_of kept) which ≡ false)
index_not_found kept which None h = index_absent kept which (sym h)
index_not_found kept which (Some index) h = tt

-- the kept problem at an index, of which it is known which it is
pub named_there : (setting : Setting) (history : List Event) (kept : List KeptProblem) (index : ℕ) (one : KeptProblem) (n at : ℕ) → IsBook setting history kept → one ≡ get_or kept index one → slice_get (map which_of kept) index ≡ Some (n, at)
    → (n ≤ length history) × (one.problem ≡ problem_at setting history n at)
named_there setting history kept index one n at book is there =
    let within : index < length kept = index_within kept index (rw there refl) in
    let which : which_of one ≡ (n, at) = same_Some _ _ (sym (which_there kept index one within is) ∙ there) in
    let same_n : one.version ≡ n = ap (λ (w : ℕ × ℕ). w.0) which in
    let same_at : one.problem.at ≡ at = ap (λ (w : ℕ × ℕ). w.1) which in
    let h = kept_there setting history kept index one book within is in
    (rw (sym same_n) h.had, h.is_problem ∙ ap (λ (k : ℕ). problem_at setting history k one.problem.at) same_n ∙ ap (λ (m : ℕ). problem_at setting history n m) same_at)

-- the problem of the last version, as it is kept without a table
pub present_kept : (setting : Setting) (history : List Event) (n network : ℕ) (problem : ProblemValue) (new : KeptProblem) → n ≡ length history → network ≡ (replay setting history).network → problem ≡ problem_of (replay setting history) problem.at
    → IsSome (network_at setting.networks network) → new.version ≡ n → new.network ≡ network → new.problem ≡ problem → made_of new ≡ None → IsKeptAt setting history new
present_kept setting history n network problem new is_n is_network is_problem known new_n new_network new_problem none =
    let office : replay setting history ≡ version setting history new.version = sym (last_version setting history) ∙ ap (version setting history) (sym (new_n ∙ is_n)) in
    let there : problem ≡ problem_at setting history new.version problem.at = is_problem ∙ ap (λ (o : Office). problem_of o problem.at) office in
    record {
      had = omega (arith, new_n, is_n);
      is_problem = new_problem ∙ there ∙ ap (λ (p : ProblemValue). problem_at setting history new.version p.at) (sym new_problem);
      network = record { in_force = ap (λ (o : Office). o.network) (sym office) ∙ sym is_network ∙ sym new_network; known = rw new_network known };
      made = rw none tt;
    }

known_number : (networks : List NetworkValue) (k : ℕ) → 1 ≤ k → k ≤ length networks → IsSome (network_at networks k)
known_number networks zero from_one few = absurd (omega (arith, from_one))
known_number networks (suc k) from_one few = rw (some_at networks k (omega (arith, few))).1 refl

-- the network in force is one of the networks
pub in_force_known : (networks : List NetworkValue) (network : ℕ) (state : StateValue) → IsState state → network ≡ state.office.network → state.networks ≡ length networks → IsSome (network_at networks network)
in_force_known networks network state is same count = let from_one = is.from_one in let few = is.in_force in known_number networks network (omega (arith, same, from_one)) (omega (arith, same, few, count))

-- what a book shows is the same, whatever tables it has
pub put_same : (ledger : LedgerValue) (networks : List NetworkValue) (limits : LimitNumbers) (kept : List KeptProblem) (index : ℕ) (one new : KeptProblem) → index < length kept → one ≡ get_or kept index one → which_of new ≡ which_of one
    → book_of ledger networks limits (set kept index new) ≡ book_of ledger networks limits kept
put_same ledger networks limits kept index one new within is same =
    ap (λ (ks : List (ℕ × ℕ)). shown (setting_of ledger networks limits) ledger.events ks) (same_kept kept index one new within is same)

either : (a b : Bool) → a ≡ true → (a || b) ≡ true
either true b h = refl
either false b h = absurd cc

or_later : (a b : Bool) → b ≡ true → (a || b) ≡ true
or_later true b h = refl
or_later false b h = h

this_one : (which : ℕ × ℕ) → is_this which which ≡ true
this_one which = grind (arith, nat_tests)

-- what stands at an index is kept
pub kept_of : (kept : List (ℕ × ℕ)) (index : ℕ) (which : ℕ × ℕ) → slice_get kept index ≡ Some which → is_kept kept which ≡ true
kept_of [] index which h = absurd cc
kept_of (first ∷ kept) zero which h = either (is_this which first) (is_kept kept which) (subst (λ (w : ℕ × ℕ). is_this which w ≡ true) (sym (same_Some first which h)) (this_one which))
kept_of (first ∷ kept) (suc index) which h = or_later (is_this which first) (is_kept kept which) (kept_of kept index which h)

-- what is made of a problem that is kept has its table
pub taken : (setting : Setting) (history : List Event) (kept : List KeptProblem) (index : ℕ) (one : KeptProblem) (made : MadeProblem) → IsBook setting history kept → index < length kept → one ≡ get_or kept index one → IsMadeAmong setting.networks made
    → one.network ≡ made.network → one.problem ≡ made.problem → IfSome (slice_get (map which_of kept) index) (λ which. IsTabled setting history which.0 which.1 made)
taken setting history kept index one made book within is among same_network same_problem =
    let h = kept_there setting history kept index one book within is in
    let problem_is : made.problem ≡ problem_at setting history one.version made.problem.at = sym same_problem ∙ h.is_problem ∙ ap (λ (p : ProblemValue). problem_at setting history one.version p.at) same_problem in
    let of_version : IsNetworkOf setting history one.version made.network = subst (IsNetworkOf setting history one.version) same_network h.network in
    let tabled : IsTabled setting history one.version made.problem.at made = made_tabled setting history one.version made.network made.problem made among.network problem_is of_version among.numbered among.is_made in
    if_there (λ which. IsTabled setting history which.0 which.1 made) kept index one within is (subst (λ (p : ProblemValue). IsTabled setting history one.version p.at made) (sym same_problem) tabled)

-- what is found with its table
pub tabled_as : (P : MadeProblem → Type 0) (one : KeptProblem) (o : Option (Bor (Arc MadeProblem Global))) → option_copied o ≡ one.made → ((made : MadeProblem) → made_of one ≡ Some made → P made) → IfSome o (λ made. P made.now.value)
tabled_as P one None is f = tt
tabled_as P one (Some made) is f = f made.now.value (ap (option_map (λ (m : Arc MadeProblem Global). m.value)) (sym is))
