-- The walks over a commit's pairs, one more at a time.
use Rattle.std.proofs.Common.{◌≡◌, ◌∙◌, ℕ, ◌+◌, ◌<◌, Bool, true, false, cond, List, ◌∷◌, length, drop, take, get_or, Option, Some, None, refl, sym, ap, add-one}
use Rattle.std.specs.Prelude.{slice_get}
use Rattle.std.proofs.lemmas.Option.{slice_get-get_or}
use Rattle.std.proofs.Math.Seq.{drop-cons}
use Rattle.cost_table.specs.Problem.{ProblemValue}
use Rattle.price_checker.specs.Faults.{first_below}
use Rattle.price_checker.proofs.FirstBelow.{first_below_more, first_below_some}
use Rattle.operating_db.specs.Commits.{Pair}
use Rattle.operating_db.specs.Office.{Office}
use Rattle.commit_book.specs.Commits.{free_in, is_same_free, lacks_fewer, order_changed, order_changed_at, wagon_changed, wagon_of}
use Rattle.faults.specs.declared.faults.Refusal.{Refusal}
use Rattle.faults.specs.declared.faults.Refusal.TheVariants.{WagonChanged, OrderChanged}

parts : (pairs : List Pair) (i : ℕ) (pair : Pair) → i < length pairs → pair ≡ get_or pairs i pair → drop i pairs ≡ pair ∷ drop (i + 1) pairs
parts pairs i pair lt is = drop-cons pairs i pair lt ∙ rw (← is, add-one) refl

pub wagon_here : (problem : ProblemValue) (now : Office) (pairs : List Pair) (i : ℕ) (pair : Pair) (total : Option Refusal) → i < length pairs → pair ≡ get_or pairs i pair
    → is_same_free (wagon_of problem pair.0) (free_in now pair.0) ≡ false → wagon_changed problem now (drop i pairs) ≡ total → Some (WagonChanged pair.0) ≡ total
wagon_here problem now pairs i pair total lt is test so_far =
    let one : wagon_changed problem now (drop i pairs) ≡ Some (WagonChanged pair.0) = rw (parts pairs i pair lt is, test) refl in
    sym one ∙ so_far

pub wagon_next : (problem : ProblemValue) (now : Office) (pairs : List Pair) (i : ℕ) (pair : Pair) (total : Option Refusal) → i < length pairs → pair ≡ get_or pairs i pair
    → is_same_free (wagon_of problem pair.0) (free_in now pair.0) ≡ true → wagon_changed problem now (drop i pairs) ≡ total → wagon_changed problem now (drop (i + 1) pairs) ≡ total
wagon_next problem now pairs i pair total lt is test so_far =
    let one : wagon_changed problem now (drop i pairs) ≡ wagon_changed problem now (drop (i + 1) pairs) = rw (parts pairs i pair lt is, test) refl in
    sym one ∙ so_far

-- what is found at a pair, with the pairs up to it counted
changed_at : (now : Office) (pairs : List Pair) (k : ℕ) (pair : Pair) (b : Bool) → k < length pairs → pair ≡ get_or pairs k pair → lacks_fewer now (take (k + 1) pairs) pair.1 ≡ b → order_changed_at now pairs k ≡ cond b (Some (OrderChanged pair.1)) None
changed_at now pairs k pair b lt is test =
    let there : slice_get pairs k ≡ Some pair = slice_get-get_or pairs k pair lt ∙ ap (λ (p : Pair). Some p) (sym is) in
    rw (there, test) refl

pub order_here : (now : Office) (pairs : List Pair) (k : ℕ) (pair : Pair) → k < length pairs → pair ≡ get_or pairs k pair → lacks_fewer now (take (k + 1) pairs) pair.1 ≡ true → first_below k (order_changed_at now pairs) ≡ None
    → Some (OrderChanged pair.1) ≡ order_changed now pairs
order_here now pairs k pair lt is test none = sym (first_below_some (length pairs) k (order_changed_at now pairs) (OrderChanged pair.1) lt none (changed_at now pairs k pair true lt is test))

pub order_next : (now : Office) (pairs : List Pair) (k : ℕ) (pair : Pair) → k < length pairs → pair ≡ get_or pairs k pair → lacks_fewer now (take (k + 1) pairs) pair.1 ≡ false → first_below k (order_changed_at now pairs) ≡ None
    → first_below (k + 1) (order_changed_at now pairs) ≡ None
order_next now pairs k pair lt is test none = first_below_more k (order_changed_at now pairs) none (changed_at now pairs k pair false lt is test)
