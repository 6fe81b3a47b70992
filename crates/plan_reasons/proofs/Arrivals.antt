-- When wagons arrive.
use Rattle.std.proofs.Common.{◌≡◌, ◌<◌, ℕ, List, length, get_or, Option, Some, None, refl, ap, ◌∙◌, subst, arith}
use Rattle.std.specs.Prelude.{IfNone, IfSome, IfOk, IsSome, Ok, Result, slice_get}
use Rattle.std.proofs.lemmas.Option.{slice_get_read}
use Rattle.std.proofs.lemmas.List.{length-map}
use Rattle.wagons_and_orders.specs.Wanted.{WantedOrder}
use Rattle.cost_table.specs.Problem.{ProblemValue}
use Rattle.cost_table.specs.Table.{Table, order_count}
use Rattle.problem_table.specs.Allowed.{IsTableOf}
use Rattle.line_network.specs.Network.{NetworkValue}
use Rattle.line_network.specs.Distance.{IsDistance}
use Rattle.line_network.specs.DistanceAnswers.{HasNoWalk}

-- the table has as many orders as the problem
pub order_count-table : (net : NetworkValue) (problem : ProblemValue) (t : Table) → IsTableOf net problem t → order_count t ≡ length problem.orders
order_count-table net problem t table = ap length table.lacks ∙ length-map problem.orders (λ (o : WantedOrder). o.lack)

-- where there is a distance, it is answered
pub some_way : (net : NetworkValue) (a b : List ℕ) (d : ℕ × ℕ) (answer : Option (ℕ × ℕ)) → IsDistance net a b d → IfNone answer (HasNoWalk net a b) → IsSome answer
some_way net a b d (Some way) distance none = refl
some_way net a b d None distance none = absurd (none distance.walk distance.leads)

-- what is read at a position of a list stands there in one that is the same
pub standing : {A : Type 0} (read xs : List A) (i : ℕ) (x : A) → read ≡ xs → i < length xs → x ≡ get_or read i x → slice_get xs i ≡ Some x
standing {A} read xs i x same lt is = subst (λ (ys : List A). slice_get ys i ≡ Some x) same (slice_get_read read (length read) i x refl (omega (arith, ap length same)) is)

pub of_some : {A : Type 0} (P : A → Type 0) (answer : Option A) (x : A) → answer ≡ Some x → IfSome answer P → P x
of_some {A} P answer x e h = subst (λ (o : Option A). IfSome o P) e h

pub of_ok : {A E : Type 0} (P : A → Type 0) (answer : Result A E) (x : A) → answer ≡ Ok x → IfOk answer P → P x
of_ok {A} {E} P answer x e h = subst (λ (o : Result A E). IfOk o P) e h
