-- Which company moved each wagon last: the one that sent its last accepted message.
use Rattle.std.specs.Prelude.{ℕ, Bool, false, nat_eq, if◌then◌else◌, List, [], ◌∷◌, ◌++◌, filter, map, Option, Some, None}
use Rattle.std.specs.Cmp.Lexicographic.{pointwise}
use Rattle.std.specs.List.{fold}
use Rattle.std.specs.Option.{option_or}
use Rattle.move_messages.specs.declared.event.Event.{Event}
use Rattle.move_messages.specs.declared.event.Event.TheVariants.{Message, Place, Withdraw, Commit, Revise}
use Rattle.wagons_and_orders.specs.declared.wagon_row.WagonRow.{WagonRow}

-- the company that sent an event, where it is a message of this wagon
abbrev pub mover_of : Event → (number : List ℕ) → Option (List ℕ)
mover_of (Message message) number = if pointwise nat_eq message.wagon number then Some message.id.company else None
mover_of (Place text) number = None
mover_of (Withdraw id) number = None
mover_of (Commit commit) number = None
mover_of (Revise network) number = None

abbrev pub mover_in : Option Event → (number : List ℕ) → Option (List ℕ)
mover_in (Some event) number = mover_of event number
mover_in None number = None

-- the company that sent a wagon's last message in a history, where there is one: a later message takes the place of those before it
abbrev pub last_mover : List Event → (number : List ℕ) → Option (List ℕ)
last_mover history number = fold (λ mover event. option_or (mover_of event number) mover) None history

-- whether a wagon was moved last by this company
abbrev pub is_company : Option (List ℕ) → (company : List ℕ) → Bool
is_company (Some mover) company = pointwise nat_eq mover company
is_company None company = false

unfoldable pub has_moved : (List ℕ → Option (List ℕ)) → (company number : List ℕ) → Bool
has_moved mover company number = is_company (mover number) company

-- a number more where this holds
abbrev pub with_number_where : List (List ℕ) → (number : List ℕ) → (holds : Bool) → List (List ℕ)
with_number_where numbers number holds = if holds then numbers ++ number ∷ [] else numbers

-- the numbers of those of these wagons that it moved last
abbrev pub numbers_of : (List ℕ → Option (List ℕ)) → (company : List ℕ) → List WagonRow → List (List ℕ)
numbers_of mover company rows = filter (has_moved mover company) (map (λ row. row.number) rows)

abbrev pub wagons_moved_by : List Event → (company : List ℕ) → List WagonRow → List (List ℕ)
wagons_moved_by history company rows = numbers_of (last_mover history) company rows
