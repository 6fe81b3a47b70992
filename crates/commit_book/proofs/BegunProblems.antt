-- A begun problem: the snapshot of a book's last version, with the table of its problem.
use Rattle.std.proofs.Common.{◌≡◌, ℕ, List, length, take, Some, arith, subst}
use Rattle.std.proofs.lemmas.List.{take_all}
use Rattle.cost_table.specs.Problem.{ProblemValue}
use Rattle.cost_table.specs.Table.{Table}
use Rattle.line_network.specs.Network.{NetworkValue}
use Rattle.line_network.specs.Networks.{network_at}
use Rattle.move_messages.specs.declared.event.Event.{Event}
use Rattle.operating_db.specs.Problem.{problem_of}
use Rattle.price_checker.specs.Snap.{SnapValue}
use Rattle.problem_table.specs.Allowed.{IsTableOf}
use Rattle.commit_book.specs.BegunProblem.{IsBegunProblem}
use Rattle.commit_book.specs.History.{IsTableAt, replay}
use Rattle.commit_book.specs.Setting.{Setting}
use Rattle.commit_book.specs.Snap.{snap_of}

-- the last version's snapshot at a moment is one with each table of that version at that moment
pub begun_by : (setting : Setting) (history : List Event) (at n moment : ℕ) (snap : SnapValue) (networks : List NetworkValue) (table : Table)
    → snap ≡ snap_of setting history at → networks ≡ setting.networks → n ≡ length history → moment ≡ at → IsTableAt setting history n moment table
    → IsBegunProblem (record { snap = snap; networks = networks; table = table })
begun_by setting history at n moment snap networks table is_snap same last now h =
    let of_last : IsTableAt setting history (length history) at table = subst (λ (m : ℕ). IsTableAt setting history (length history) m table) now (subst (λ (k : ℕ). IsTableAt setting history k moment table) last h) in
    let whole : take (length history) history ≡ history = take_all (length history) history (omega arith) in
    rw (is_snap, same) (record {
      network = of_last.network;
      in_force = subst (λ (events : List Event). network_at setting.networks (replay setting events).network ≡ Some of_last.network) whole of_last.in_force;
      table = subst (λ (events : List Event). IsTableOf of_last.network (problem_of (replay setting events) at) table) whole of_last.of_problem;
    })
