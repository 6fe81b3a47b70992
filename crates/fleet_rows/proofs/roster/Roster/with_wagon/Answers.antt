use Rattle.std.proofs.Common.{◌≡◌, ◌∷◌, false, subst}
use Rattle.std.proofs.lemmas.List.Sorted.{IsPermutation-insert}
use Rattle.std.specs.List.Sorted.{IsPermutation}
use Rattle.fleet_rows.proofs.RosterLemmas.{IsRoster-insert, none_at_gap}
use Rattle.fleet_rows.specs.SameWagons.{has_wagon}
use Rattle.fleet_rows.specs.inner.Gaps.{IsGapFor}
use Rattle.fleet_rows.proofs.roster.Roster.with_wagon.Goals as goal

pub invariant_of-result : goal.invariant_of-result
invariant_of-result c =
    let gap = subst (λ rows. IsGapFor rows c.args.row.number c.in-Err.index) c.deref.ensures.value c.in-Err.ensures.absent in
    rw c.in_ok-insert-in-Err.ensures.items (IsRoster-insert c.self.inside.rows.items c.args.row c.in-Err.index c.self.invariant c.requires.row (rw c.self.view_is c.requires.room) gap)

pub returns-in_ok-insert-in-Err-clause-added : goal.returns-in_ok-insert-in-Err-clause-added
returns-in_ok-insert-in-Err-clause-added c =
    let inserted = IsPermutation-insert c.self.inside.rows.items c.in-Err.index c.args.row in
    subst (λ rows. IsPermutation (c.args.row ∷ rows) c.insert.new.self.items) c.self.view_is (rw c.in_ok-insert-in-Err.ensures.items inserted)

pub returns-in_ok-insert-in-Err-clause-new : goal.returns-in_ok-insert-in-Err-clause-new
returns-in_ok-insert-in-Err-clause-new c =
    let gap = subst (λ rows. IsGapFor rows c.args.row.number c.in-Err.index) c.deref.ensures.value c.in-Err.ensures.absent in
    subst (λ rows. has_wagon rows c.args.row.number ≡ false) c.self.view_is (none_at_gap c.self.inside.rows.items c.args.row.number c.in-Err.index gap)

pub returns-in_ok-insert-in-Err-clause-roster : goal.returns-in_ok-insert-in-Err-clause-roster
returns-in_ok-insert-in-Err-clause-roster c =
    let gap = subst (λ rows. IsGapFor rows c.args.row.number c.in-Err.index) c.deref.ensures.value c.in-Err.ensures.absent in
    rw c.in_ok-insert-in-Err.ensures.items (IsRoster-insert c.self.inside.rows.items c.args.row c.in-Err.index c.self.invariant c.requires.row (rw c.self.view_is c.requires.room) gap)
